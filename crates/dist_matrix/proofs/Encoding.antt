-- The round that makes the code strips of a group anew turns what the ranks hold into what is encoded.
use Rattle.std.proofs.Common.{◌≡◌, ◌≢◌, ◌+◌, ◌-◌, ◌*◌, ◌%◌, ◌<◌, ◌≤◌, ◌==◌, ◌&&◌, ◌||◌, ◌⊎◌, ℕ, zero, suc, Bool, true, false, not, nat_lt, Option, Some, None, is_some, List, [], ◌∷◌, ◌++◌, refl, sym, ap, subst, ◌∙◌, inl, inr, ⊎_elim, IsTrue, arith}
use Rattle.std.specs.Prelude.{if◌then◌else◌}
use Rattle.std.proofs.lemmas.Bool.{cases_Bool, true≢false, and_parts, and_from, or_left, or_cases, eqb-true, lt-ltb, ltb-true, le-ltb, cases_lt}
use Rattle.std.proofs.lemmas.Bool.Decides.{eqb_tells}
use Rattle.field_core.specs.Sums.{sum_to}
use Rattle.cauchy_code.specs.Cauchy.{weight}
use Rattle.run_data.specs.Matrix.{Matrix, cols, entry, tabulate, zero_matrix}
use Rattle.run_data.specs.Parts.{whole_part, part_of, part_entry}
use Rattle.run_data.proofs.Matrices.{rows-tabulate, cols-tabulate}
use Rattle.local_blas.specs.Kernels.{with_added, everywhere}
use Rattle.rank_run.specs.declared.round.Event.{Event}
use Rattle.rank_run.specs.declared.round.Event.TheVariants.{Local, Move}
use Rattle.blacs_grid.specs.declared.Scope.TheVariants.{Row}
use Rattle.blacs_grid.specs.Places.{width, row_of, col_of, rank_at, is_member, is_in_scope}
use Rattle.blacs_grid.proofs.PlaceLaws.{width-pos, row_of-rank_at, col_of-rank_at, col_of-lt, is_member-rank_at}
use Rattle.rank_machine.specs.declared.slot.Slot.{Slot}
use Rattle.rank_machine.specs.declared.slot.SlotKind.TheVariants.{Data, Code, Work}
use Rattle.rank_machine.specs.declared.slot.Tile.{Tile}
use Rattle.rank_machine.specs.declared.slot.Tile.TheVariants.{Words}
use Rattle.rank_machine.specs.declared.slot.Piece.{Piece}
use Rattle.rank_machine.specs.declared.slot.Piece.TheVariants.{Whole}
use Rattle.rank_machine.specs.declared.kernel.Cut.TheVariants as cut
use Rattle.rank_machine.specs.declared.kernel.Kernel.{Kernel}
use Rattle.rank_machine.specs.declared.kernel.Kernel.TheVariants as k
use Rattle.rank_machine.specs.declared.layout.Layout.{Layout}
use Rattle.rank_machine.specs.Setting.{Setting, strip_rows, grid_of_rank}
use Rattle.rank_machine.specs.State.{State, same_slot}
use Rattle.rank_machine.specs.Effect.{words_of, cut_out, made_by}
use Rattle.rank_machine.specs.Legal.{is_path, holds_words, height, breadth, same_area}
use Rattle.rank_machine.specs.CodeLaw.{slot_at}
use Rattle.rank_slots.specs.Rank.{Rank}
use Rattle.rank_slots.proofs.CellLaws.{same_slot-refl}
use Rattle.round_laws.specs.Holdings.{Holding, put, may_put, may_alter, IsBut, CanRun, CanPut, holdings}
use Rattle.round_laws.specs.Turns.{Turns, each_below, on_grid, at_place, IsGridOf}
use Rattle.round_laws.proofs.Holds.{put-here, put-other, put-free_here, put-free_other, but_put, but_then, read-shaped}
use Rattle.round_laws.proofs.Laws.{turns_then, turns_each, turns_same, turns_apart}
use Rattle.round_laws.proofs.Grids.{on_grid-at, at_place-here, at_place-else, in_row, of_row, turns_rows, turns_place_work, turns_place_move}
use Rattle.round_laws.proofs.Factors.{factor_weight, or_right}
use Rattle.round_laws.proofs.Pieces.{holds_whole, words_held, put_whole, alter, equal, same_areas}
use Rattle.dist_matrix.specs.Encode.{work_slot, adding_events, summing_events, row_events, group_events, IsEncodable, coded_strip, IsEncoded}
use Rattle.dist_matrix.proofs.StripSums.{IsStrip, strip_is, sum_begins, sum_goes_on}

module _ (s : Setting) (st : State) (d : Layout) (line group : ℕ) (f : ℕ → ℕ → Holding) where
  -- the slots that change on a code rank
  abbrev coding : Slot → Bool
  coding x = same_slot x (slot_at Code line group) || same_slot x work_slot

  code_tested : coding (slot_at Code line group) ≡ true
  code_tested = or_left (same_slot (slot_at Code line group) (slot_at Code line group)) (same_slot (slot_at Code line group) work_slot) (same_slot-refl (slot_at Code line group))

  work_tested : coding work_slot ≡ true
  work_tested = same_slot-refl work_slot

  -- what a code rank holds after the strips of the first n data ranks
  abbrev pub coded_after : ℕ → ℕ → ℕ → Holding
  coded_after row c zero = (holdings s st).applied (f row (d.grid.q + c)) (k.Zero (slot_at Code line group) (strip_rows d row) d.desc.nb)
  coded_after row c (suc n) =
      (holdings s st).applied ((holdings s st).written (coded_after row c n) (Whole work_slot) ((holdings s st).read (f row n) (Whole (slot_at Data line group))))
      (k.Add (Whole (slot_at Code line group)) (weight s.inverse d.grid.q c n) (Whole work_slot) cut.Whole)

  -- and with the next one in its work slot
  abbrev sent_to : ℕ → ℕ → ℕ → Holding
  sent_to row c n = (holdings s st).written (coded_after row c n) (Whole work_slot) ((holdings s st).read (f row n) (Whole (slot_at Data line group)))

  abbrev strip_at : ℕ → ℕ → Matrix
  strip_at row q = words_of ((f row q).tiles (slot_at Data line group))

  abbrev term : ℕ → ℕ → ℕ → ℕ → ℕ → ℕ
  term row c i j q = weight s.inverse d.grid.q c q * entry (strip_at row q) i j

  abbrev copy_of : Matrix → Matrix
  copy_of m = part_of m (whole_part m)

  record IsSumming (row c n : ℕ) (h : Holding) : Type 0 where
    codes : h.tiles (slot_at Code line group) ≡ Some (Words (coded_strip s d line group f row c n))
    free : h.free (slot_at Code line group) ≡ true
    work_free : may_put h work_slot ≡ true
    rest : IsBut coding (f row (d.grid.q + c)) h

  module _ (some : 0 < s.modulus) (of : IsGridOf s d.grid) (ready : IsEncodable d line group f) (anywhere : (from to : ℕ) → IsTrue (is_path s st from to)) where
    the_strip : (row n : ℕ) → row < d.grid.p → n < d.grid.q → IsStrip d row ((f row n).tiles (slot_at Data line group))
    the_strip row n hr lt = strip_is d row ((f row n).tiles (slot_at Data line group)) (ready.strips row n hr lt)

    -- what is sent is the strip
    message : (row n : ℕ) → row < d.grid.p → n < d.grid.q → (holdings s st).read (f row n) (Whole (slot_at Data line group)) ≡ Words (copy_of (strip_at row n))
    message row n hr lt = ap (cut_out (Whole (slot_at Data line group))) (the_strip row n hr lt).words

    summing-starts : (row c : ℕ) → row < d.grid.p → c < d.grid.f → IsSumming row c 0 (coded_after row c 0)
    summing-starts row c hr hc =
        let h = f row (d.grid.q + c) in
        let slot = slot_at Code line group in
        let t = Words (zero_matrix (strip_rows d row) d.desc.nb) in
        record {
          codes = put-here h slot t ∙ ap (λ m. Some (Words m)) (sum_begins s.modulus (strip_rows d row) d.desc.nb (term row c) some);
          free = put-free_here h slot t;
          work_free = (λ i. put-free_other h slot work_slot t refl i || not (is_some (put-other h slot work_slot t refl i))) ∙ ready.free row c hr hc;
          rest = but_put coding h slot t code_tested;
        }

    -- what the code rank holds before it adds
    code_there : (row c n : ℕ) → IsSumming row c n (coded_after row c n) → (sent_to row c n).tiles (slot_at Code line group) ≡ Some (Words (coded_strip s d line group f row c n))
    code_there row c n is = put-other (coded_after row c n) work_slot (slot_at Code line group) ((holdings s st).read (f row n) (Whole (slot_at Data line group))) refl ∙ is.codes

    strip_there : (row c n : ℕ) → row < d.grid.p → n < d.grid.q → (sent_to row c n).tiles work_slot ≡ Some (Words (copy_of (strip_at row n)))
    strip_there row c n hr lt = put-here (coded_after row c n) work_slot ((holdings s st).read (f row n) (Whole (slot_at Data line group))) ∙ ap Some (message row n hr lt)

    summing-goes_on : (row c n : ℕ) → row < d.grid.p → c < d.grid.f → n < d.grid.q → IsSumming row c n (coded_after row c n) → IsSumming row c (suc n) (coded_after row c (suc n))
    summing-goes_on row c n hr hc lt is =
        let h = coded_after row c n in
        let h1 = sent_to row c n in
        let slot = slot_at Code line group in
        let msg = (holdings s st).read (f row n) (Whole (slot_at Data line group)) in
        let w = weight s.inverse d.grid.q c n in
        let strip = the_strip row n hr lt in
        let a = code_there row c n is in
        let b = strip_there row c n hr lt in
        let made = made_by s h1.number h1.tiles (k.Add (Whole slot) w (Whole work_slot) cut.Whole) in
        let made_is : made ≡ Words (coded_strip s d line group f row c (suc n)) =
        (λ i. Words (with_added s.modulus (words_of (a i)) (whole_part (words_of (a i))) w (words_of (b i)) (whole_part (words_of (b i))) everywhere))
        ∙ ap Words (sum_goes_on s.modulus (strip_rows d row) d.desc.nb n w (term row c) (coded_strip s d line group f row c n) (strip_at row n) refl strip.rows strip.columns (λ i j hi hj. refl)) in
        record {
          codes = put-here h1 slot made ∙ ap Some made_is;
          free = put-free_here h1 slot made;
          work_free = or_left ((coded_after row c (suc n)).free work_slot) (not (is_some ((coded_after row c (suc n)).tiles work_slot))) (put-free_other h1 slot work_slot made refl ∙ put-free_here h work_slot msg);
          rest = but_then coding (f row (d.grid.q + c)) h (coded_after row c (suc n)) is.rest
              (but_then coding h h1 (coded_after row c (suc n)) (but_put coding h work_slot msg work_tested) (but_put coding h1 slot made code_tested));
        }

    summing : (row c n : ℕ) → row < d.grid.p → c < d.grid.f → n ≤ d.grid.q → IsSumming row c n (coded_after row c n)
    summing row c zero hr hc le = summing-starts row c hr hc
    summing row c (suc n) hr hc le = summing-goes_on row c n hr hc (omega arith) (summing row c n hr hc (omega arith))

    on_code : (row c : ℕ) → row < d.grid.p → c < d.grid.f → d.grid.q + c < width d.grid
    on_code row c hr hc = omega arith

    -- ---- the kernels may be run
    can_zero : (row c : ℕ) → row < d.grid.p → c < d.grid.f → CanRun s st (f row (d.grid.q + c)) (k.Zero (slot_at Code line group) (strip_rows d row) d.desc.nb)
    can_zero row c hr hc = record { held = refl; writable = ready.codes row c hr hc; apart = refl; shaped = refl; divisors = refl; placed = refl; strips = refl; factor = tt }

    can_add : (row c n : ℕ) → row < d.grid.p → c < d.grid.f → n < d.grid.q → CanRun s st (sent_to row c n) (k.Add (Whole (slot_at Code line group)) (weight s.inverse d.grid.q c n) (Whole work_slot) cut.Whole)
    can_add row c n hr hc lt =
        let is = summing row c n hr hc (omega arith) in
        let h = coded_after row c n in
        let h1 = sent_to row c n in
        let slot = slot_at Code line group in
        let msg = (holdings s st).read (f row n) (Whole (slot_at Data line group)) in
        let strip = the_strip row n hr lt in
        let a = code_there row c n is in
        let b = strip_there row c n hr lt in
        let sum = coded_strip s d line group f row c n in
        let sent = copy_of (strip_at row n) in
        let rows : (words_of (h1.tiles slot)).rows - 0 ≡ (words_of (h1.tiles work_slot)).rows - 0 =
        ap (λ o. (words_of o).rows - 0) a ∙ ap (λ v. v - 0) (rows-tabulate (strip_rows d row) d.desc.nb (λ i j. sum_to n (term row c i j) % s.modulus))
        ∙ (let e : strip_rows d row - 0 ≡ ((strip_at row n).rows - 0) - 0 = omega (arith, strip.rows) in e)
        ∙ ap (λ v. v - 0) (sym (rows-tabulate ((strip_at row n).rows - 0) (cols (strip_at row n) - 0) (part_entry (strip_at row n) (whole_part (strip_at row n)))))
        ∙ ap (λ o. (words_of o).rows - 0) (sym b) in
        let columns : cols (words_of (h1.tiles slot)) - 0 ≡ cols (words_of (h1.tiles work_slot)) - 0 =
        ap (λ o. cols (words_of o) - 0) a ∙ ap (λ v. v - 0) (cols-tabulate (strip_rows d row) d.desc.nb (λ i j. sum_to n (term row c i j) % s.modulus))
        ∙ (let e : d.desc.nb - 0 ≡ (cols (strip_at row n) - 0) - 0 = omega (arith, strip.columns) in e)
        ∙ ap (λ v. v - 0) (sym (cols-tabulate ((strip_at row n).rows - 0) (cols (strip_at row n) - 0) (part_entry (strip_at row n) (whole_part (strip_at row n)))))
        ∙ ap (λ o. cols (words_of o) - 0) (sym b) in
        let place = on_code row c hr hc in
        let own : grid_of_rank s h1.number ≡ d.grid =
        ap (grid_of_rank s) (is.rest.number ∙ ready.numbers row (d.grid.q + c) hr place) ∙ of.own (rank_at d.grid row (d.grid.q + c)) (is_member-rank_at d.grid row (d.grid.q + c) hr place) in
        record {
          held = and_from (holds_words h1.tiles (Whole slot)) (holds_words h1.tiles (Whole work_slot)) (holds_whole h1.tiles slot sum a) (holds_whole h1.tiles work_slot sent b);
          writable = alter h1 slot (Words sum) a (put-free_other h work_slot slot msg refl ∙ is.free);
          apart = refl;
          shaped = same_areas (whole_part (words_of (h1.tiles slot))) (whole_part (words_of (h1.tiles work_slot))) rows columns;
          divisors = refl;
          placed = refl;
          strips = refl;
          factor = factor_weight s st h1.number d.grid c n own hc lt;
        }

    -- ---- one code rank
    -- the ranks that it sees: the data ranks of its row, and itself
    abbrev seen : ℕ → ℕ → ℕ → Bool
    seen row c r = is_in_scope d.grid (Row row) r && (nat_lt (col_of d.grid r) d.grid.q || (col_of d.grid r == d.grid.q + c))

    seen_member : (row c r : ℕ) → seen row c r ≡ true → is_member d.grid r ≡ true
    seen_member row c r e = (of_row d.grid row r (and_parts (is_in_scope d.grid (Row row) r) (nat_lt (col_of d.grid r) d.grid.q || (col_of d.grid r == d.grid.q + c)) e).0).0

    seen_data : (row c q : ℕ) → row < d.grid.p → q < d.grid.q → seen row c (rank_at d.grid row q) ≡ true
    seen_data row c q hr lt =
        let wide : q < width d.grid = omega arith in
        and_from (is_in_scope d.grid (Row row) (rank_at d.grid row q)) (nat_lt (col_of d.grid (rank_at d.grid row q)) d.grid.q || (col_of d.grid (rank_at d.grid row q) == d.grid.q + c))
        (in_row d.grid row q hr wide)
        (or_left (nat_lt (col_of d.grid (rank_at d.grid row q)) d.grid.q) (col_of d.grid (rank_at d.grid row q) == d.grid.q + c) (ap (λ v. nat_lt v d.grid.q) (col_of-rank_at d.grid row q wide) ∙ lt-ltb q d.grid.q lt))

    seen_itself : (row c : ℕ) → row < d.grid.p → c < d.grid.f → seen row c (rank_at d.grid row (d.grid.q + c)) ≡ true
    seen_itself row c hr hc =
        let wide = on_code row c hr hc in
        let at = rank_at d.grid row (d.grid.q + c) in
        and_from (is_in_scope d.grid (Row row) at) (nat_lt (col_of d.grid at) d.grid.q || (col_of d.grid at == d.grid.q + c))
        (in_row d.grid row (d.grid.q + c) hr wide)
        (or_right (nat_lt (col_of d.grid at) d.grid.q) (col_of d.grid at == d.grid.q + c) (ap (λ v. v == d.grid.q + c) (col_of-rank_at d.grid row (d.grid.q + c) wide) ∙ equal (d.grid.q + c) (d.grid.q + c) refl))

    -- the grid with this code rank after n strips
    abbrev amid : ℕ → ℕ → ℕ → ℕ → ℕ → Holding
    amid row c n = at_place f row (d.grid.q + c) (coded_after row c n)

    abbrev amid_sent : ℕ → ℕ → ℕ → ℕ → ℕ → Holding
    amid_sent row c n = at_place f row (d.grid.q + c) (sent_to row c n)

    code_zero : (row c : ℕ) → row < d.grid.p → c < d.grid.f → Turns s st (seen row c) (Local (rank_at d.grid row (d.grid.q + c)) (k.Zero (slot_at Code line group) (strip_rows d row) d.desc.nb) ∷ []) (on_grid d.grid f) (on_grid d.grid (amid row c 0))
    code_zero row c hr hc =
        turns_place_work s st d.grid of (seen row c) row (d.grid.q + c) (k.Zero (slot_at Code line group) (strip_rows d row) d.desc.nb) f (amid row c 0) hr (on_code row c hr hc) (seen_itself row c hr hc) (seen_member row c)
        (can_zero row c hr hc) (at_place-here f row (d.grid.q + c) (coded_after row c 0)) (at_place-else f row (d.grid.q + c) (coded_after row c 0))

    code_one : (row c n : ℕ) → row < d.grid.p → c < d.grid.f → n < d.grid.q → Turns s st (seen row c) (adding_events s.inverse d line group row c n) (on_grid d.grid (amid row c n)) (on_grid d.grid (amid row c (suc n)))
    code_one row c n hr hc lt =
        let m = holdings s st in
        let at = d.grid.q + c in
        let wide = on_code row c hr hc in
        let is = summing row c n hr hc (omega arith) in
        let source : amid row c n row n ≡ f row n = at_place-else f row at (coded_after row c n) row n (λ u v. omega (arith, v, lt)) in
        let here : amid row c n row at ≡ coded_after row c n = at_place-here f row at (coded_after row c n) in
        let sent : amid_sent row c n row at ≡ sent_to row c n = at_place-here f row at (sent_to row c n) in
        turns_then s st (seen row c) (Move (rank_at d.grid row n) (rank_at d.grid row at) (Whole (slot_at Data line group)) (Whole work_slot) ∷ []) (Local (rank_at d.grid row at) (k.Add (Whole (slot_at Code line group)) (weight s.inverse d.grid.q c n) (Whole work_slot) cut.Whole) ∷ [])
        (on_grid d.grid (amid row c n)) (on_grid d.grid (amid_sent row c n)) (on_grid d.grid (amid row c (suc n)))
        (turns_place_move s st d.grid of (seen row c) row n row at (Whole (slot_at Data line group)) (Whole work_slot) (amid row c n) (amid_sent row c n) hr (omega arith) hr wide (λ u v. omega (arith, v, lt)) (seen_data row c n hr lt) (seen_itself row c hr hc) (seen_member row c)
        (anywhere (rank_at d.grid row n) (rank_at d.grid row at))
        (subst (λ h. m.can_read h (Whole (slot_at Data line group))) (sym source) (words_held (f row n).tiles (slot_at Data line group) (strip_at row n) (the_strip row n hr lt).words))
        (subst (λ h. CanPut h (Whole work_slot) (m.read (amid row c n row n) (Whole (slot_at Data line group)))) (sym here) (put_whole (coded_after row c n) work_slot (amid row c n row n).tiles is.work_free (Whole (slot_at Data line group))))
        (sent ∙ (λ i. m.written (sym here i) (Whole work_slot) (m.read (sym source i) (Whole (slot_at Data line group)))))
        (λ a b no. at_place-else f row at (sent_to row c n) a b no ∙ sym (at_place-else f row at (coded_after row c n) a b no)))
        (turns_place_work s st d.grid of (seen row c) row at (k.Add (Whole (slot_at Code line group)) (weight s.inverse d.grid.q c n) (Whole work_slot) cut.Whole) (amid_sent row c n) (amid row c (suc n)) hr wide (seen_itself row c hr hc) (seen_member row c)
        (subst (λ h. CanRun s st h (k.Add (Whole (slot_at Code line group)) (weight s.inverse d.grid.q c n) (Whole work_slot) cut.Whole)) (sym sent) (can_add row c n hr hc lt))
        (at_place-here f row at (coded_after row c (suc n)) ∙ ap (λ h. m.applied h (k.Add (Whole (slot_at Code line group)) (weight s.inverse d.grid.q c n) (Whole work_slot) cut.Whole)) (sym sent))
        (λ a b no. at_place-else f row at (coded_after row c (suc n)) a b no ∙ sym (at_place-else f row at (sent_to row c n) a b no)))

    code_column : (row c : ℕ) → row < d.grid.p → c < d.grid.f → Turns s st (seen row c) (summing_events s.inverse d line group row c) (on_grid d.grid f) (on_grid d.grid (amid row c d.grid.q))
    code_column row c hr hc =
        turns_then s st (seen row c) (Local (rank_at d.grid row (d.grid.q + c)) (k.Zero (slot_at Code line group) (strip_rows d row) d.desc.nb) ∷ []) (each_below d.grid.q (adding_events s.inverse d line group row c))
        (on_grid d.grid f) (on_grid d.grid (amid row c 0)) (on_grid d.grid (amid row c d.grid.q)) (code_zero row c hr hc)
        (turns_each s st (seen row c) d.grid.q (adding_events s.inverse d line group row c) (λ n. on_grid d.grid (amid row c n)) (λ n lt. code_one row c n hr hc lt))

    -- ---- all code ranks
    abbrev pub encoded : ℕ → ℕ → Holding
    encoded a b = if nat_lt b d.grid.q then f a b else coded_after a (b - d.grid.q) d.grid.q

    encoded-data : (a b : ℕ) → b < d.grid.q → encoded a b ≡ f a b
    encoded-data a b lt = ap (λ v. if v then f a b else coded_after a (b - d.grid.q) d.grid.q) (lt-ltb b d.grid.q lt)

    encoded-code : (a c : ℕ) → encoded a (d.grid.q + c) ≡ coded_after a c d.grid.q
    encoded-code a c =
        ap (λ v. if v then f a (d.grid.q + c) else coded_after a (d.grid.q + c - d.grid.q) d.grid.q) (le-ltb (d.grid.q + c) d.grid.q (omega arith))
        ∙ ap (λ v. coded_after a v d.grid.q) (let e : d.grid.q + c - d.grid.q ≡ c = omega arith in e)

    -- a rank that is seen is a data rank, or the code rank
    seen_is : (row c r : ℕ) → seen row c r ≡ true → (row_of d.grid r ≡ row) × ((col_of d.grid r < d.grid.q) ⊎ (col_of d.grid r ≡ d.grid.q + c))
    seen_is row c r e =
        let z = and_parts (is_in_scope d.grid (Row row) r) (nat_lt (col_of d.grid r) d.grid.q || (col_of d.grid r == d.grid.q + c)) e in
        ((of_row d.grid row r z.0).1, ⊎_elim (λ (u : nat_lt (col_of d.grid r) d.grid.q ≡ true). inl (ltb-true (col_of d.grid r) d.grid.q u)) (λ (u : (col_of d.grid r == d.grid.q + c) ≡ true). inr (eqb-true (col_of d.grid r) (d.grid.q + c) u)) (or_cases (nat_lt (col_of d.grid r) d.grid.q) (col_of d.grid r == d.grid.q + c) z.1))

    same_here : (row c r : ℕ) → seen row c r ≡ true → on_grid d.grid encoded r ≡ on_grid d.grid (amid row c d.grid.q) r
    same_here row c r e =
        let z = seen_is row c r e in
        elim (z.1) [
          | inl lt ↦
              encoded-data (row_of d.grid r) (col_of d.grid r) lt
              ∙ sym (at_place-else f row (d.grid.q + c) (coded_after row c d.grid.q) (row_of d.grid r) (col_of d.grid r) (λ u v. omega (arith, v, lt)))
          | inr at ↦
              (λ i. encoded (z.0 i) (at i)) ∙ encoded-code row c
              ∙ sym (at_place-here f row (d.grid.q + c) (coded_after row c d.grid.q))
              ∙ sym (λ i. at_place f row (d.grid.q + c) (coded_after row c d.grid.q) (z.0 i) (at i))
        ]

    encodes_row : (row : ℕ) → row < d.grid.p → Turns s st (is_in_scope d.grid (Row row)) (row_events s.inverse d line group row) (on_grid d.grid f) (on_grid d.grid encoded)
    encodes_row row hr =
        turns_apart s st d.grid.f (seen row) (is_in_scope d.grid (Row row)) (summing_events s.inverse d line group row) (on_grid d.grid f) (on_grid d.grid encoded)
        (λ c hc. turns_same s st (seen row c) (summing_events s.inverse d line group row c) (on_grid d.grid f) (on_grid d.grid (amid row c d.grid.q)) (on_grid d.grid f) (on_grid d.grid encoded) (λ r e. refl) (same_here row c) (code_column row c hr hc))
        (λ i j r hi hj ne e u.
        let a = (seen_is row i r e).1 in
        let b = (seen_is row j r u).1 in
        elim a [
          | inl lt ↦ encoded-data (row_of d.grid r) (col_of d.grid r) lt
          | inr p ↦ elim b [ inl lt ↦ encoded-data (row_of d.grid r) (col_of d.grid r) lt | inr q ↦ absurd (ne (omega (arith, p, q))) ]
        ])
        (λ c r hc e. (and_parts (is_in_scope d.grid (Row row) r) (nat_lt (col_of d.grid r) d.grid.q || (col_of d.grid r == d.grid.q + c)) e).0)
        (λ r e none.
        let wide = col_of-lt d.grid r (width-pos d.grid of.grid) in
        elim (cases_lt (col_of d.grid r) d.grid.q) [
          | inl lt ↦ encoded-data (row_of d.grid r) (col_of d.grid r) lt
          | inr le ↦
              let c = col_of d.grid r - d.grid.q in
              let at : col_of d.grid r ≡ d.grid.q + c = omega arith in
              absurd (true≢false (sym (and_from (is_in_scope d.grid (Row row) r) (nat_lt (col_of d.grid r) d.grid.q || (col_of d.grid r == d.grid.q + c)) e (or_right (nat_lt (col_of d.grid r) d.grid.q) (col_of d.grid r == d.grid.q + c) (equal (col_of d.grid r) (d.grid.q + c) at))) ∙ none c (omega arith)))
        ])

    -- the events of encode_group turn what the ranks hold into what is encoded
    pub encodes : Turns s st (is_member d.grid) (group_events s.inverse d line group) (on_grid d.grid f) (on_grid d.grid encoded)
    encodes = turns_rows s st d.grid of (row_events s.inverse d line group) f encoded encodes_row

    pub is_encoded : IsEncoded s d line group f encoded
    is_encoded = record {
      strips = λ row q hr hq. encoded-data row q hq;
      codes = λ row c hr hc. ap (λ h. h.tiles (slot_at Code line group)) (encoded-code row c) ∙ (summing row c d.grid.q hr hc (omega arith)).codes;
      free = λ row c hr hc. ap (λ h. h.free (slot_at Code line group)) (encoded-code row c) ∙ (summing row c d.grid.q hr hc (omega arith)).free;
      work_free = λ row c hr hc. ap (λ h. may_put h work_slot) (encoded-code row c) ∙ (summing row c d.grid.q hr hc (omega arith)).work_free;
      rest = λ row c hr hc. subst (IsBut coding (f row (d.grid.q + c))) (sym (encoded-code row c)) (summing row c d.grid.q hr hc (omega arith)).rest;
    }
