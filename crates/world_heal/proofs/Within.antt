-- The events of a recovery lie on ranks of the run.
use Rattle.std.specs.Prelude.{slice_index_or}
use Rattle.std.proofs.Common.{◌≡◌, ◌≢◌, ℕ, zero, suc, ◌+◌, ◌<◌, if◌then◌else◌, Bool, true, false, List, [], ◌∷◌, ◌++◌, refl, sym, ap, ◌∙◌, arith, All, count_by, take}
use Rattle.std.proofs.lemmas.Bool.{true≢false}
use Rattle.std.proofs.lemmas.List.Elements.{All-nil, All-cons, All-append}
use Rattle.cauchy_code.specs.Cauchy.{helpers, weight}
use Rattle.blacs_grid.specs.declared.Grid.{Grid}
use Rattle.blacs_grid.specs.Places.{width, rank_at}
use Rattle.blacs_grid.proofs.PlaceLaws.{is_member-rank_at, same_place}
use Rattle.rank_run.specs.declared.round.Event.TheVariants.{Move}
use Rattle.rank_run.specs.Parts.{IsWithin}
use Rattle.rank_machine.specs.declared.mark.Mark.{Mark}
use Rattle.rank_machine.specs.declared.slot.Slot.{Slot}
use Rattle.rank_machine.specs.declared.slot.SlotKind.TheVariants.{Data, Code, Low, Open}
use Rattle.rank_machine.specs.declared.slot.Piece.TheVariants as piece
use Rattle.rank_machine.specs.declared.kernel.Cut.{Cut}
use Rattle.rank_machine.specs.declared.kernel.Cut.TheVariants as cut
use Rattle.rank_machine.specs.declared.layout.Layout.{Layout}
use Rattle.rank_machine.specs.Setting.{Setting, ranks, layout, strip_rows, block_at}
use Rattle.rank_machine.specs.State.{State}
use Rattle.rank_machine.specs.Legal.{lost_columns}
use Rattle.rank_machine.specs.CodeLaw.{slot_at, has_low, is_open_group}
use Rattle.round_laws.specs.Turns.{IsGridOf, each_below}
use Rattle.recovery_laws.specs.Recovery.{symbol_slots, is_open_block, is_closed_block}
use Rattle.recovery_laws.proofs.Totals.{helper-live}
use Rattle.recovery_rounds.specs.Mending.{Events, bring, gain, clear, gain_all, decoding_events, part_events, rebuilding_events, row_data_events, row_code_events, copy_events}
use Rattle.recovery_rounds.specs.Rows.{row_events, GoToLost, ReachAllLost}

AreWithin : ℕ → Events → Type 0
AreWithin n es = All (IsWithin n) es

-- ---- events one after another
none : (n : ℕ) → AreWithin n []
unfolding AreWithin
none n = All-nil (IsWithin n)

both : (n : ℕ) (es es' : Events) → AreWithin n es → AreWithin n es' → AreWithin n (es ++ es')
unfolding AreWithin
both n es es' h k = All-append (IsWithin n) es es' h k

each : (n k : ℕ) (es : ℕ → Events) → ((i : ℕ) → i < k → AreWithin n (es i)) → AreWithin n (each_below k es)
each n zero es h = none n
each n (suc k) es h = both n (each_below k es) (es k) (each n k es (λ i lt. h i (omega arith))) (h k (omega arith))

where_wanted : (n : ℕ) (wanted : Bool) (es : Events) → (wanted ≡ true → AreWithin n es) → AreWithin n (if wanted then es else [])
where_wanted n true es h = h refl
where_wanted n false es h = none n

-- ---- single events
cleared : (n rank : ℕ) (slot : Slot) (rows columns : ℕ) (es : Events) → rank < n → AreWithin n es → AreWithin n (clear rank slot rows columns ∷ es)
unfolding AreWithin
cleared n rank slot rows columns es h k = All-cons (IsWithin n) (clear rank slot rows columns) es h k

gained : (n rank : ℕ) (slot : Slot) (a : ℕ) (at : Cut) (es : Events) → rank < n → AreWithin n es → AreWithin n (gain rank slot a at ∷ es)
unfolding AreWithin
gained n rank slot a at es h k = All-cons (IsWithin n) (gain rank slot a at) es h k

brought_in : (n from rank : ℕ) (slot : Slot) (es : Events) → from ≢ rank → from < n → rank < n → AreWithin n es → AreWithin n (bring from rank slot ∷ es)
unfolding AreWithin
brought_in n from rank slot es ne hf hr k = All-cons (IsWithin n) (bring from rank slot) es (ne, hf, hr) k

-- ---- the strips of a symbol, and what one data strip brings into a code column
gained_all : (n from rank : ℕ) (to : Slot) (a : ℕ) (slots : List Slot) → from ≢ rank → from < n → rank < n → AreWithin n (gain_all from rank to a slots)
gained_all n from rank to a [] ne hf hr = none n
gained_all n from rank to a (x ∷ xs) ne hf hr =
    brought_in n from rank x (gain rank to a cut.Whole ∷ gain_all from rank to a xs) ne hf hr (gained n rank to a cut.Whole (gain_all from rank to a xs) hr (gained_all n from rank to a xs ne hf hr))

parted : (n rank : ℕ) (is_open is_closed : Bool) (opened code low : Slot) (w block : ℕ) → rank < n
    → AreWithin n (if is_open then gain rank opened w cut.Whole ∷ [] else if is_closed then gain rank code w (cut.Upper block) ∷ gain rank low w (cut.Lower block) ∷ [] else gain rank code w cut.Whole ∷ [])
parted n rank true is_closed opened code low w block h = gained n rank opened w cut.Whole [] h (none n)
parted n rank false true opened code low w block h = gained n rank code w (cut.Upper block) (gain rank low w (cut.Lower block) ∷ []) h (gained n rank low w (cut.Lower block) [] h (none n))
parted n rank false false opened code low w block h = gained n rank code w cut.Whole [] h (none n)

-- ---- a process row
module _ (n : ℕ) (s : Setting) (mark : Mark) (line : ℕ) (d : Layout) (row group : ℕ) (lost : List Bool) (there : (col : ℕ) → col < width d.grid → rank_at d.grid row col < n) where
  apart : (a b : ℕ) → a < width d.grid → b < width d.grid → a ≢ b → rank_at d.grid row a ≢ rank_at d.grid row b
  apart a b ha hb ne = λ e. ne (same_place d.grid row a row b ha hb e).1

  -- a column that helps was not lost
  other : (which col : ℕ) → slice_index_or lost which false ≡ true → slice_index_or (helpers d.grid.q lost) col false ≡ true → col ≢ which
  other which col is_lost helps = λ e. true≢false (sym is_lost ∙ (ap (λ k. slice_index_or lost k false) (sym e) ∙ helper-live d.grid.q (count_by (λ b. b) (take d.grid.q lost)) col lost helps))

  decoding : (which : ℕ) (coefficients : List ℕ) → which < d.grid.q → slice_index_or lost which false ≡ true → AreWithin n (decoding_events s mark line d row group which lost coefficients)
  decoding which ks hw is_lost =
      let to = slot_at Data line group in
      let rank = rank_at d.grid row which in
      let wide : which < width d.grid = omega arith in
      let of = λ (col : ℕ). gain_all (rank_at d.grid row col) rank to (slice_index_or ks col 0) (symbol_slots s mark line d group col) in
      let column = λ (col : ℕ). (if slice_index_or (helpers d.grid.q lost) col false then of col else []) in
      cleared n rank to (strip_rows d row) d.desc.nb (each_below (width d.grid) column) (there which wide)
      (each n (width d.grid) column (λ col hc.
      where_wanted n (slice_index_or (helpers d.grid.q lost) col false) (of col) (λ helps.
      gained_all n (rank_at d.grid row col) rank to (slice_index_or ks col 0) (symbol_slots s mark line d group col) (apart col which hc wide (other which col is_lost helps)) (there col hc) (there which wide))))

  rebuilding : (c : ℕ) → c < d.grid.f → AreWithin n (rebuilding_events s mark line d row group c)
  rebuilding c hc =
      let rank = rank_at d.grid row (d.grid.q + c) in
      let wide : d.grid.q + c < width d.grid = omega arith in
      let code = slot_at Code line group in
      let low = slot_at Low line group in
      let opened = slot_at Open line 0 in
      let clear_one = λ (slot : Slot). clear rank slot (strip_rows d row) d.desc.nb ∷ [] in
      let parts = each_below d.grid.q (part_events s mark line d row group c) in
      let lows = (if has_low s mark line group then clear_one low else []) in
      let opens = (if is_open_group s mark line d group then clear_one opened else []) in
      let one : (slot : Slot) → AreWithin n (clear_one slot) = λ slot. cleared n rank slot (strip_rows d row) d.desc.nb [] (there (d.grid.q + c) wide) (none n) in
      let part : (col : ℕ) → col < d.grid.q → AreWithin n (part_events s mark line d row group c col) =
      λ col h.
      (let w = weight s.inverse d.grid.q c col in
      let narrow : col < width d.grid = omega arith in
      let before : col ≢ d.grid.q + c = omega arith in
      brought_in n (rank_at d.grid row col) rank (slot_at Data line group) _ (apart col (d.grid.q + c) narrow wide before) (there col narrow) (there (d.grid.q + c) wide)
      (parted n rank (is_open_block s mark line d group col) (is_closed_block s mark line d group col) opened code low w (block_at d group col) (there (d.grid.q + c) wide))) in
      cleared n rank code (strip_rows d row) d.desc.nb (lows ++ opens ++ parts) (there (d.grid.q + c) wide)
      (both n (lows ++ opens) parts (both n lows opens (where_wanted n (has_low s mark line group) (clear_one low) (λ _. one low)) (where_wanted n (is_open_group s mark line d group) (clear_one opened) (λ _. one opened))) (each n d.grid.q (part_events s mark line d row group c) part))

  both_parts : (coefficients : ℕ → List ℕ) → AreWithin n (row_data_events s mark line d row group lost coefficients ++ row_code_events s mark line d row group lost)
  both_parts ks =
      both n (row_data_events s mark line d row group lost ks) (row_code_events s mark line d row group lost)
      (each n d.grid.q (λ which. if slice_index_or lost which false then decoding_events s mark line d row group which lost (ks which) else []) (λ which hw.
      where_wanted n (slice_index_or lost which false) (decoding_events s mark line d row group which lost (ks which)) (λ is_lost. decoding which (ks which) hw is_lost)))
      (each n d.grid.f (λ c. if slice_index_or lost (d.grid.q + c) false then rebuilding_events s mark line d row group c else []) (λ c hc.
      where_wanted n (slice_index_or lost (d.grid.q + c) false) (rebuilding_events s mark line d row group c) (λ _. rebuilding c hc)))

-- the round of a process row and a group of a matrix on a grid of the run
pub row-within : (s : Setting) (last now : State) (line row group : ℕ) (coefficients : ℕ → List ℕ) → IsGridOf s (layout s line).grid → row < (layout s line).grid.p → All (IsWithin (ranks s)) (row_events s last now line row group coefficients)
unfolding AreWithin
row-within s last now line row group ks of hr =
    let g = (layout s line).grid in
    both_parts (ranks s) s last.mark line (layout s line) row group (lost_columns now g row) (λ col hc. of.ranks (rank_at g row col) (is_member-rank_at g row col hr hc)) ks

-- ---- copies of a list
copies : (s : Setting) (now : State) (g : Grid) (list : Slot) (pairs : List (ℕ × ℕ)) → IsGridOf s g → GoToLost now g pairs → AreWithin (ranks s) (copy_events list pairs)
unfolding AreWithin
copies s now g list [] of go = All-nil (IsWithin (ranks s))
copies s now g list (x ∷ xs) of go =
    All-cons (IsWithin (ranks s)) (Move x.0 x.1 (piece.Whole list) (piece.Whole list)) (copy_events list xs)
    ((λ e. true≢false (sym go.0.3 ∙ (ap now.lost (sym e) ∙ go.0.1))), of.ranks x.0 go.0.0, of.ranks x.1 go.0.2)
    (copies s now g list xs of go.1)

-- copies from ranks of a grid of the run to lost ones
pub copies-within : (s : Setting) (now : State) (g : Grid) (list : Slot) (pairs : List (ℕ × ℕ)) → IsGridOf s g → ReachAllLost now g pairs → All (IsWithin (ranks s)) (copy_events list pairs)
unfolding AreWithin
copies-within s now g list pairs of reach = copies s now g list pairs of reach.go
