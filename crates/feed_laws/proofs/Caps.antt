-- The slots and the words of a matrix that is fed and coded.
use Rattle.std.proofs.Common.{◌≡◌, ◌+◌, ◌-◌, ◌*◌, ◌%◌, ◌<◌, ◌≤◌, ◌==◌, ◌&&◌, ◌||◌, ℕ, zero, suc, Bool, true, false, nat_lt, Option, Some, None, List, [], ◌∷◌, ◌++◌, refl, sym, ap, subst, ◌∙◌, ⊎_elim, arith}
use Rattle.std.specs.Prelude.{if◌then◌else◌}
use Rattle.std.proofs.lemmas.Bool.{cases_Bool, and_parts, and_from, or_cases, or_left, or_right, eqb-true, eq-eqb, lt-ltb, ltb-true, true≢false, false_from_ne_true}
use Rattle.cauchy_code.specs.Cauchy.{weight}
use Rattle.run_data.specs.Matrix.{Matrix, cols, entry, zero_matrix}
use Rattle.run_data.specs.declared.matrix.Part.{Part}
use Rattle.local_blas.specs.Kernels.{with_added}
use Rattle.run_data.specs.Parts.{whole_part, part_entry}
use Rattle.run_data.proofs.Matrices.{rows-tabulate, cols-tabulate}
use Rattle.run_data.proofs.PartLaws.{rows-with_part, cols-with_part}
use Rattle.rank_run.specs.declared.round.Event.TheVariants.{Local, Move}
use Rattle.rank_run.specs.Rounds.{steps}
use Rattle.blacs_grid.specs.Places.{width, row_of, rank_at, is_data_rank, is_code_rank}
use Rattle.blacs_grid.proofs.PlaceLaws.{row_of-rank_at, is_data_rank-rank_at, is_code_rank-rank_at, not_data_and_code}
use Rattle.rank_machine.specs.declared.slot.Slot.{Slot}
use Rattle.rank_machine.specs.declared.slot.SlotKind.{SlotKind}
use Rattle.rank_machine.specs.declared.slot.SlotKind.TheVariants.{Data, Code}
use Rattle.rank_machine.specs.declared.slot.Tile.{Tile}
use Rattle.rank_machine.specs.declared.slot.Tile.TheVariants.{Words, Index}
use Rattle.rank_machine.specs.declared.slot.Piece.TheVariants.{Whole}
use Rattle.rank_machine.specs.declared.kernel.Cut.TheVariants as cut
use Rattle.rank_machine.specs.declared.kernel.Kernel.TheVariants as k
use Rattle.rank_machine.specs.declared.layout.Layout.{Layout}
use Rattle.rank_machine.specs.Setting.{Setting, group_count, strip_rows, strip_of}
use Rattle.rank_machine.specs.State.{State, same_kind, same_slot}
use Rattle.rank_machine.specs.Effect.{words_of, cut_out, made_by, reaches}
use Rattle.rank_machine.specs.Held.{size_of}
use Rattle.rank_machine.specs.CodeLaw.{slot_at}
use Rattle.rank_slots.proofs.CellLaws.{same_slot-refl}
use Rattle.round_laws.specs.Turns.{each_below}
use Rattle.dist_matrix.specs.Encode.{work_slot, adding_events, summing_events, row_events, group_events}
use Rattle.phases.specs.Words.{AddAtMost}
use Rattle.phase_frames.specs.Touching.{RoundEvent, AllEvents, WritesIn, IsCapped, KeepsCap, allowed, total, cap_over}
use Rattle.phase_frames.proofs.SlotSums.{each_slot, total_each, allowed_each}
use Rattle.phase_frames.proofs.Touched.{events_then}
use Rattle.phase_frames.proofs.Capped.{adds_capped}
use Rattle.feed_laws.specs.Feeding.{FeedTask, is_own, feed_cap, feed_words, strip_words, steps_of_round}

-- ---- parts of a round
pub steps_each : (P : RoundEvent → Type 0) (n : ℕ) (f : ℕ → List RoundEvent) → ((i : ℕ) → i < n → AllEvents P (f i)) → AllEvents P (each_below n f)
steps_each P zero f h = tt
steps_each P (suc n) f h = events_then P (each_below n f) (f n) (steps_each P n f (λ i lt. h i (omega (arith, lt)))) (h n (omega arith))

-- how many steps
steps_more : (xs ys : List RoundEvent) → steps (xs ++ ys) ≡ steps xs + steps ys
steps_more [] ys = omega arith
steps_more (x ∷ xs) ys = omega (arith, steps_more xs ys)

each_steps : (n m : ℕ) (f : ℕ → List RoundEvent) → ((i : ℕ) → steps (f i) ≡ m) → steps (each_below n f) ≡ n * m
each_steps zero m f h = omega arith
each_steps (suc n) m f h =
    let a = steps_more (each_below n f) (f n) in
    let b = each_steps n m f h in
    let c = h n in
    omega (arith, a, b, c)

pub encode_steps : (inverse : ℕ → ℕ) (d : Layout) (line group : ℕ) → steps (group_events inverse d line group) ≡ steps_of_round d
encode_steps inverse d line group =
    each_steps d.grid.p (d.grid.f * (1 + 3 * d.grid.q)) (row_events inverse d line group)
    (λ row. each_steps d.grid.f (1 + 3 * d.grid.q) (summing_events inverse d line group row)
    (λ c. let a = each_steps d.grid.q 3 (adding_events inverse d line group row c) (λ q. refl) in omega (arith, a)))

-- ---- slots, each with its words
abbrev pub allow : FeedTask → ℕ → List (Slot × ℕ)
allow t rank =
    let d = t.layout in
    if is_data_rank d.grid rank then each_slot Data t.line (strip_words d rank) (group_count d)
    else (if is_code_rank d.grid rank then (work_slot, strip_words d rank) ∷ each_slot Code t.line (strip_words d rank) (group_count d) else [])

allow_total : (t : FeedTask) (rank : ℕ) → total (allow t rank) ≡ feed_words t.layout rank
allow_total t rank = cases (is_data_rank t.layout.grid rank) (is_code_rank t.layout.grid rank)
  where
    d : Layout
    d = t.layout

    cases : (a b : Bool) → total (if a then each_slot Data t.line (strip_words d rank) (group_count d) else (if b then (work_slot, strip_words d rank) ∷ each_slot Code t.line (strip_words d rank) (group_count d) else []))
        ≡ (if a then strip_words d rank * group_count d else (if b then strip_words d rank * group_count d + strip_words d rank else 0))
    cases true b = total_each Data t.line (strip_words d rank) (group_count d)
    cases false true = let a = total_each Code t.line (strip_words d rank) (group_count d) in omega (arith, a)
    cases false false = refl

own_allowed : (t : FeedTask) (rank : ℕ) (slot : Slot) → is_own t rank slot ≡ true → strip_words t.layout rank ≤ allowed (allow t rank) slot
own_allowed t rank slot own =
    let d = t.layout in
    let words = strip_words d rank in
    ⊎_elim
    (λ (h : (is_data_rank d.grid rank && (same_kind slot.kind Data && ((slot.id == t.line) && nat_lt slot.group (group_count d)))) ≡ true).
    let z = and_parts (is_data_rank d.grid rank) _ h in
    let y = and_parts (same_kind slot.kind Data) _ z.1 in
    let x = and_parts (slot.id == t.line) (nat_lt slot.group (group_count d)) y.1 in
    let is : allow t rank ≡ each_slot Data t.line words (group_count d) = ap (λ b. if b then each_slot Data t.line words (group_count d) else (if is_code_rank d.grid rank then (work_slot, words) ∷ each_slot Code t.line words (group_count d) else [])) z.0 in
    subst (λ l. words ≤ allowed l slot) (sym is) (allowed_each Data t.line words (group_count d) slot y.0 x.0 (ltb-true slot.group (group_count d) x.1)))
    (λ (h : (is_code_rank d.grid rank && ((same_kind slot.kind Code && ((slot.id == t.line) && nat_lt slot.group (group_count d))) || same_slot slot work_slot)) ≡ true).
    let z = and_parts (is_code_rank d.grid rank) _ h in
    let not_data : is_data_rank d.grid rank ≡ false = false_from_ne_true (is_data_rank d.grid rank) (λ e. not_data_and_code d.grid rank e z.0) in
    let is : allow t rank ≡ (work_slot, words) ∷ each_slot Code t.line words (group_count d) =
    ap (λ b. if b then each_slot Data t.line words (group_count d) else (if is_code_rank d.grid rank then (work_slot, words) ∷ each_slot Code t.line words (group_count d) else [])) not_data
    ∙ ap (λ b. if b then (work_slot, words) ∷ each_slot Code t.line words (group_count d) else []) z.0 in
    subst (λ l. words ≤ allowed l slot) (sym is)
    (⊎_elim
    (λ (u : (same_kind slot.kind Code && ((slot.id == t.line) && nat_lt slot.group (group_count d))) ≡ true).
    let y = and_parts (same_kind slot.kind Code) _ u in
    let x = and_parts (slot.id == t.line) (nat_lt slot.group (group_count d)) y.1 in
    let low = allowed_each Code t.line words (group_count d) slot y.0 x.0 (ltb-true slot.group (group_count d) x.1) in
    omega (arith, low))
    (λ (u : same_slot slot work_slot ≡ true).
    let one : (if same_slot slot work_slot then words else 0) ≡ words = ap (λ b. if b then words else 0) u in
    omega (arith, one))
    (or_cases (same_kind slot.kind Code && ((slot.id == t.line) && nat_lt slot.group (group_count d))) (same_slot slot work_slot) z.1)))
    (or_cases (is_data_rank d.grid rank && (same_kind slot.kind Data && ((slot.id == t.line) && nat_lt slot.group (group_count d)))) _ own)

if_less : (b : Bool) (n m : ℕ) → (b ≡ true → n ≤ m) → (if b then n else 0) ≤ m
if_less true n m h = h refl
if_less false n m h = omega arith

-- under the cap the words that are added are those of the phase
pub adds_words : (t : FeedTask) (base now : State) → IsCapped (feed_cap t base) now.tiles → now.saved ≡ base.saved → AddAtMost (feed_words t.layout) base now
adds_words t base now capped saved rank slots distinct =
    let under : IsCapped (cap_over base (allow t)) now.tiles =
    λ a x. (let h = capped a x in let l = if_less (is_own t a x) (strip_words t.layout a) (allowed (allow t a) x) (own_allowed t a x) in omega (arith, h, l)) in
    let z = adds_capped base now (allow t) under saved rank slots distinct in
    let same = allow_total t rank in
    omega (arith, z, same)

-- ---- sizes
-- the words of a tile
words_size : (o : Option Tile) → (words_of o).rows * cols (words_of o) ≤ size_of o
words_size None = let a : (zero_matrix 0 0).rows * cols (zero_matrix 0 0) ≡ 0 * 0 = λ i. rows-tabulate 0 0 (λ a b. 0) i * cols-tabulate 0 0 (λ a b. 0) i in omega (arith, a)
words_size (Some (Words m)) = omega arith
words_size (Some (Index ns)) = let a : (zero_matrix 0 0).rows * cols (zero_matrix 0 0) ≡ 0 * 0 = λ i. rows-tabulate 0 0 (λ a b. 0) i * cols-tabulate 0 0 (λ a b. 0) i in omega (arith, a)

cut_size : (slot : Slot) (o : Option Tile) → size_of (Some (cut_out (Whole slot) o)) ≤ size_of o
cut_size slot None = omega arith
cut_size slot (Some (Index ns)) = omega arith
cut_size slot (Some (Words m)) =
    let a : size_of (Some (cut_out (Whole slot) (Some (Words m)))) ≡ (m.rows - 0) * (cols m - 0) = λ i. rows-tabulate (m.rows - 0) (cols m - 0) (part_entry m (whole_part m)) i * cols-tabulate (m.rows - 0) (cols m - 0) (part_entry m (whole_part m)) i in
    let b : (m.rows - 0) * (cols m - 0) ≡ m.rows * cols m = λ i. (let x : m.rows - 0 ≡ m.rows = omega arith in x) i * (let y : cols m - 0 ≡ cols m = omega arith in y) i in
    omega (arith, a, b)

pub strip_size : (d : Layout) (m : Matrix) (rank group : ℕ) → size_of (Some (Words (strip_of d m rank group))) ≡ strip_words d rank
strip_size d m rank group =
    let a : (strip_of d m rank group).rows ≡ strip_rows d (row_of d.grid rank) = rows-tabulate (strip_rows d (row_of d.grid rank)) d.desc.nb _ in
    let b : cols (strip_of d m rank group) ≡ d.desc.nb = cols-tabulate (strip_rows d (row_of d.grid rank)) d.desc.nb _ in
    λ i. a i * b i

added_size : (p : ℕ) (m : Matrix) (at : Part) (a : ℕ) (x : Matrix) (sp : Part) (test : ℕ → ℕ → Bool) → (with_added p m at a x sp test).rows * cols (with_added p m at a x sp test) ≡ m.rows * cols m
added_size p m at a x sp test =
    let u : (with_added p m at a x sp test).rows ≡ m.rows = rows-with_part m at (λ i j. if test (at.r0 + (i - at.r0)) (at.c0 + (j - at.c0)) then (entry m i j + a * part_entry x sp (i - at.r0) (j - at.c0)) % p else entry m i j) in
    let v : cols (with_added p m at a x sp test) ≡ cols m = cols-with_part m at (λ i j. if test (at.r0 + (i - at.r0)) (at.c0 + (j - at.c0)) then (entry m i j + a * part_entry x sp (i - at.r0) (j - at.c0)) % p else entry m i j) in
    λ i. u i * v i

-- ---- the slots of the phase
pub own_data : (t : FeedTask) (row col group : ℕ) → row < t.layout.grid.p → col < t.layout.grid.q → group < group_count t.layout → is_own t (rank_at t.layout.grid row col) (slot_at Data t.line group) ≡ true
own_data t row col group hr hc hg =
    let d = t.layout in
    let rank = rank_at d.grid row col in
    or_left (is_data_rank d.grid rank && ((t.line == t.line) && nat_lt group (group_count d))) _
    (and_from (is_data_rank d.grid rank) ((t.line == t.line) && nat_lt group (group_count d)) (is_data_rank-rank_at d.grid row col hr hc) (and_from (t.line == t.line) (nat_lt group (group_count d)) (eq-eqb t.line t.line refl) (lt-ltb group (group_count d) hg)))

on_code : (d : Layout) (row c : ℕ) → row < d.grid.p → c < d.grid.f → is_code_rank d.grid (rank_at d.grid row (d.grid.q + c)) ≡ true
on_code d row c hr hc = is_code_rank-rank_at d.grid row (d.grid.q + c) hr (omega arith) (omega (arith, hc))

-- the slots that the round of a group writes
abbrev pub is_coding : FeedTask → ℕ → ℕ → Slot → Bool
is_coding t group rank slot = is_code_rank t.layout.grid rank && (same_slot slot (slot_at Code t.line group) || same_slot slot work_slot)

coding_code : (t : FeedTask) (group row c : ℕ) → row < t.layout.grid.p → c < t.layout.grid.f → is_coding t group (rank_at t.layout.grid row (t.layout.grid.q + c)) (slot_at Code t.line group) ≡ true
coding_code t group row c hr hc =
    and_from (is_code_rank t.layout.grid (rank_at t.layout.grid row (t.layout.grid.q + c))) (same_slot (slot_at Code t.line group) (slot_at Code t.line group) || same_slot (slot_at Code t.line group) work_slot) (on_code t.layout row c hr hc)
    (or_left (same_slot (slot_at Code t.line group) (slot_at Code t.line group)) (same_slot (slot_at Code t.line group) work_slot) (same_slot-refl (slot_at Code t.line group)))

coding_work : (t : FeedTask) (group row c : ℕ) → row < t.layout.grid.p → c < t.layout.grid.f → is_coding t group (rank_at t.layout.grid row (t.layout.grid.q + c)) work_slot ≡ true
coding_work t group row c hr hc =
    and_from (is_code_rank t.layout.grid (rank_at t.layout.grid row (t.layout.grid.q + c))) (same_slot work_slot (slot_at Code t.line group) || same_slot work_slot work_slot) (on_code t.layout row c hr hc)
    (or_right (same_slot work_slot (slot_at Code t.line group)) (same_slot work_slot work_slot) (same_slot-refl work_slot))

pub encode_writes : (inverse : ℕ → ℕ) (t : FeedTask) (group : ℕ) → AllEvents (WritesIn (is_coding t group)) (group_events inverse t.layout t.line group)
encode_writes inverse t group =
    let d = t.layout in
    steps_each (WritesIn (is_coding t group)) d.grid.p (row_events inverse d t.line group)
    (λ row hr. steps_each (WritesIn (is_coding t group)) d.grid.f (summing_events inverse d t.line group row)
    (λ c hc. (
      coding_code t group row c hr hc,
      steps_each (WritesIn (is_coding t group)) d.grid.q (adding_events inverse d t.line group row c) (λ q hq. (coding_work t group row c hr hc, (coding_code t group row c hr hc, tt))),
    )))

-- what it writes is the phase's own
pub coding_own : (t : FeedTask) (group : ℕ) → group < group_count t.layout → (rank : ℕ) (slot : Slot) → is_own t rank slot ≡ false → is_coding t group rank slot ≡ false
coding_own t group hg rank slot e =
    let d = t.layout in
    false_from_ne_true (is_coding t group rank slot)
    (λ c.
    let z = and_parts (is_code_rank d.grid rank) _ c in
    let inner : ((same_kind slot.kind Code && ((slot.id == t.line) && nat_lt slot.group (group_count d))) || same_slot slot work_slot) ≡ true =
    ⊎_elim
    (λ (u : same_slot slot (slot_at Code t.line group) ≡ true).
    let y = and_parts (same_kind slot.kind Code && (slot.id == t.line)) (slot.group == group) u in
    let x = and_parts (same_kind slot.kind Code) (slot.id == t.line) y.0 in
    let g = eqb-true slot.group group y.1 in
    or_left (same_kind slot.kind Code && ((slot.id == t.line) && nat_lt slot.group (group_count d))) (same_slot slot work_slot)
    (and_from (same_kind slot.kind Code) ((slot.id == t.line) && nat_lt slot.group (group_count d)) x.0 (and_from (slot.id == t.line) (nat_lt slot.group (group_count d)) x.1 (lt-ltb slot.group (group_count d) (omega (arith, g, hg))))))
    (λ (u : same_slot slot work_slot ≡ true). or_right (same_kind slot.kind Code && ((slot.id == t.line) && nat_lt slot.group (group_count d))) (same_slot slot work_slot) u)
    (or_cases (same_slot slot (slot_at Code t.line group)) (same_slot slot work_slot) z.1) in
    true≢false (sym (or_right (is_data_rank d.grid rank && (same_kind slot.kind Data && ((slot.id == t.line) && nat_lt slot.group (group_count d)))) _
    (and_from (is_code_rank d.grid rank) ((same_kind slot.kind Code && ((slot.id == t.line) && nat_lt slot.group (group_count d))) || same_slot slot work_slot) z.0 inner)) ∙ e))

-- ---- the cap in a round
own_or : (t : FeedTask) (group : ℕ) → group < group_count t.layout → (rank : ℕ) (slot : Slot) → is_coding t group rank slot ≡ true → is_own t rank slot ≡ true
own_or t group hg rank slot e =
    ⊎_elim (λ (h : is_own t rank slot ≡ true). h) (λ (h : is_own t rank slot ≡ false). absurd (true≢false (sym e ∙ coding_own t group hg rank slot h))) (cases_Bool (is_own t rank slot))

-- a slot of the phase may hold a strip
pub own_room : (t : FeedTask) (base : State) (rank : ℕ) (slot : Slot) → is_own t rank slot ≡ true → strip_words t.layout rank ≤ feed_cap t base rank slot
own_room t base rank slot e = let a : (if is_own t rank slot then strip_words t.layout rank else 0) ≡ strip_words t.layout rank = ap (λ b. if b then strip_words t.layout rank else 0) e in omega (arith, a)

same_row : (d : Layout) (row a b : ℕ) → a < width d.grid → b < width d.grid → strip_words d (rank_at d.grid row a) ≡ strip_words d (rank_at d.grid row b)
same_row d row a b ha hb = ap (λ r. strip_rows d r * d.desc.nb) (row_of-rank_at d.grid row a ha ∙ sym (row_of-rank_at d.grid row b hb))

-- of a slot that was not there
pub data_cap : (t : FeedTask) (base : State) (rank : ℕ) (slot : Slot) → base.tiles rank slot ≡ None → feed_cap t base rank slot ≤ strip_words t.layout rank
data_cap t base rank slot none =
    let a : size_of (base.tiles rank slot) ≡ 0 = ap size_of none in
    let b = if_less (is_own t rank slot) (strip_words t.layout rank) (strip_words t.layout rank) (λ _. omega arith) in
    omega (arith, a, b)

pub encode_caps : (s : Setting) (inverse : ℕ → ℕ) (t : FeedTask) (base : State) (group : ℕ) → group < group_count t.layout
    → ((row q : ℕ) → row < t.layout.grid.p → q < t.layout.grid.q → base.tiles (rank_at t.layout.grid row q) (slot_at Data t.line group) ≡ None)
    → AllEvents (KeepsCap s (feed_cap t base)) (group_events inverse t.layout t.line group)
encode_caps s inverse t base group hg none =
    steps_each P d.grid.p (row_events inverse d t.line group)
    (λ row hr. steps_each P d.grid.f (summing_events inverse d t.line group row)
    (λ c hc. (zeroed row c hr hc, steps_each P d.grid.q (adding_events inverse d t.line group row c) (λ q hq. (moved row c q hr hc hq, (added row c q hr hc hq, tt))))))
  where
    d : Layout
    d = t.layout

    P : RoundEvent → Type 0
    P = KeepsCap s (feed_cap t base)

    wide : (row c : ℕ) → c < d.grid.f → d.grid.q + c < width d.grid
    wide row c hc = omega (arith, hc)

    code_room : (row c : ℕ) → row < d.grid.p → c < d.grid.f → strip_rows d row * d.desc.nb ≤ feed_cap t base (rank_at d.grid row (d.grid.q + c)) (slot_at Code t.line group)
    code_room row c hr hc =
        let rank = rank_at d.grid row (d.grid.q + c) in
        let a = own_room t base rank (slot_at Code t.line group) (own_or t group hg rank (slot_at Code t.line group) (coding_code t group row c hr hc)) in
        let b : strip_words d rank ≡ strip_rows d row * d.desc.nb = ap (λ r. strip_rows d r * d.desc.nb) (row_of-rank_at d.grid row (d.grid.q + c) (wide row c hc)) in
        omega (arith, a, b)

    zeroed : (row c : ℕ) → row < d.grid.p → c < d.grid.f → P (Local (rank_at d.grid row (d.grid.q + c)) (k.Zero (slot_at Code t.line group) (strip_rows d row) d.desc.nb))
    zeroed row c hr hc tiles capped =
        let a : (zero_matrix (strip_rows d row) d.desc.nb).rows * cols (zero_matrix (strip_rows d row) d.desc.nb) ≡ strip_rows d row * d.desc.nb =
        λ i. rows-tabulate (strip_rows d row) d.desc.nb (λ x y. 0) i * cols-tabulate (strip_rows d row) d.desc.nb (λ x y. 0) i in
        let b = code_room row c hr hc in
        omega (arith, a, b)

    moved : (row c q : ℕ) → row < d.grid.p → c < d.grid.f → q < d.grid.q → P (Move (rank_at d.grid row q) (rank_at d.grid row (d.grid.q + c)) (Whole (slot_at Data t.line group)) (Whole work_slot))
    moved row c q hr hc hq tiles capped =
        let from = rank_at d.grid row q in
        let to = rank_at d.grid row (d.grid.q + c) in
        let a = cut_size (slot_at Data t.line group) (tiles from (slot_at Data t.line group)) in
        let b = capped from (slot_at Data t.line group) in
        let e = data_cap t base from (slot_at Data t.line group) (none row q hr hq) in
        let f = same_row d row q (d.grid.q + c) (omega (arith, hq)) (wide row c hc) in
        let g = own_room t base to work_slot (own_or t group hg to work_slot (coding_work t group row c hr hc)) in
        omega (arith, a, b, e, f, g)

    added : (row c q : ℕ) → row < d.grid.p → c < d.grid.f → q < d.grid.q → P (Local (rank_at d.grid row (d.grid.q + c)) (k.Add (Whole (slot_at Code t.line group)) (weight inverse d.grid.q c q) (Whole work_slot) cut.Whole))
    added row c q hr hc hq tiles capped =
        let to = rank_at d.grid row (d.grid.q + c) in
        let old = tiles to (slot_at Code t.line group) in
        let m = words_of old in
        let x = words_of (tiles to work_slot) in
        let a : size_of (Some (made_by s to (tiles to) (k.Add (Whole (slot_at Code t.line group)) (weight inverse d.grid.q c q) (Whole work_slot) cut.Whole))) ≡ m.rows * cols m =
        added_size s.modulus m (whole_part m) (weight inverse d.grid.q c q) x (whole_part x) (reaches s to (slot_at Code t.line group) cut.Whole) in
        let b = words_size old in
        let e = capped to (slot_at Code t.line group) in
        omega (arith, a, b, e)
