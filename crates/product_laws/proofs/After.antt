-- What the round of a group leaves: the strips of the product, and all else as it was.
use Rattle.std.proofs.Common.{◌≡◌, ◌-◌, ◌<◌, ◌==◌, ◌&&◌, ◌||◌, ℕ, zero, suc, Bool, true, false, nat_lt, List, [], ◌∷◌, refl, ap, ◌∙◌, ⊎_elim, arith}
use Rattle.std.specs.Prelude.{if◌then◌else◌}
use Rattle.std.proofs.lemmas.Bool.{cases_Bool, and_from, or_left, or_right, or_from, eq-eqb}
use Rattle.run_data.specs.Matrix.{Matrix, cols, entry}
use Rattle.rank_run.specs.declared.round.Event.TheVariants.{Local, Move}
use Rattle.blacs_grid.specs.declared.Scope.TheVariants.{Row, Column}
use Rattle.blacs_grid.specs.Places.{width, rank_at, member, is_member}
use Rattle.blacs_comm.specs.Positions as positions
use Rattle.blacs_comm.specs.Positions.{sender_of}
use Rattle.blacs_comm.specs.Moves.{broadcast_moves}
use Rattle.rank_machine.specs.declared.slot.Slot.{Slot}
use Rattle.rank_machine.specs.declared.slot.SlotKind.TheVariants.{Data, Code}
use Rattle.rank_machine.specs.declared.slot.Piece.{Piece}
use Rattle.rank_machine.specs.declared.slot.Piece.TheVariants as piece
use Rattle.rank_machine.specs.declared.kernel.Kernel.TheVariants as k
use Rattle.rank_machine.specs.declared.layout.Layout.{Layout}
use Rattle.rank_machine.specs.Setting.{Setting, strip_rows}
use Rattle.rank_machine.specs.State.{State, same_slot}
use Rattle.rank_machine.specs.Effect.{words_of, is_words, replay}
use Rattle.rank_machine.specs.CodeLaw.{slot_at}
use Rattle.rank_slots.specs.Stands.{records_of}
use Rattle.elimination.proofs.StripLaws.{held-is}
use Rattle.phase_laws.specs.Columns.{rows_of, column_memory, strips_in}
use Rattle.phase_laws.proofs.Columns.{row_map}
use Rattle.round_laws.specs.Turns.{Replays, IsQuiet, each_below, on_grid, held_on}
use Rattle.round_laws.specs.Changes.{TurnsGrid}
use Rattle.round_laws.proofs.Changes.{grid_legal}
use Rattle.run_laws.specs.LastCommit.{IsRest}
use Rattle.phase_rounds.specs.Strips.{HoldsWords, work}
use Rattle.phase_rounds.specs.Products.{BlockProduct, product_kernel, product_row, product_column, product_events}
use Rattle.phase_frames.specs.Touching.{RoundEvent, AllEvents, WritesIn}
use Rattle.phase_frames.proofs.Touched.{events_then, untouched}
use Rattle.product_rounds.specs.declared.rounds.GroupProduct.{GroupProduct}
use Rattle.product_rounds.specs.Rounds.{strip_slot, block_width, block_product, block_count, scale_column, scale_events, group_events}
use Rattle.product_rounds.specs.Standing.{left_words, right_words}
use Rattle.product_rounds.specs.Groups.{MayMultiplyGroup, CanMultiplyGroup, group_slots, product_group_words}
use Rattle.product_rounds.proofs.Group.{group_multiplies, group_held}
use Rattle.product_rounds.proofs.Words.{product_group_word}
use Rattle.product_laws.specs.Multiplying.{ProductTask, MayMultiplyMatrices, HasSaved, IsMultiplied, layout_c, is_strip_of_group, words_b, words_c}

-- ---- all events of the round
-- what each of some parts has, all of them have
each_part : (P : RoundEvent → Type 0) (n : ℕ) (f : ℕ → List RoundEvent) → ((i : ℕ) → i < n → AllEvents P (f i)) → AllEvents P (each_below n f)
each_part P zero f h = tt
each_part P (suc n) f h = events_then P (each_below n f) (f n) (each_part P n f (λ i lt. h i (omega (arith, lt)))) (h n (omega arith))

-- the moves of a broadcast
each_move : (P : RoundEvent → Type 0) (at up : ℕ → ℕ) (source target : Piece) (n : ℕ) → ((from to : ℕ) (x : Piece) → P (Move from to x target)) → AllEvents P (broadcast_moves at up source target n)
each_move P at up source target zero h = tt
each_move P at up source target (suc n) h =
    events_then P (broadcast_moves at up source target n) (Move (at (up (suc n))) (at (suc n)) (if up (suc n) == 0 then source else target) target ∷ []) (each_move P at up source target n h)
    (h (at (up (suc n))) (at (suc n)) (if up (suc n) == 0 then source else target), tt)

-- What the kernels of the round have, and all moves into its two work slots, all its events have.
pub group_each : (P : RoundEvent → Type 0) (x : GroupProduct)
    → ((row col : ℕ) → P (Local (rank_at x.grid row col) (k.Scale (piece.Whole (strip_slot x x.line_c col)) x.beta)))
    → ((block row col : ℕ) → P (Local (rank_at x.grid row col) (product_kernel (block_product x block) row col)))
    → ((from to : ℕ) (y : Piece) → P (Move from to y (piece.Whole (work 0)))) → ((from to : ℕ) (y : Piece) → P (Move from to y (piece.Whole (work 1))))
    → AllEvents P (group_events x)
group_each P x scales products first second =
    let g = x.grid in
    events_then P (scale_events x) (each_below (block_count x) (λ block. product_events (block_product x block)))
    (each_part P (width g) (scale_column x) (λ col hc. each_part P g.p (λ row. Local (rank_at g row col) (k.Scale (piece.Whole (strip_slot x x.line_c col)) x.beta) ∷ []) (λ row hr. (scales row col, tt))))
    (each_part P (block_count x) (λ block. product_events (block_product x block))
    (λ block hb.
    let y : BlockProduct = block_product x block in
    events_then P (each_below g.p (product_row y)) (each_below (width g) (product_column y))
    (each_part P g.p (product_row y) (λ row hr. each_move P (positions.rank_at (member g (Row row)) (width g) y.topology y.q) (sender_of y.topology) (piece.Whole y.a) (piece.Whole (work 0)) (width g - 1) first))
    (each_part P (width g) (product_column y)
    (λ col hc.
    events_then P (broadcast_moves (positions.rank_at (member g (Column col)) g.p y.topology y.r) (sender_of y.topology) (piece.Part (y.b col) y.right) (piece.Whole (work 1)) (g.p - 1))
    (each_below g.p (λ row. Local (rank_at g row col) (product_kernel y row col) ∷ []))
    (each_move P (positions.rank_at (member g (Column col)) g.p y.topology y.r) (sender_of y.topology) (piece.Part (y.b col) y.right) (piece.Whole (work 1)) (g.p - 1) second)
    (each_part P g.p (λ row. Local (rank_at g row col) (product_kernel y row col) ∷ []) (λ row hr. (products block row col, tt)))))))

-- ---- the slots that the round writes
-- the slot of C on a process column is a strip of the group
pub strip_in_group : (x : GroupProduct) (col : ℕ) → is_strip_of_group x (strip_slot x x.line_c col) ≡ true
strip_in_group x col =
    ⊎_elim
    (λ (e : nat_lt col x.grid.q ≡ true).
    ap (λ b. is_strip_of_group x (slot_at (if b then Data else Code) x.line_c x.group)) e ∙ and_from (x.line_c == x.line_c) (x.group == x.group) (eq-eqb x.line_c x.line_c refl) (eq-eqb x.group x.group refl))
    (λ (e : nat_lt col x.grid.q ≡ false).
    ap (λ b. is_strip_of_group x (slot_at (if b then Data else Code) x.line_c x.group)) e ∙ and_from (x.line_c == x.line_c) (x.group == x.group) (eq-eqb x.line_c x.line_c refl) (eq-eqb x.group x.group refl))
    (cases_Bool (nat_lt col x.grid.q))

-- strips of the group and two work slots
abbrev pub may_write : GroupProduct → ℕ → Slot → Bool
may_write x rank slot = is_strip_of_group x slot || (same_slot slot (work 0) || same_slot slot (work 1))

pub group_writes : (x : GroupProduct) → AllEvents (WritesIn (may_write x)) (group_events x)
group_writes x =
    group_each (WritesIn (may_write x)) x
    (λ row col. or_left (is_strip_of_group x (strip_slot x x.line_c col)) (same_slot (strip_slot x x.line_c col) (work 0) || same_slot (strip_slot x x.line_c col) (work 1)) (strip_in_group x col))
    (λ block row col. or_left (is_strip_of_group x (strip_slot x x.line_c col)) (same_slot (strip_slot x x.line_c col) (work 0) || same_slot (strip_slot x x.line_c col) (work 1)) (strip_in_group x col))
    (λ from to y. or_right (is_strip_of_group x (work 0)) (same_slot (work 0) (work 0) || same_slot (work 0) (work 1)) refl)
    (λ from to y. or_right (is_strip_of_group x (work 1)) (same_slot (work 1) (work 0) || same_slot (work 1) (work 1)) refl)

-- ---- after the round
module _ (s : Setting) (base saved : State) (t : ProductTask) (may : MayMultiplyMatrices s base t) (rest : IsRest s base) (hs : HasSaved base t.x saved) (quiet : IsQuiet s saved) (a : Matrix) (may_group : MayMultiplyGroup s saved t.x)
    (can : CanMultiplyGroup t.x (left_words t.x (entry a)) (block_width t.x) (right_words t.x (words_b base t.x)) (words_c base t.x) (held_on saved t.x.grid)) where
  abbrev x : GroupProduct
  x = t.x

  abbrev d : Layout
  d = layout_c x

  abbrev made : ℕ → ℕ → ℕ → ℕ
  made = product_group_words s x (left_words x (entry a)) (block_width x) (right_words x (words_b base x)) (words_c base x)

  abbrev now : State
  now = replay s saved (records_of (group_events x))

  round : TurnsGrid s saved x.grid (group_slots x) (group_events x) (held_on saved x.grid)
  round = (group_multiplies s saved x (left_words x (entry a)) (block_width x) (right_words x (words_b base x)) (words_c base x) (held_on saved x.grid) may_group can).0

  replays : Replays s saved (is_member x.grid) (group_events x) (on_grid x.grid round.after)
  replays = grid_legal s saved x.grid (group_slots x) may_group.own_grid quiet (group_events x) round

  holds : (col : ℕ) → col < width x.grid → HoldsWords d (strip_slot x x.line_c col) (made col) (λ row. held_on now x.grid row col)
  holds = group_held s saved x (left_words x (entry a)) (block_width x) (right_words x (words_b base x)) (words_c base x) quiet may_group can

  -- The round leaves the product in the strips of the group, and nothing else but two work slots has changed.
  pub is_multiplied : IsMultiplied s base x a now
  is_multiplied = record {
    live = replays.live ∙ hs.live;
    mark = replays.mark ∙ hs.mark;
    lost = replays.lost ∙ hs.lost;
    taken = replays.taken ∙ hs.taken;
    links = replays.links;
    strips = λ col row hc hr.
        (let tile = now.tiles (rank_at x.grid row col) (strip_slot x x.line_c col) in
        let held = holds col hc in
        and_from (is_words tile) (((words_of tile).rows == strip_rows d row) && (cols (words_of tile) == d.desc.nb)) (held.there row hr)
        (and_from ((words_of tile).rows == strip_rows d row) (cols (words_of tile) == d.desc.nb) (eq-eqb (words_of tile).rows (strip_rows d row) (held.hold.rows row hr)) (eq-eqb (cols (words_of tile)) d.desc.nb (held.hold.columns row hr))));
    words = λ col i c hc hi hw.
        held-is (rows_of d) d.desc.nb (made col) (strips_in (column_memory now d col) (strip_slot x x.line_c col)) i c (row_map d may.on_grid.c) (holds col hc).hold hi hw
        ∙ product_group_word s x (entry a) (words_b base x) (words_c base x) may.some_words (omega (arith, may.on_grid.a.some_block_columns)) col i c hi;
    rest = λ rank slot no_strip no_first no_second.
        (untouched s (may_write x) saved (group_events x) (group_writes x) rank slot
        (or_from (is_strip_of_group x slot) (same_slot slot (work 0) || same_slot slot (work 1)) no_strip (or_from (same_slot slot (work 0)) (same_slot slot (work 1)) no_first no_second))).0
        ∙ ap (λ f. f rank slot) hs.tiles;
  }
