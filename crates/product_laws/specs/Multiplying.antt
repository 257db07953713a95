-- A phase that multiplies: one group of C in C := BETA * C + ALPHA * A * B.
use Rattle.std.specs.Prelude.{◌≡◌, ◌≢◌, ℕ, ◌+◌, ◌-◌, ◌*◌, ◌/◌, ◌%◌, ◌<◌, ◌&&◌, ◌||◌, ◌==◌, ◌⊎◌, Bool, true, false, nat_lt, if◌then◌else◌, List, [], None, map, IsTrue}
use Rattle.std.specs.List.{range_with_len}
use Rattle.field_core.specs.Sums.{sum_to}
use Rattle.run_data.specs.Matrix.{Matrix, entry}
use Rattle.blacs_grid.specs.Places.{width, rank_at, is_member}
use Rattle.rank_machine.specs.declared.slot.Slot.{Slot}
use Rattle.rank_machine.specs.declared.slot.SlotKind.TheVariants.{Data, Code}
use Rattle.rank_machine.specs.declared.mark.Mark.{Mark}
use Rattle.rank_machine.specs.declared.layout.Layout.{Layout}
use Rattle.rank_machine.specs.Setting.{Setting, job, layout, is_matrix, factored, group_count}
use Rattle.rank_machine.specs.State.{State, Took, same_kind, same_slot}
use Rattle.rank_machine.specs.Effect.{replay, is_live, is_live_matrix}
use Rattle.rank_machine.specs.Legal.{is_among}
use Rattle.rank_machine.specs.Marks.{follows}
use Rattle.rank_machine.specs.CodeLaw.{is_strip_of}
use Rattle.rank_slots.specs.Stands.{records_of}
use Rattle.phase_laws.specs.Columns.{slot_column}
use Rattle.round_laws.specs.Turns.{IsGridOf}
use Rattle.round_laws.specs.Paths.{path_of}
use Rattle.run_laws.specs.LastCommit.{IsScripted}
use Rattle.run_laws.specs.NextMark.{JobsRise}
use Rattle.serial_model.specs.Solves.{product_of}
use Rattle.dist_matrix.specs.Strips.{HasShape}
use Rattle.phase_frames.specs.Groups.{HoldsGroup}
use Rattle.phase_rounds.specs.Strips.{work}
use Rattle.phases.specs.declared.phase.Next.{Next}
use Rattle.phases.specs.declared.phase.Next.TheVariants as n
use Rattle.phases.specs.Plans.{Plan, Progress, saves}
use Rattle.product_rounds.specs.declared.rounds.GroupProduct.{GroupProduct}
use Rattle.product_rounds.specs.Rounds.{IsOnGrid, strip_slot, block_count, group_events}
use Rattle.product_rounds.specs.Standing.{AreAligned}
use Rattle.product_laws.specs.Held.{HoldsGroups, HoldsSome}

-- the product of a group, and the mark under which the phase commits
pub record ProductTask : Type 0 where
  pub x : GroupProduct
  pub mark : Mark

-- where the three matrices lie
abbrev pub layout_a : GroupProduct → Layout
layout_a x = record { grid = x.grid; desc = x.a }

abbrev pub layout_b : GroupProduct → Layout
layout_b x = record { grid = x.grid; desc = x.b }

abbrev pub layout_c : GroupProduct → Layout
layout_c x = record { grid = x.grid; desc = x.c }

-- ---- what it asks
-- The mark's line comes next. It makes and factors no matrix, has these factors, and its messages go this way. The three matrices are live and lie on one grid,
-- in blocks that fit; C is neither A nor B, the ranks hold the strips of some matrices, and C is live under the mark too. The script is one.
pub record MayMultiplyMatrices (s : Setting) (base : State) (t : ProductTask) : Type 0 where
  pub follows_last : IsTrue (follows s base.mark t.mark)
  pub no_matrix : is_matrix s t.mark.line ≡ false
  pub plain : factored s t.mark.line ≡ 0
  pub alpha : is_among (job s t.mark.line).scalars t.x.alpha ≡ true
  pub beta : is_among (job s t.mark.line).scalars t.x.beta ≡ true
  pub path : (job s t.mark.line).path ≡ path_of t.x.topology
  pub some_words : 0 < s.modulus
  pub some_messages : 0 < s.capacity
  pub on_grid : IsOnGrid t.x
  pub aligned : AreAligned t.x
  pub of : IsGridOf s t.x.grid
  pub lies_a : layout s t.x.line_a ≡ layout_a t.x
  pub lies_b : layout s t.x.line_b ≡ layout_b t.x
  pub lies_c : layout s t.x.line_c ≡ layout_c t.x
  pub live_a : is_live_matrix s base.mark t.x.line_a ≡ true
  pub live_b : is_live_matrix s base.mark t.x.line_b ≡ true
  pub live_c : is_live_matrix s base.mark t.x.line_c ≡ true
  pub stays_c : is_live_matrix s t.mark t.x.line_c ≡ true
  pub plain_c : factored s t.x.line_c ≡ 0
  pub apart_a : t.x.line_c ≢ t.x.line_a
  pub apart_b : t.x.line_c ≢ t.x.line_b
  pub group_in : t.x.group < group_count (layout_c t.x)
  pub holds_a : HoldsSome base (layout_a t.x) t.x.line_a
  pub holds_b : HoldsSome base (layout_b t.x) t.x.line_b
  pub holds_c : HoldsSome base (layout_c t.x) t.x.line_c
  pub scripted : IsScripted s
  pub rising : JobsRise 0 s.jobs

-- ---- what it does
-- whether a slot is a strip of the group of C
abbrev pub is_strip_of_group : GroupProduct → Slot → Bool
is_strip_of_group x slot = ((same_kind slot.kind Data || same_kind slot.kind Code) && (slot.id == x.line_c)) && (slot.group == x.group)

-- the matrices have the shapes of the three layouts
pub record HaveShapes (x : GroupProduct) (left right old : Matrix) : Type 0 where
  pub a : HasShape (layout_a x) left
  pub b : HasShape (layout_b x) right
  pub c : HasShape (layout_c x) old

-- The data ranks hold the group of the product, whatever matrices A, B and C were; everything else that is live is as it was, and nothing was taken.
pub record HasMultiplied (s : Setting) (base : State) (t : ProductTask) (takes : List Took) (new : State) : Type 0 where
  pub takes_none : takes ≡ []
  pub product : (a b c : Matrix) → HoldsGroups base (layout_a t.x) t.x.line_a a → HoldsGroup base (layout_b t.x) t.x.line_b b t.x.group → HoldsGroup base (layout_c t.x) t.x.line_c c t.x.group
      → HaveShapes t.x a b c → HoldsGroup new (layout_c t.x) t.x.line_c (product_of s.modulus t.x.alpha a b t.x.beta c) t.x.group
  pub rest : (rank : ℕ) (slot : Slot) → is_strip_of_group t.x slot ≡ false → is_live s t.mark rank slot ≡ true → new.tiles rank slot ≡ base.tiles rank slot

-- ---- words of B and C
-- the words that the strips of the group hold on a process column, data or code, by global row and the strip's column
abbrev pub words_b : State → GroupProduct → ℕ → ℕ → ℕ → ℕ
words_b st x col q c = slot_column st (layout_b x) col (strip_slot x x.line_b col) c q

abbrev pub words_c : State → GroupProduct → ℕ → ℕ → ℕ → ℕ
words_c st x col i c = slot_column st (layout_c x) col (strip_slot x x.line_c col) c i

-- those of the product: the sum goes over the columns of A
abbrev pub words_made : Setting → State → GroupProduct → Matrix → ℕ → ℕ → ℕ → ℕ
words_made s st x a col i c = (x.alpha * sum_to x.a.n (λ q. entry a i q * words_b st x col q c) + x.beta * words_c st x col i c) % s.modulus

-- after the round: on each process column, data or code, the strips of the group are there, of their shape, and hold the words of the product; but for them and two work slots nothing on the ranks of the run has changed
pub record IsMultiplied (s : Setting) (base : State) (x : GroupProduct) (a : Matrix) (now : State) : Type 0 where
  pub live : now.live ≡ base.live
  pub mark : now.mark ≡ base.mark
  pub lost : now.lost ≡ base.lost
  pub taken : now.taken ≡ base.taken
  pub links : (from to : ℕ) → now.links from to ≡ []
  pub strips : (col row : ℕ) → col < width x.grid → row < x.grid.p → is_strip_of (layout_c x) row (now.tiles (rank_at x.grid row col) (strip_slot x x.line_c col)) ≡ true
  pub words : (col i c : ℕ) → col < width x.grid → i < x.c.m → c < x.c.nb → words_c now x col i c ≡ words_made s base x a col i c
  pub rest : (rank : ℕ) (slot : Slot) → is_strip_of_group x slot ≡ false → same_slot slot (work 0) ≡ false → same_slot slot (work 1) ≡ false → now.tiles rank slot ≡ base.tiles rank slot

-- ---- its saves
-- the strip of the group on each rank of the grid, row by row
abbrev pub saved_at : GroupProduct → ℕ → ℕ × Slot
saved_at x i = (rank_at x.grid (i / width x.grid) (i % width x.grid), strip_slot x x.line_c (i % width x.grid))

abbrev pub saved_strips : GroupProduct → List (ℕ × Slot)
saved_strips x = map (saved_at x) (range_with_len 0 (x.grid.p * width x.grid))

-- ---- its answers
-- one round, and the end
abbrev pub product_answer : {K : Type 0} → GroupProduct → ℕ → Next K
product_answer x calls = if calls == 0 then n.Round (group_events x) else n.End

-- how many records the round makes: the strips are scaled; for each block column a strip goes along each process row and a part of one down each process column,
-- and each rank multiplies
abbrev pub round_records : GroupProduct → ℕ
round_records x =
    x.grid.p * width x.grid + block_count x * ((2 * (x.grid.p * (width x.grid - 1)) + 2 * (width x.grid * (x.grid.p - 1))) + x.grid.p * width x.grid)

abbrev pub product_progress : GroupProduct → ℕ → Progress
product_progress x calls = record { takes = []; asked = None; nexts = calls; records = if calls == 0 then 0 else round_records x; ended = nat_lt 1 calls }

-- the saves, the round and the commit
abbrev pub product_records : GroupProduct → ℕ
product_records x = x.grid.p * width x.grid + round_records x + 1

-- ---- words
-- on each rank of the grid the saved strip, and two work slots: a strip of A and a part of one of B
abbrev pub product_words : GroupProduct → ℕ → ℕ
product_words x rank = if is_member x.grid rank then (x.c.lld * x.c.nb + x.a.lld * x.a.nb) + x.b.lld * x.b.nb else 0

abbrev pub product_plan : ProductTask → Plan
product_plan t = record {
  MayDrive = λ s base. MayMultiplyMatrices s base t;
  Effect = λ s base takes new. HasMultiplied s base t takes new;
  listed = saved_strips t.x;
  mark = t.mark;
  most_nexts = 2;
  most_records = product_records t.x;
  most_words = product_words t.x;
}

-- ---- between two answers
-- what the phase is, as a value
pub record ProductView : Type 0 where
  pub x : GroupProduct
  pub mark : Mark
  pub calls : ℕ

abbrev pub product_task : GroupProduct → Mark → ProductTask
product_task x mark = record { x = x; mark = mark }

-- the strips of the group are saved, and nothing else has changed
pub record HasSaved (base : State) (x : GroupProduct) (now : State) : Type 0 where
  pub tiles : now.tiles ≡ base.tiles
  pub fresh : now.fresh ≡ base.fresh
  pub live : now.live ≡ base.live
  pub links : now.links ≡ base.links
  pub mark : now.mark ≡ base.mark
  pub lost : now.lost ≡ base.lost
  pub taken : now.taken ≡ base.taken
  pub strips : (row col : ℕ) → row < x.grid.p → col < width x.grid → now.saved (rank_at x.grid row col) (strip_slot x x.line_c col) ≡ base.tiles (rank_at x.grid row col) (strip_slot x x.line_c col)
  pub others : (rank : ℕ) (slot : Slot) → (is_member x.grid rank && is_strip_of_group x slot) ≡ false → now.saved rank slot ≡ base.saved rank slot
  -- what is saved is nothing, or what was held
  pub saved : (rank : ℕ) (slot : Slot) → (now.saved rank slot ≡ None) ⊎ (now.saved rank slot ≡ base.tiles rank slot)

-- the state after the saves, and after the round
abbrev pub saved_state : Setting → State → GroupProduct → State
saved_state s base x = replay s base (saves (saved_strips x))

abbrev pub multiplied_state : Setting → State → GroupProduct → State
multiplied_state s base x = replay s (saved_state s base x) (records_of (group_events x))

abbrev pub ProductStands : ProductTask → ℕ → Setting → State → State → Type 0
ProductStands t calls s base now = now ≡ (if calls == 0 then saved_state s base t.x else multiplied_state s base t.x)
