-- What a kernel that changes a tile asks and makes, said of that tile and of those that it reads.
use Rattle.std.proofs.Common.{◌≡◌, ◌+◌, ◌<◌, ◌==◌, ◌&&◌, ℕ, Bool, true, false, not, cond, nat_lt, Option, Some, None, List, [], ◌∷◌, ◌++◌, min, refl, sym, ap, subst, ◌∙◌}
use Rattle.std.proofs.lemmas.Bool.{and_parts, true≢false, not-true, false_from_ne_true, ltb-true}
use Rattle.run_data.specs.declared.matrix.Part.{Part}
use Rattle.run_data.specs.Matrix.{Matrix, cols, entry}
use Rattle.run_data.specs.Parts.{part_of, with_copy}
use Rattle.local_blas.specs.Kernels.{with_scaled, with_added, with_product, with_solved_lower, with_solved_upper, with_rows_swapped, with_eliminated}
use Rattle.rank_machine.specs.declared.slot.Slot.{Slot}
use Rattle.rank_machine.specs.declared.slot.Tile.{Tile}
use Rattle.rank_machine.specs.declared.slot.Tile.TheVariants.{Words, Index}
use Rattle.rank_machine.specs.declared.slot.Piece.{Piece}
use Rattle.rank_machine.specs.declared.slot.Piece.TheVariants as piece
use Rattle.rank_machine.specs.declared.kernel.Cut.{Cut}
use Rattle.rank_machine.specs.declared.kernel.Kernel.{Kernel}
use Rattle.rank_machine.specs.declared.kernel.Kernel.TheVariants as k
use Rattle.rank_machine.specs.Setting.{Setting, layout, global_row}
use Rattle.rank_machine.specs.State.{same_slot}
use Rattle.rank_machine.specs.Effect.{words_of, numbers_of, first_number, is_words, is_index, is_whole, with_piece, cut_out, pushed, slot_of, area, matrix_in, area_in, target, reaches, made_by}
use Rattle.rank_machine.specs.Legal.{is_inside, holds_words, is_number, same_area, is_square, is_apart, height, breadth}
use Rattle.rank_machine.proofs.Base.{same_slot-true}
use Rattle.rank_slots.specs.Cells.{with_slot}
use Rattle.rank_slots.specs.Rank.{IsFit, changes_words}
use Rattle.rank_slots.specs.Shapes.{from_corner, has_nonzero_diagonal}
use Rattle.rank_slots.proofs.CellLaws.{same_slot-refl}
use Rattle.rank_memory.specs.Fits.{OneFit, PairFit, AddFit, ProductFit, SolveFit, ElimFit, LeastFit, PushFit}

pub same_slot-false : (a b : Slot) → same_slot a b ≡ false → same_slot b a ≡ false
same_slot-false a b h = false_from_ne_true (same_slot b a) (λ e. true≢false (sym (subst (λ n. same_slot n b ≡ true) (same_slot-true b a e) (same_slot-refl b)) ∙ h))

-- the slot itself, and another one
pub here : (holding : Slot → Option Tile) (s : Slot) (t : Tile) → with_slot holding s t s ≡ Some t
here holding s t = ap (λ b. cond b (Some t) (holding s)) (same_slot-refl s)

pub elsewhere : (holding : Slot → Option Tile) (s : Slot) (t : Tile) (x : Slot) → same_slot s x ≡ false → with_slot holding s t x ≡ holding x
elsewhere holding s t x h = ap (λ b. cond b (Some t) (holding x)) (same_slot-false s x h)

-- a kernel, by another name for it
pub fit_of : (p : ℕ) (s : Setting) (rank : ℕ) (holding : Slot → Option Tile) (t : Tile) (a b : Kernel) → a ≡ b
    → IsFit p s rank (with_slot holding (slot_of (target a)) t) a → IsFit p s rank (with_slot holding (slot_of (target b)) t) b
fit_of p s rank holding t a b e h = subst (λ n. IsFit p s rank (with_slot holding (slot_of (target n)) t) n) e h

pub made_of : (s : Setting) (rank : ℕ) (holding : Slot → Option Tile) (t : Tile) (a b : Kernel) → a ≡ b
    → made_by s rank (with_slot holding (slot_of (target b)) t) b ≡ made_by s rank (with_slot holding (slot_of (target a)) t) a
made_of s rank holding t a b e = sym (ap (λ n. made_by s rank (with_slot holding (slot_of (target n)) t) n) e)

first_apart : (s : Slot) (x : Piece) (xs : List Piece) → is_apart s (x ∷ xs) ≡ true → same_slot s (slot_of x) ≡ false
first_apart s x xs h = not-true (same_slot s (slot_of x)) (and_parts (not (same_slot s (slot_of x))) (is_apart s xs) h).0

later_apart : (s : Slot) (x : Piece) (xs : List Piece) → is_apart s (x ∷ xs) ≡ true → is_apart s xs ≡ true
later_apart s x xs h = (and_parts (not (same_slot s (slot_of x))) (is_apart s xs) h).1

-- words that are held, by what holds them
same_held : (x : Piece) (a b : Option Tile) → a ≡ b → holds_words (λ _. a) x ≡ true → holds_words (λ _. b) x ≡ true
same_held x a b e h = sym (ap (λ o. holds_words (λ _. o) x) e) ∙ h

-- ---- one tile
pub scale_fit : (p : ℕ) (s : Setting) (rank : ℕ) (holding : Slot → Option Tile) (m : Matrix) (to : Piece) (a : ℕ) → IsFit p s rank (with_slot holding (slot_of to) (Words m)) (k.Scale to a) → OneFit p m to a
scale_fit p s rank holding m to a h = record {
  inside = same_held to _ _ (here holding (slot_of to) (Words m)) h.held;
  factor = ltb-true a p h.factor;
}

pub scale_made : (s : Setting) (rank : ℕ) (holding : Slot → Option Tile) (m : Matrix) (to : Piece) (a : ℕ)
    → made_by s rank (with_slot holding (slot_of to) (Words m)) (k.Scale to a) ≡ Words (with_scaled s.modulus m (area to m) a)
scale_made s rank holding m to a =
    let e = here holding (slot_of to) (Words m) in
    λ n. Words (with_scaled s.modulus (words_of (e n)) (area to (words_of (e n))) a)

-- ---- a tile and what one other piece holds
pub to_here : (holding : Slot → Option Tile) (m : Matrix) (to : Piece) → with_slot holding (slot_of to) (Words m) (slot_of to) ≡ Some (Words m)
to_here holding m to = here holding (slot_of to) (Words m)

pub from_there : (holding : Slot → Option Tile) (m : Matrix) (slot : Slot) (from : Piece) (xs : List Piece) → is_apart slot (from ∷ xs) ≡ true → with_slot holding slot (Words m) (slot_of from) ≡ holding (slot_of from)
from_there holding m slot from xs h = elsewhere holding slot (Words m) (slot_of from) (first_apart slot from xs h)

words_inside : (holding : Slot → Option Tile) (x : Piece) → holds_words holding x ≡ true → is_inside (area_in holding x) (matrix_in holding x) ≡ true
words_inside holding x h = (and_parts (is_words (holding (slot_of x))) (is_inside (area_in holding x) (matrix_in holding x)) h).1

pub pair_fit : (holding : Slot → Option Tile) (m : Matrix) (to from : Piece) (xs : List Piece) → is_apart (slot_of to) (from ∷ xs) ≡ true
    → (holds_words (with_slot holding (slot_of to) (Words m)) to && holds_words (with_slot holding (slot_of to) (Words m)) from) ≡ true → PairFit holding m to from
pair_fit holding m to from xs apart held =
    let h = and_parts (holds_words (with_slot holding (slot_of to) (Words m)) to) (holds_words (with_slot holding (slot_of to) (Words m)) from) held in
    let there : holds_words holding from ≡ true = same_held from _ _ (from_there holding m (slot_of to) from xs apart) h.1 in
    record {
      from_held = there;
      inside = same_held to _ _ (to_here holding m to) h.0;
      from_inside = words_inside holding from there;
    }

-- ---- copies
pub copy_fit : (p : ℕ) (s : Setting) (rank : ℕ) (holding : Slot → Option Tile) (m : Matrix) (slot : Slot) (at : Part) (from : Piece)
    → IsFit p s rank (with_slot holding slot (Words m)) (k.Copy (piece.Part slot at) from) → PairFit holding m (piece.Part slot at) from × (same_area at (area_in holding from) ≡ true)
copy_fit p s rank holding m slot at from h =
    let e = from_there holding m slot from [] h.apart in
    (pair_fit holding m (piece.Part slot at) from [] h.apart h.held, sym (λ n. same_area at (area from (words_of (e n)))) ∙ h.shaped)

-- ---- additions
pub add_fit : (p : ℕ) (s : Setting) (rank : ℕ) (holding : Slot → Option Tile) (m : Matrix) (to : Piece) (a : ℕ) (from : Piece) (cut : Cut)
    → IsFit p s rank (with_slot holding (slot_of to) (Words m)) (k.Add to a from cut) → AddFit p s rank holding m to a from cut
add_fit p s rank holding m to a from cut h =
    let e = to_here holding m to in
    let f = from_there holding m (slot_of to) from [] h.apart in
    record {
      pair = pair_fit holding m to from [] h.apart h.held;
      shape = sym (λ n. same_area (area to (words_of (e n))) (area from (words_of (f n)))) ∙ h.shaped;
      placed = h.placed;
      factor = ltb-true a p h.factor;
    }

pub add_made : (s : Setting) (rank : ℕ) (holding : Slot → Option Tile) (m : Matrix) (to : Piece) (a : ℕ) (from : Piece) (cut : Cut) → is_apart (slot_of to) (from ∷ []) ≡ true
    → made_by s rank (with_slot holding (slot_of to) (Words m)) (k.Add to a from cut) ≡ Words (with_added s.modulus m (area to m) a (matrix_in holding from) (area_in holding from) (reaches s rank (slot_of to) cut))
add_made s rank holding m to a from cut apart =
    let e = to_here holding m to in
    let f = from_there holding m (slot_of to) from [] apart in
    λ n. Words (with_added s.modulus (words_of (e n)) (area to (words_of (e n))) a (words_of (f n)) (area from (words_of (f n))) (reaches s rank (slot_of to) cut))

-- ---- products
right_there : (holding : Slot → Option Tile) (m : Matrix) (slot : Slot) (left right : Piece) → is_apart slot (left ∷ right ∷ []) ≡ true → with_slot holding slot (Words m) (slot_of right) ≡ holding (slot_of right)
right_there holding m slot left right h = from_there holding m slot right [] (later_apart slot left (right ∷ []) h)

pub product_fit : (p : ℕ) (s : Setting) (rank : ℕ) (holding : Slot → Option Tile) (m : Matrix) (to : Piece) (a : ℕ) (left right : Piece)
    → IsFit p s rank (with_slot holding (slot_of to) (Words m)) (k.MulAdd to a left right) → ProductFit p holding m to a left right
product_fit p s rank holding m to a left right h =
    let with_it = with_slot holding (slot_of to) (Words m) in
    let e = to_here holding m to in
    let f = from_there holding m (slot_of to) left (right ∷ []) h.apart in
    let g = right_there holding m (slot_of to) left right h.apart in
    let q = and_parts (holds_words with_it to && holds_words with_it left) (holds_words with_it right) h.held in
    let there : holds_words holding right ≡ true = same_held right _ _ g q.1 in
    record {
      pair = pair_fit holding m to left (right ∷ []) h.apart q.0;
      right_held = there;
      right_inside = words_inside holding right there;
      shape = sym (λ n. (height (area to (words_of (e n))) == height (area left (words_of (f n)))) && ((breadth (area left (words_of (f n))) == height (area right (words_of (g n)))) && (breadth (area to (words_of (e n))) == breadth (area right (words_of (g n)))))) ∙ h.shaped;
      factor = ltb-true a p h.factor;
    }

pub product_made : (s : Setting) (rank : ℕ) (holding : Slot → Option Tile) (m : Matrix) (to : Piece) (a : ℕ) (left right : Piece) → is_apart (slot_of to) (left ∷ right ∷ []) ≡ true
    → made_by s rank (with_slot holding (slot_of to) (Words m)) (k.MulAdd to a left right) ≡ Words (with_product s.modulus m (area to m) a (matrix_in holding left) (area_in holding left) (matrix_in holding right) (area_in holding right))
product_made s rank holding m to a left right apart =
    let e = to_here holding m to in
    let f = from_there holding m (slot_of to) left (right ∷ []) apart in
    let g = right_there holding m (slot_of to) left right apart in
    λ n. Words (with_product s.modulus (words_of (e n)) (area to (words_of (e n))) a (words_of (f n)) (area left (words_of (f n))) (words_of (g n)) (area right (words_of (g n))))

-- ---- solves
solve_fit : (holding : Slot → Option Tile) (m : Matrix) (to block : Piece) (unit : Bool) → is_apart (slot_of to) (block ∷ []) ≡ true
    → (holds_words (with_slot holding (slot_of to) (Words m)) to && holds_words (with_slot holding (slot_of to) (Words m)) block) ≡ true
    → is_square (area_in (with_slot holding (slot_of to) (Words m)) block) (area_in (with_slot holding (slot_of to) (Words m)) to) ≡ true
    → has_nonzero_diagonal (matrix_in (with_slot holding (slot_of to) (Words m)) block) (area_in (with_slot holding (slot_of to) (Words m)) block) unit ≡ true → SolveFit holding m to block unit
solve_fit holding m to block unit apart held shaped divisors =
    let e = to_here holding m to in
    let f = from_there holding m (slot_of to) block [] apart in
    record {
      pair = pair_fit holding m to block [] apart held;
      shape = sym (λ n. is_square (area block (words_of (f n))) (area to (words_of (e n)))) ∙ shaped;
      divisors = sym (λ n. has_nonzero_diagonal (words_of (f n)) (area block (words_of (f n))) unit) ∙ divisors;
    }

pub lower_fit : (p : ℕ) (s : Setting) (rank : ℕ) (holding : Slot → Option Tile) (m : Matrix) (to block : Piece) (unit : Bool)
    → IsFit p s rank (with_slot holding (slot_of to) (Words m)) (k.Lower to block unit) → SolveFit holding m to block unit
lower_fit p s rank holding m to block unit h = solve_fit holding m to block unit h.apart h.held h.shaped h.divisors

pub upper_fit : (p : ℕ) (s : Setting) (rank : ℕ) (holding : Slot → Option Tile) (m : Matrix) (to block : Piece) (unit : Bool)
    → IsFit p s rank (with_slot holding (slot_of to) (Words m)) (k.Upper to block unit) → SolveFit holding m to block unit
upper_fit p s rank holding m to block unit h = solve_fit holding m to block unit h.apart h.held h.shaped h.divisors

pub lower_made : (s : Setting) (rank : ℕ) (holding : Slot → Option Tile) (m : Matrix) (to block : Piece) (unit : Bool) → is_apart (slot_of to) (block ∷ []) ≡ true
    → made_by s rank (with_slot holding (slot_of to) (Words m)) (k.Lower to block unit) ≡ Words (with_solved_lower s.modulus s.inverse m (area to m) (matrix_in holding block) (area_in holding block) unit)
lower_made s rank holding m to block unit apart =
    let e = to_here holding m to in
    let f = from_there holding m (slot_of to) block [] apart in
    λ n. Words (with_solved_lower s.modulus s.inverse (words_of (e n)) (area to (words_of (e n))) (words_of (f n)) (area block (words_of (f n))) unit)

pub upper_made : (s : Setting) (rank : ℕ) (holding : Slot → Option Tile) (m : Matrix) (to block : Piece) (unit : Bool) → is_apart (slot_of to) (block ∷ []) ≡ true
    → made_by s rank (with_slot holding (slot_of to) (Words m)) (k.Upper to block unit) ≡ Words (with_solved_upper s.modulus s.inverse m (area to m) (matrix_in holding block) (area_in holding block) unit)
upper_made s rank holding m to block unit apart =
    let e = to_here holding m to in
    let f = from_there holding m (slot_of to) block [] apart in
    λ n. Words (with_solved_upper s.modulus s.inverse (words_of (e n)) (area to (words_of (e n))) (words_of (f n)) (area block (words_of (f n))) unit)

-- ---- exchanges
pub swap_fit : (p : ℕ) (s : Setting) (rank : ℕ) (holding : Slot → Option Tile) (m : Matrix) (to : Slot) (i j : ℕ) → IsFit p s rank (with_slot holding to (Words m)) (k.Swap to i j) → (i < m.rows) × (j < m.rows)
swap_fit p s rank holding m to i j h =
    let e = here holding to (Words m) in
    let q = and_parts (nat_lt i m.rows) (nat_lt j m.rows) (sym (λ n. nat_lt i (words_of (e n)).rows && nat_lt j (words_of (e n)).rows) ∙ h.shaped) in
    (ltb-true i m.rows q.0, ltb-true j m.rows q.1)

pub swap_made : (s : Setting) (rank : ℕ) (holding : Slot → Option Tile) (m : Matrix) (to : Slot) (i j : ℕ) → made_by s rank (with_slot holding to (Words m)) (k.Swap to i j) ≡ Words (with_rows_swapped m i j)
swap_made s rank holding m to i j = let e = here holding to (Words m) in λ n. Words (with_rows_swapped (words_of (e n)) i j)

-- ---- eliminations
pub elim_fit : (p : ℕ) (s : Setting) (rank : ℕ) (holding : Slot → Option Tile) (m : Matrix) (to : Slot) (j above : ℕ) (row : Piece)
    → IsFit p s rank (with_slot holding to (Words m)) (k.Elim to j above row) → ElimFit s rank holding m to j row
elim_fit p s rank holding m to j above row h =
    let with_it = with_slot holding to (Words m) in
    let e = here holding to (Words m) in
    let f = from_there holding m to row [] h.apart in
    let q = and_parts (is_words (with_it to)) (holds_words with_it row) h.held in
    let there : holds_words holding row ≡ true = same_held row _ _ f q.1 in
    record {
      row_held = there;
      row_inside = words_inside holding row there;
      shape = sym (λ n. ((height (area row (words_of (f n))) == 1) && (breadth (area row (words_of (f n))) == cols (words_of (e n)))) && nat_lt j (cols (words_of (e n)))) ∙ h.shaped;
      pivot = sym (λ n. not (entry (words_of (f n)) (area row (words_of (f n))).r0 ((area row (words_of (f n))).c0 + j) == 0)) ∙ h.divisors;
      placed = h.placed;
    }

pub elim_made : (s : Setting) (rank : ℕ) (holding : Slot → Option Tile) (m : Matrix) (to : Slot) (j above : ℕ) (row : Piece) → is_apart to (row ∷ []) ≡ true
    → made_by s rank (with_slot holding to (Words m)) (k.Elim to j above row) ≡ Words (with_eliminated s.modulus s.inverse m (λ i. nat_lt above (global_row (layout s to.id) rank i)) j (matrix_in holding row) (area_in holding row))
elim_made s rank holding m to j above row apart =
    let e = here holding to (Words m) in
    let f = from_there holding m to row [] apart in
    λ n. Words (with_eliminated s.modulus s.inverse (words_of (e n)) (λ i. nat_lt above (global_row (layout s to.id) rank i)) j (words_of (f n)) (area row (words_of (f n))))

-- ---- numbers
number_there : (holding : Slot → Option Tile) (slot : Slot) (t : Tile) (from : Piece) → is_apart slot (from ∷ []) ≡ true → with_slot holding slot t (slot_of from) ≡ holding (slot_of from)
number_there holding slot t from h = elsewhere holding slot t (slot_of from) (first_apart slot from [] h)

pub least_fit : (p : ℕ) (s : Setting) (rank : ℕ) (holding : Slot → Option Tile) (t : Tile) (to : Slot) (from : Piece) → IsFit p s rank (with_slot holding to t) (k.Least to from) → LeastFit holding t from
least_fit p s rank holding t to from h =
    let with_it = with_slot holding to t in
    let q = and_parts (is_number (with_it to)) (is_whole from && is_number (with_it (slot_of from))) h.held in
    record {
      number = sym (ap is_number (here holding to t)) ∙ q.0;
      from_number = sym (ap is_number (number_there holding to t from h.apart)) ∙ (and_parts (is_whole from) (is_number (with_it (slot_of from))) q.1).1;
    }

pub least_made : (s : Setting) (rank : ℕ) (holding : Slot → Option Tile) (t : Tile) (to : Slot) (from : Piece) → is_apart to (from ∷ []) ≡ true
    → made_by s rank (with_slot holding to t) (k.Least to from) ≡ Index (min (first_number (Some t)) (first_number (holding (slot_of from))) ∷ [])
least_made s rank holding t to from apart =
    let e = here holding to t in
    let f = number_there holding to t from apart in
    λ n. Index (min (first_number (e n)) (first_number (f n)) ∷ [])

pub push_fit : (p : ℕ) (s : Setting) (rank : ℕ) (holding : Slot → Option Tile) (t : Tile) (to : Slot) (from : Piece) (above : ℕ) → IsFit p s rank (with_slot holding to t) (k.Push to from above) → PushFit holding t from
push_fit p s rank holding t to from above h =
    let with_it = with_slot holding to t in
    let q = and_parts (is_index (with_it to)) (is_whole from && is_number (with_it (slot_of from))) h.held in
    record {
      index = sym (ap is_index (here holding to t)) ∙ q.0;
      from_number = sym (ap is_number (number_there holding to t from h.apart)) ∙ (and_parts (is_whole from) (is_number (with_it (slot_of from))) q.1).1;
    }

pub push_made : (s : Setting) (rank : ℕ) (holding : Slot → Option Tile) (t : Tile) (to : Slot) (from : Piece) (above : ℕ) → is_apart to (from ∷ []) ≡ true
    → made_by s rank (with_slot holding to t) (k.Push to from above) ≡ Index (numbers_of (Some t) ++ pushed (first_number (holding (slot_of from))) above ∷ [])
push_made s rank holding t to from above apart =
    let e = here holding to t in
    let f = number_there holding to t from apart in
    λ n. Index (numbers_of (e n) ++ pushed (first_number (f n)) above ∷ [])

words_some : (o : Option Tile) → is_words o ≡ true → o ≡ Some (Words (words_of o))
words_some None h = absurd (cc)
words_some (Some (Words m)) h = refl
words_some (Some (Index ns)) h = absurd (cc)

pub copy_made : (s : Setting) (rank : ℕ) (holding : Slot → Option Tile) (m : Matrix) (slot : Slot) (at : Part) (from : Piece) → is_apart slot (from ∷ []) ≡ true → holds_words holding from ≡ true
    → made_by s rank (with_slot holding slot (Words m)) (k.Copy (piece.Part slot at) from) ≡ Words (with_copy m at (part_of (matrix_in holding from) (area_in holding from)) (from_corner at))
copy_made s rank holding m slot at from apart held =
    let e = here holding slot (Words m) in
    let words = (and_parts (is_words (holding (slot_of from))) (is_inside (area_in holding from) (matrix_in holding from)) held).0 in
    let f = from_there holding m slot from [] apart ∙ words_some (holding (slot_of from)) words in
    λ n. with_piece (e n) (piece.Part slot at) (cut_out from (f n))

-- a copy to a piece that is not whole
pub copy_fit_to : (p : ℕ) (s : Setting) (rank : ℕ) (holding : Slot → Option Tile) (m : Matrix) (to from : Piece) → is_whole to ≡ false
    → IsFit p s rank (with_slot holding (slot_of to) (Words m)) (k.Copy to from) → PairFit holding m to from × (same_area (area to m) (area_in holding from) ≡ true)
copy_fit_to p s rank holding m (piece.Whole slot) from w h = absurd (true≢false w)
copy_fit_to p s rank holding m (piece.Part slot at) from w h = copy_fit p s rank holding m slot at from h

pub copy_made_to : (s : Setting) (rank : ℕ) (holding : Slot → Option Tile) (m : Matrix) (to from : Piece) → is_whole to ≡ false → is_apart (slot_of to) (from ∷ []) ≡ true → holds_words holding from ≡ true
    → made_by s rank (with_slot holding (slot_of to) (Words m)) (k.Copy to from) ≡ Words (with_copy m (area to m) (part_of (matrix_in holding from) (area_in holding from)) (from_corner (area to m)))
copy_made_to s rank holding m (piece.Whole slot) from w apart held = absurd (true≢false w)
copy_made_to s rank holding m (piece.Part slot at) from w apart held = copy_made s rank holding m slot at from apart held

pub part_of_words : (a : Kernel) (to from : Piece) → a ≡ k.Copy to from → changes_words a ≡ true → is_whole to ≡ false
part_of_words a to from e h = not-true (is_whole to) (sym (ap changes_words e) ∙ h)
