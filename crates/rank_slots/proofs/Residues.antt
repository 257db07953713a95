-- Kernels make residues of residues.
use Rattle.std.proofs.Common.{◌≡◌, ◌+◌, ◌-◌, ◌*◌, ◌%◌, ◌<◌, ◌==◌, ℕ, Bool, true, false, nat_lt, Option, Some, None, subst, ⊎_elim}
use Rattle.std.specs.Prelude.{if◌then◌else◌}
use Rattle.std.proofs.Math.Nat.{mod-lt}
use Rattle.std.proofs.lemmas.Bool.{cases_Bool}
use Rattle.run_data.specs.declared.matrix.Part.{Part}
use Rattle.run_data.specs.Matrix.{Matrix, cols, entry, tabulate, zero_matrix, AreWords}
use Rattle.run_data.specs.Parts.{part_entry, part_of, with_part}
use Rattle.run_data.proofs.Matrices.{IsShaped-tabulate}
use Rattle.run_data.proofs.PartLaws.{AreWords-tabulate, AreWords-with_part}
use Rattle.local_blas.specs.Kernels.{swapped, eliminated_word, multiplier}
use Rattle.local_blas.proofs.Solutions.{solution-below}
use Rattle.local_blas.proofs.Eliminations.{multiplier-below}
use Rattle.blacs_grid.specs.Places.{row_of, col_of}
use Rattle.rank_machine.specs.declared.slot.Slot.{Slot}
use Rattle.rank_machine.specs.declared.slot.SlotKind.TheVariants.{Pivots}
use Rattle.rank_machine.specs.declared.slot.Tile.{Tile}
use Rattle.rank_machine.specs.declared.slot.Tile.TheVariants.{Words, Index}
use Rattle.rank_machine.specs.declared.slot.Piece.{Piece}
use Rattle.rank_machine.specs.declared.slot.Piece.TheVariants as piece
use Rattle.rank_machine.specs.declared.kernel.Kernel.{Kernel}
use Rattle.rank_machine.specs.declared.kernel.Kernel.TheVariants as k
use Rattle.rank_machine.specs.Setting.{Setting, layout, block_at, strip_rows, global_row, global_col}
use Rattle.rank_machine.specs.State.{same_kind}
use Rattle.rank_machine.specs.Effect.{strip, words_of, slot_of, area, matrix_in, area_in, cut_out, piece_in, with_piece, zero_tile, made_by}
use Rattle.rank_slots.specs.Cells.{IsMatrixOf, IsTileOf, IsSomeTileOf}

below_if : (p : ℕ) (b : Bool) (x y : ℕ) → x < p → y < p → (if b then x else y) < p
below_if p true x y f g = f
below_if p false x y f g = g

-- a matrix by its words
pub IsMatrixOf-tabulate : (p m n : ℕ) (f : ℕ → ℕ → ℕ) → 0 < p → ((r c : ℕ) → r < m → c < n → f r c < p) → IsMatrixOf p (tabulate m n f)
IsMatrixOf-tabulate p m n f some below = record { shaped = IsShaped-tabulate m n f; words = AreWords-tabulate p m n f some below }

pub IsMatrixOf-with_part : (p : ℕ) (a : Matrix) (at : Part) (f : ℕ → ℕ → ℕ) → 0 < p → AreWords p a → ((r c : ℕ) → f r c < p) → IsMatrixOf p (with_part a at f)
IsMatrixOf-with_part p a at f some words below = record { shaped = IsShaped-tabulate a.rows (cols a) _; words = AreWords-with_part p a at f some words below }

nothing_of : (p : ℕ) → 0 < p → AreWords p (zero_matrix 0 0)
nothing_of p some = AreWords-tabulate p 0 0 (λ i j. 0) some (λ r c _ _. some)

-- the words of a tile, or none
pub words_of_tile : (p : ℕ) (t : Option Tile) → 0 < p → IsSomeTileOf p t → AreWords p (words_of t)
words_of_tile p None some h = nothing_of p some
words_of_tile p (Some (Words m)) some h = h.words
words_of_tile p (Some (Index ns)) some h = nothing_of p some

part_residues : (p : ℕ) (m : Matrix) (at : Part) → 0 < p → AreWords p m → IsMatrixOf p (part_of m at)
part_residues p m at some h = IsMatrixOf-tabulate p (at.r1 - at.r0) (at.c1 - at.c0) (part_entry m at) some (λ r c _ _. h.below (at.r0 + r) (at.c0 + c))

-- a piece of a tile
pub cut_residues : (p : ℕ) (x : Piece) (t : Option Tile) → 0 < p → IsSomeTileOf p t → IsTileOf p (cut_out x t)
cut_residues p x None some h = tt
cut_residues p x (Some (Words m)) some h = part_residues p m (area x m) some h.words
cut_residues p x (Some (Index ns)) some h = tt

pub piece_residues : (p : ℕ) (old : Option Tile) (x : Piece) (t : Tile) → 0 < p → IsSomeTileOf p old → IsTileOf p t → IsTileOf p (with_piece old x t)
piece_residues p old (piece.Whole slot) t some h g = g
piece_residues p old (piece.Part slot at) t some h g =
    IsMatrixOf-with_part p (words_of old) at _ some (words_of_tile p old some h) (λ r c. (words_of_tile p (Some t) some g).below _ _)

-- a strip of a file of residues
pub strip_residues : (p : ℕ) (s : Setting) (rank : ℕ) (slot : Slot) (m : Matrix) → 0 < p → AreWords p (s.files slot.id) → strip s rank slot ≡ Words m → IsTileOf p (Words m)
strip_residues p s rank slot m some words e =
    let d = layout s slot.id in
    let file = s.files slot.id in
    let block = block_at d slot.group (col_of d.grid rank) in
    subst (IsTileOf p) e
    (IsMatrixOf-tabulate p (strip_rows d (row_of d.grid rank)) d.desc.nb (λ i j. if nat_lt (global_col d block j) d.desc.n then entry file (global_row d rank i) (global_col d block j) else 0) some
    (λ i j _ _. below_if p (nat_lt (global_col d block j) d.desc.n) (entry file (global_row d rank i) (global_col d block j)) 0 (words.below (global_row d rank i) (global_col d block j)) some))

zero_residues : (p : ℕ) (slot : Slot) (rows columns : ℕ) → 0 < p → IsTileOf p (zero_tile slot rows columns)
zero_residues p slot rows columns some =
    ⊎_elim
    (λ (e : same_kind slot.kind Pivots ≡ true). rw e tt)
    (λ (e : same_kind slot.kind Pivots ≡ false). rw e (IsMatrixOf-tabulate p rows columns (λ i j. 0) some (λ r c _ _. some)))
    (cases_Bool (same_kind slot.kind Pivots))

eliminated_below : (p : ℕ) (inverse : ℕ → ℕ) (a : Matrix) (j : ℕ) (row : ℕ → ℕ) (i c : ℕ) → 0 < p → eliminated_word p inverse a j row i c < p
eliminated_below p inverse a j row i c some =
    below_if p (c == j) (multiplier p inverse a j (row j) i) ((entry a i c + (p - 1) * (multiplier p inverse a j (row j) i * row c)) % p) (multiplier-below p inverse a j (row j) i some) (mod-lt _ some)

-- what a kernel makes of what is held
pub made_residues : (s : Setting) (rank : ℕ) (holding : Slot → Option Tile) (x : Kernel) → 0 < s.modulus → ((slot : Slot) → IsSomeTileOf s.modulus (holding slot)) → IsTileOf s.modulus (made_by s rank holding x)
made_residues s rank holding (k.Zero to rows columns) some h = zero_residues s.modulus to rows columns some
made_residues s rank holding (k.Copy to from) some h = piece_residues s.modulus (holding (slot_of to)) to (piece_in holding from) some (h (slot_of to)) (cut_residues s.modulus from (holding (slot_of from)) some (h (slot_of from)))
made_residues s rank holding (k.Scale to a) some h = IsMatrixOf-with_part s.modulus (matrix_in holding to) (area_in holding to) _ some (words_of_tile s.modulus (holding (slot_of to)) some (h (slot_of to))) (λ r c. mod-lt _ some)
made_residues s rank holding (k.Add to a from cut) some h =
    let words = words_of_tile s.modulus (holding (slot_of to)) some (h (slot_of to)) in
    IsMatrixOf-with_part s.modulus (matrix_in holding to) (area_in holding to) _ some words (λ r c. below_if s.modulus _ _ _ (mod-lt _ some) (words.below r c))
made_residues s rank holding (k.MulAdd to a left right) some h = IsMatrixOf-with_part s.modulus (matrix_in holding to) (area_in holding to) _ some (words_of_tile s.modulus (holding (slot_of to)) some (h (slot_of to))) (λ r c. mod-lt _ some)
made_residues s rank holding (k.Lower to block unit) some h = IsMatrixOf-with_part s.modulus (matrix_in holding to) (area_in holding to) _ some (words_of_tile s.modulus (holding (slot_of to)) some (h (slot_of to))) (λ r c. solution-below s.modulus s.inverse unit _ _ _ some)
made_residues s rank holding (k.Upper to block unit) some h = IsMatrixOf-with_part s.modulus (matrix_in holding to) (area_in holding to) _ some (words_of_tile s.modulus (holding (slot_of to)) some (h (slot_of to))) (λ r c. solution-below s.modulus s.inverse unit _ _ _ some)
made_residues s rank holding (k.Swap to i j) some h =
    let words = words_of_tile s.modulus (holding to) some (h to) in
    IsMatrixOf-tabulate s.modulus (words_of (holding to)).rows (cols (words_of (holding to))) _ some (λ r c _ _. words.below (swapped i j r) c)
made_residues s rank holding (k.First to from j above) some h = tt
made_residues s rank holding (k.Diag to from n) some h = tt
made_residues s rank holding (k.Least to from) some h = tt
made_residues s rank holding (k.Elim to j above row) some h =
    let words = words_of_tile s.modulus (holding to) some (h to) in
    IsMatrixOf-tabulate s.modulus (words_of (holding to)).rows (cols (words_of (holding to))) _ some
    (λ r c _ _. below_if s.modulus _ _ _ (eliminated_below s.modulus s.inverse (words_of (holding to)) j (part_entry (matrix_in holding row) (area_in holding row) 0) r c some) (words.below r c))
made_residues s rank holding (k.Push to from above) some h = tt
made_residues s rank holding (k.Trans to from) some h =
    let part : Matrix = part_of (matrix_in holding from) (area_in holding from) in
    let words = (part_residues s.modulus (matrix_in holding from) (area_in holding from) some (words_of_tile s.modulus (holding (slot_of from)) some (h (slot_of from)))).words in
    IsMatrixOf-tabulate s.modulus (cols part) part.rows (λ i j. entry part j i) some (λ r c _ _. words.below c r)
