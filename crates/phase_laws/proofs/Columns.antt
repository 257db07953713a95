-- Rows of a layout as rows of the laws of elimination, and the words that strips hold.
use Rattle.std.proofs.Common.{◌≡◌, ℕ, ◌+◌, ◌<◌, ◌≤◌, ◌==◌, ◌&&◌, Option, true, false, nat_lt, ◌∙◌, ap, arith}
use Rattle.std.proofs.lemmas.Bool.{lt-ltb, le-ltb, and_parts, eqb-true}
use Rattle.run_data.specs.Matrix.{Matrix, cols, entry}
use Rattle.array_desc.specs.Descriptors.{IsDesc}
use Rattle.array_desc.specs.Maps.{global}
use Rattle.blacs_grid.specs.Places.{rank_at}
use Rattle.blacs_grid.proofs.PlaceLaws.{row_of-rank_at}
use Rattle.rank_machine.specs.declared.slot.Tile.{Tile}
use Rattle.rank_machine.specs.declared.slot.Slot.{Slot}
use Rattle.rank_machine.specs.declared.layout.Layout.{Layout}
use Rattle.rank_machine.specs.Setting.{strip_rows, global_row}
use Rattle.rank_machine.specs.State.{State}
use Rattle.rank_machine.specs.Effect.{words_of, is_words}
use Rattle.rank_machine.specs.CodeLaw.{is_strip_of}
use Rattle.elimination.specs.Strips.{RowMap, IsRowMap, rows_below, row_at, row_owner, row_place, Hold, held}
use Rattle.elimination.proofs.StripMaps.{row_owner-at, row_place-at, row_at-lt}
use Rattle.elimination.proofs.StripLaws.{held-holds}
use Rattle.phase_laws.specs.Columns.{rows_of, column_memory, strips_in}

-- the rows of a layout are a map of rows
pub row_map : (d : Layout) → IsDesc d.grid.p d.grid.q d.desc → IsRowMap (rows_of d)
row_map d desc = record { some_block = omega (arith, desc.some_block_rows); source = desc.row_source }

-- the global row of a local row on a rank
pub row_on_rank : (d : Layout) (row col l : ℕ) → col < d.grid.q + d.grid.f → global_row d (rank_at d.grid row col) l ≡ row_at (rows_of d) row l
row_on_rank d row col l h = ap (λ r. global l d.desc.mb r d.desc.rsrc d.grid.p) (row_of-rank_at d.grid row col h)

-- a word that strips hold stands on its row's owner, and there is none past the rows
pub held-inside : (r : RowMap) (strips : ℕ → Matrix) (i c : ℕ) → i < r.m → held r strips i c ≡ entry (strips (row_owner r i)) (row_place r i) c
held-inside r strips i c h = (let t : nat_lt i r.m ≡ true = lt-ltb i r.m h in simp t)

pub held-past : (r : RowMap) (strips : ℕ → Matrix) (i c : ℕ) → r.m ≤ i → held r strips i c ≡ 0
held-past r strips i c h = (let t : nat_lt i r.m ≡ false = le-ltb i r.m h in simp t)

-- a word of a strip is the one that is held at its global row
pub held-place : (r : RowMap) (strips : ℕ → Matrix) (row l c : ℕ) → IsRowMap r → row < r.procs → l < rows_below r r.m row → held r strips (row_at r row l) c ≡ entry (strips row) l c
held-place r strips row l c map h hl =
    held-inside r strips (row_at r row l) c (row_at-lt r row l map h hl)
    ∙ ap (λ q. entry (strips q) (row_place r (row_at r row l)) c) (row_owner-at r row l map h) ∙ ap (λ k. entry (strips row) k c) (row_place-at r row l map)

-- the shape of a strip
pub strip-rows : (d : Layout) (row : ℕ) (t : Option Tile) → is_strip_of d row t ≡ true → (words_of t).rows ≡ strip_rows d row
strip-rows d row t is = eqb-true _ _ (and_parts ((words_of t).rows == strip_rows d row) (cols (words_of t) == d.desc.nb) (and_parts (is_words t) (((words_of t).rows == strip_rows d row) && (cols (words_of t) == d.desc.nb)) is).1).0

pub strip-cols : (d : Layout) (row : ℕ) (t : Option Tile) → is_strip_of d row t ≡ true → cols (words_of t) ≡ d.desc.nb
strip-cols d row t is = eqb-true _ _ (and_parts ((words_of t).rows == strip_rows d row) (cols (words_of t) == d.desc.nb) (and_parts (is_words t) (((words_of t).rows == strip_rows d row) && (cols (words_of t) == d.desc.nb)) is).1).1

-- slots with strips hold the words that are read at their owners
pub strips-hold : (st : State) (d : Layout) (col : ℕ) (slot : Slot) → IsDesc d.grid.p d.grid.q d.desc → ((row : ℕ) → row < d.grid.p → is_strip_of d row (st.tiles (rank_at d.grid row col) slot) ≡ true) → Hold (rows_of d) d.desc.nb (held (rows_of d) (strips_in (column_memory st d col) slot)) (strips_in (column_memory st d col) slot)
strips-hold st d col slot desc are =
    held-holds (rows_of d) d.desc.nb (strips_in (column_memory st d col) slot) (row_map d desc)
    (λ row h. strip-rows d row (st.tiles (rank_at d.grid row col) slot) (are row h)) (λ row h. strip-cols d row (st.tiles (rank_at d.grid row col) slot) (are row h))
