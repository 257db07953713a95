-- What ranks hold are residues.
use Rattle.std.proofs.Common.{ℕ, zero, suc, List, [], ◌∷◌, All, subst}
use Rattle.std.proofs.lemmas.List.Elements.{All-head, All-tail}
use Rattle.rank_run.specs.Machine.{Machine}
use Rattle.rank_machine.specs.declared.slot.Slot.{Slot}
use Rattle.rank_machine.specs.declared.slot.Tile.{Tile}
use Rattle.rank_machine.specs.Setting.{Setting}
use Rattle.rank_machine.specs.State.{State}
use Rattle.script_lines.specs.declared.lines.Line.{Line}
use Rattle.rank_slots.specs.Cells.{AreCellsOf, IsSomeTileOf}
use Rattle.rank_slots.specs.Rank.{Rank}
use Rattle.rank_slots.specs.Stands.{tiles_at, Stands, AreResidues}
use Rattle.rank_slots.proofs.CellWords.{cells_tile}

residues_at : (p : ℕ) (ms : List Rank) (rank : ℕ) (slot : Slot) → All (λ (m : Rank). AreCellsOf p m.cells) ms → IsSomeTileOf p (tiles_at ms rank slot)
residues_at p [] rank slot h = tt
residues_at p (m ∷ ms) zero slot h = cells_tile p m.cells slot (All-head (λ (m : Rank). AreCellsOf p m.cells) m ms h)
residues_at p (m ∷ ms) (suc rank) slot h = residues_at p ms rank slot (All-tail (λ (m : Rank). AreCellsOf p m.cells) m ms h)

pub residues_held : (p : ℕ) (s : Setting) (table : List Line) (x : Machine Rank Tile) (st : State) → Stands s table x st → AreResidues p x → (rank : ℕ) (slot : Slot) → IsSomeTileOf p (st.tiles rank slot)
residues_held p s table x st stands h rank slot = subst (IsSomeTileOf p) (stands.tiles rank slot) (residues_at p x.mems rank slot h.mems)
