-- The first events of a round, and what a rank holds that they leave its memory to.
use Rattle.std.proofs.Common.{◌≡◌, ℕ, zero, suc, List, [], ◌∷◌, take, slice_get, sym, ap, ◌∙◌}
use Rattle.rank_run.specs.declared.round.Event.{Event}
use Rattle.rank_run.specs.declared.round.Event.TheVariants.{Local, Move}
use Rattle.rank_run.specs.Action.{Action}
use Rattle.rank_run.specs.Machine.{Machine, MaySteps, after_step}
use Rattle.rank_run.specs.Memory.{Memory}
use Rattle.rank_machine.specs.declared.slot.Slot.{Slot}
use Rattle.rank_machine.specs.declared.slot.Tile.{Tile}
use Rattle.rank_machine.specs.declared.slot.Piece.{Piece}
use Rattle.rank_machine.specs.declared.kernel.Kernel.{Kernel}
use Rattle.rank_machine.specs.declared.record.Rec.TheVariants as r
use Rattle.rank_machine.specs.Setting.{Setting}
use Rattle.rank_machine.specs.State.{State}
use Rattle.rank_machine.specs.Effect.{after}
use Rattle.rank_machine.specs.Legal.{IsLegalFrom}
use Rattle.script_lines.specs.declared.lines.Line.{Line}
use Rattle.rank_slots.specs.Rank.{Rank}
use Rattle.rank_slots.specs.Stands.{records_of, Stands}
use Rattle.rank_slots.proofs.Steps.{tiles_there, tiles_at-get}

-- the first events of a round that is legal in list order are legal
pub legal_first : (s : Setting) (st : State) (k : ℕ) (es : List (Event Rank Kernel Piece Tile)) → IsLegalFrom s st (records_of es) → IsLegalFrom s st (records_of (take k es))
legal_first s st zero es legal = tt
legal_first s st (suc k) [] legal = tt
legal_first s st (suc k) (Local rank x ∷ es) legal = (legal.0, legal_first s (after s st (r.Kernel rank x)) k es legal.1)
legal_first s st (suc k) (Move from to a b ∷ es) legal = (legal.0, (legal.1.0, legal_first s (after s (after s st (r.Send from to a)) (r.Recv to from b)) k es legal.1.1))

-- the first of some steps that may be taken may be taken
pub may_first : {Mem Op Piece Msg : Type 0} (m : Memory Mem Op Piece Msg) (x : Machine Mem Msg) (n : ℕ) (ts : List (Action Op Piece)) → MaySteps m x ts → MaySteps m x (take n ts)
may_first m x zero ts may = tt
may_first m x (suc n) [] may = tt
may_first m x (suc n) (t ∷ ts) may = (may.0, may_first m (after_step m x t) n ts may.1)

-- a rank with the same memory in two machines holds the same in their states
pub same_tiles : (s : Setting) (table : List Line) (x y : Machine Rank Tile) (a b : State) → Stands s table x a → Stands s table y b → (rank : ℕ) → slice_get x.mems rank ≡ slice_get y.mems rank → (slot : Slot) → a.tiles rank slot ≡ b.tiles rank slot
same_tiles s table x y a b h g rank same slot =
    sym (h.tiles rank slot) ∙ tiles_at-get x.mems rank slot ∙ ap (tiles_there slot) same ∙ sym (tiles_at-get y.mems rank slot) ∙ g.tiles rank slot
