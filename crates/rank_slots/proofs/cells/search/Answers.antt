use Rattle.std.proofs.Common.{get_or, sym, ap, ◌∙◌, arith}
use Rattle.rank_machine.specs.State.{same_slot}
use Rattle.rank_slots.proofs.PlaceLaws.{present, missing_end, missing_here}
use Rattle.rank_slots.proofs.cells.search.Goals as goal
use Rattle.rank_slots.proofs.cells.search.Goals.{else-at-items-via-then-at-items+else-is, else-at-items-via-else-at-items}

pub returns-then-is-clause-found : goal.returns-then-is-clause-found
returns-then-is-clause-found c = (c.place_of-at.ensures, present c.args.items.now c.args.slot c.place_of-at.result c.index-items-at.result c.if-at-items.true (sym c.is.ensures ∙ c.if-is.true))

pub returns-else-at-items-clause-missing : goal.returns-else-at-items-clause-missing
returns-else-at-items-clause-missing c = (
  c.place_of-at.ensures,
  elim c.else-at-items.branch [
    | else-at-items-via-then-at-items+else-is w ↦ missing_here c.args.items.now c.args.slot w.index-items-at.result c.requires (ap (λ k. same_slot c.args.slot (get_or c.args.items.now k w.index-items-at.result).slot) (sym c.place_of-at.ensures) ∙ sym w.is.ensures ∙ w.if-is.false)
    | else-at-items-via-else-at-items w ↦ missing_end c.args.items.now c.args.slot c.requires (omega arith)
  ],
)
