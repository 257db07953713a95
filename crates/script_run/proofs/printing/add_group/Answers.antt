use Rattle.std.proofs.Common.{◌++◌, ◌∷◌, [], ap, ◌∙◌}
use Rattle.blacs_grid.specs.declared.Scope.TheVariants.{All}
use Rattle.blacs_grid.specs.Places.{member}
use Rattle.rank_machine.specs.declared.slot.SlotKind.TheVariants.{Data}
use Rattle.rank_machine.specs.CodeLaw.{slot_at}
use Rattle.script_run.proofs.Placed.{one-added}
use Rattle.script_run.proofs.printing.add_group.Goals as goal

pub loop-i-preserved : goal.loop-i-preserved
loop-i-preserved c =
    one-added c.loop-i.i c.members-i-end.result c.loop-i.slots.items _ (λ i. (member c.args.layout.grid All i, slot_at Data c.args.line c.args.group)) c.push.new.self.items c.loop-i-test.true
    (c.in_ok-push.ensures.items ∙ ap (λ rank. c.loop-i.slots.items ++ (rank, slot_at Data c.args.line c.args.group) ∷ []) c.member.ensures.value) c.loop-i.invariant
