use Rattle.line_phases.specs.Printing.{group_slots}
use Rattle.script_run.proofs.Placed.{list-added}
use Rattle.script_run.proofs.printing.slots_of.Goals as goal

pub loop-group-preserved : goal.loop-group-preserved
loop-group-preserved c =
    list-added c.loop-group.group c.groups-group-end.result c.loop-group.slots.items _ (group_slots c.args.line c.args.layout) c.add_group.new.slots.items c.loop-group-test.true
    c.in_ok-add_group.ensures c.loop-group.invariant
