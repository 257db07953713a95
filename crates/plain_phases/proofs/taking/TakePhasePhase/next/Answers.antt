use Rattle.std.proofs.Common.{◌≡◌}
use Rattle.plain_phases.specs.Taking.{take_task}
use Rattle.plain_phases.proofs.TakeSteps.{take_goes_on}
use Rattle.plain_phases.proofs.taking.TakePhasePhase.next.Goals as goal

pub returns-clause-goes_on : goal.returns-clause-goes_on
returns-clause-goes_on g c s base now start stands taken =
    let slots : c.keep.new.self.slots.items ≡ c.args.self.now.slots.items = c.in_ok-keep.ensures.slots in
    let calls : c.keep.new.self.calls ≡ c.args.self.now.calls = c.in_ok-keep.ensures.calls in
    let mark : c.keep.new.self.mark ≡ c.args.self.now.mark = c.in_ok-keep.ensures.mark in
    rw (c.answer-next.ensures, slots, calls, mark)
    (take_goes_on {K = g.row.K.Denot} (take_task c.args.self.now.slots.items c.args.self.now.mark) c.args.self.now.calls c.args.self.now.got.items c.keep.new.self.got.items s base now c.args.taken c.requires start stands taken c.in_ok-keep.ensures.got)
