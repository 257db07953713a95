use Rattle.std.proofs.Common.{◌≡◌, Some, length, ap, ◌∙◌, arith}
use Rattle.run_data.specs.Script.{commands_of}
use Rattle.script_bounds.specs.Bounds.{greatest, live_recovery}
use Rattle.script_bounds.proofs.Living.{line_said, live_started, live_some, live_none}
use Rattle.script_bounds.proofs.Summing.{greatest_end}
use Rattle.script_bounds.proofs.recovery.greatest_recovery.Goals as goal
use Rattle.script_bounds.proofs.recovery.greatest_recovery.Goals.{in-Some, in_default}

pub loop-i-init : goal.loop-i-init
loop-i-init c = live_started c.args.script.now c.as_slice-lines.result.now c.as_slice-lines.ensures

pub recovery_made-live-requires-clause-there : goal.recovery_made-live-requires-clause-there
recovery_made-live-requires-clause-there c =
    line_said c.args.script.now c.as_slice-lines.result.now c.loop-i.i c.index-lines-i.result c.as_slice-lines.ensures c.loop-i-test.true c.index-lines-i.is ∙ ap (λ x. Some x) c.in-Some.is

pub recovery_dropped-requires-clause-there : goal.recovery_dropped-requires-clause-there
recovery_dropped-requires-clause-there c =
    line_said c.args.script.now c.as_slice-lines.result.now c.loop-i.i c.index-lines-i.result c.as_slice-lines.ensures c.loop-i-test.true c.index-lines-i.is ∙ ap (λ x. Some x) c.in-Some.is

pub loop-i-preserved : goal.loop-i-preserved
loop-i-preserved c =
    let script = c.args.script.now in
    let lines = c.as_slice-lines.result.now in
    elim c.match-lines-i.branch [
      | in-Some w ↦ live_some script lines c.loop-i.i c.loop-i.live c.loop-i.greatest c.match-lines-i.live c.match-lines-i.greatest w.recovery_made-live.result w.recovery_dropped.result c.index-lines-i.result w.in-Some.command
          c.requires c.as_slice-lines.ensures c.loop-i-test.true c.index-lines-i.is w.in-Some.is w.recovery_made-live.ensures.value w.recovery_made-live.ensures.few w.recovery_dropped.ensures.value
          (omega (arith, w.greatest-is, w.max-greatest.ensures)) (omega (arith, w.live-is, w.saturating_sub-live.ensures)) c.loop-i.invariant
      | in_default w ↦ live_none script lines c.loop-i.i c.loop-i.live c.loop-i.greatest c.match-lines-i.live c.match-lines-i.greatest c.index-lines-i.result c.as_slice-lines.ensures c.loop-i-test.true c.index-lines-i.is
          w.in_default.is w.greatest-is w.live-is c.loop-i.invariant
    ]

pub returns-clause-value : goal.returns-clause-value
returns-clause-value c =
    let cs = commands_of c.args.script.now in
    let all : c.loop-i.i ≡ length c.as_slice-lines.result.now = omega (arith, c.loop-i-test.false, c.loop-i.auto.i-end) in
    greatest_end (λ n. live_recovery cs n.line) c.as_slice-lines.result.now 68719476735 c.loop-i.i c.loop-i.greatest (greatest (λ n. live_recovery cs n.line) cs) all c.loop-i.invariant.most

pub returns-clause-few : goal.returns-clause-few
returns-clause-few c = omega (arith, c.loop-i.invariant.most.few)
