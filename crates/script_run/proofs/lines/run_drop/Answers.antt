use Rattle.std.proofs.Common.{◌+◌, arith, add-one, sym, ap, subst, ◌∙◌}
use Rattle.std.specs.Prelude.{IfOk}
use Rattle.run_data.specs.declared.command.Command.TheVariants.{Discard}
use Rattle.run_data.specs.Script.{commands_of, command_at}
use Rattle.rank_machine.specs.State.{end_mark}
use Rattle.plain_phases.specs.Ending.{end_progress}
use Rattle.world_heal.specs.Outcomes.{IfDrove}
use Rattle.whole_run.specs.Between.{HasRun}
use Rattle.whole_run.specs.Inside.{IsStopped}
use Rattle.script_run.specs.Driving.{DropsName}
use Rattle.script_run.proofs.Commands.{line-few}
use Rattle.script_run.proofs.DropLine.{dropped-name, drop-whole, drop-ran}
use Rattle.script_run.proofs.lines.run_drop.Goals as goal

pub overflow_add-done : goal.overflow_add-done
overflow_add-done g c =
    let there = dropped-name (command_at (commands_of c.args.script.now) (c.args.done + 1)) c.requires.line in
    omega (arith, line-few c.args.script.now (c.args.done + 1) (Discard there.0) c.requires.runnable.accepted.lines there.1)

pub drive_line-requires-clause-line : goal.drive_line-requires-clause-line
drive_line-requires-clause-line g c =
    drop-whole c.args.script.now c.args.world.now.files c.args.done c.args.world.now c.args.out.now c.requires.runnable c.requires.before
    (subst (λ k. DropsName (command_at (commands_of c.args.script.now) k)) (add-one c.args.done) c.requires.line)
    c.new-phase.result.mark (c.new-phase.ensures.mark ∙ (c.end_of.ensures ∙ ap end_mark (add-one c.args.done)))

pub returns-clause-ran : goal.returns-clause-ran
returns-clause-ran g c =
    let script = c.args.script.now in
    let files = c.args.world.now.files in
    subst (λ k. IfOk c.drive_line.result (IfDrove (HasRun script files k c.drive_line.new.world c.args.out.now) (IsStopped script files c.args.done c.drive_line.new.world c.args.out.now))) (sym (add-one c.args.done))
    (drop-ran script files c.args.done c.args.world.now c.args.out.now c.requires.runnable c.requires.before
    (subst (λ k. DropsName (command_at (commands_of script) k)) (add-one c.args.done) c.requires.line)
    c.new-phase.result.mark (c.new-phase.ensures.mark ∙ (c.end_of.ensures ∙ ap end_mark (add-one c.args.done)))
    (end_progress c.drive_line.new.phase.calls) c.drive_line.new.world c.drive_line.result c.drive_line.ensures.driven)
