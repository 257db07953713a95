use Rattle.std.proofs.Common.{◌+◌}
use Rattle.script_bounds.proofs.Limits.{run_kept}
use Rattle.script_run.proofs.Commands.{none-other, told-passed}
use Rattle.script_run.proofs.lines.run_line.Goals as goal

pub unreachable-requires : goal.unreachable-requires
unreachable-requires g c =
    let d = c.in_default in
    none-other c.args.command.now (run_kept c.args.script.now (c.args.done + 1) c.args.command.now c.requires.runnable.runs c.requires.line) d.not-Grid d.not-Matrix d.not-Print d.not-Discard d.not-Topology d.not-Links d.not-Order d.not-Lose d.not-Spares d.not-Field

pub returns-in-Grid-clause-ran : goal.returns-in-Grid-clause-ran
returns-in-Grid-clause-ran g c = told-passed c.args.script.now c.args.files.now c.args.done c.args.world.now c.args.out.now.items c.args.command.now c.requires.before c.requires.line c.in-Grid.is

pub returns-in-Grid-2-clause-ran : goal.returns-in-Grid-2-clause-ran
returns-in-Grid-2-clause-ran g c = told-passed c.args.script.now c.args.files.now c.args.done c.args.world.now c.args.out.now.items c.args.command.now c.requires.before c.requires.line c.in-Grid.is

pub returns-in-Grid-3-clause-ran : goal.returns-in-Grid-3-clause-ran
returns-in-Grid-3-clause-ran g c = told-passed c.args.script.now c.args.files.now c.args.done c.args.world.now c.args.out.now.items c.args.command.now c.requires.before c.requires.line c.in-Grid.is

pub returns-in-Grid-4-clause-ran : goal.returns-in-Grid-4-clause-ran
returns-in-Grid-4-clause-ran g c = told-passed c.args.script.now c.args.files.now c.args.done c.args.world.now c.args.out.now.items c.args.command.now c.requires.before c.requires.line c.in-Grid.is

pub returns-in-Grid-5-clause-ran : goal.returns-in-Grid-5-clause-ran
returns-in-Grid-5-clause-ran g c = told-passed c.args.script.now c.args.files.now c.args.done c.args.world.now c.args.out.now.items c.args.command.now c.requires.before c.requires.line c.in-Grid.is

pub returns-in-Grid-6-clause-ran : goal.returns-in-Grid-6-clause-ran
returns-in-Grid-6-clause-ran g c = told-passed c.args.script.now c.args.files.now c.args.done c.args.world.now c.args.out.now.items c.args.command.now c.requires.before c.requires.line c.in-Grid.is

pub returns-in-Grid-7-clause-ran : goal.returns-in-Grid-7-clause-ran
returns-in-Grid-7-clause-ran g c = told-passed c.args.script.now c.args.files.now c.args.done c.args.world.now c.args.out.now.items c.args.command.now c.requires.before c.requires.line c.in-Grid.is
