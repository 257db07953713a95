use Rattle.std.proofs.Common.{◌≡◌, ◌+◌, suc, arith, add-one, sym, ap, subst, ◌∙◌}
use Rattle.std.specs.Prelude.{IfOk}
use Rattle.std.specs.Option.{option_copied}
use Rattle.run_data.specs.Script.{commands_of, command_at}
use Rattle.rank_machine.specs.Scripts.{file_of}
use Rattle.dist_matrix.specs.Site.{SiteView}
use Rattle.feed_laws.specs.Feeding.{feed_progress}
use Rattle.world_heal.specs.Outcomes.{IfDrove}
use Rattle.whole_run.specs.Between.{HasRun}
use Rattle.whole_run.specs.Inside.{IsStopped}
use Rattle.script_run.specs.Driving.{MakesMatrix}
use Rattle.script_run.proofs.MatrixLine.{matrix-few, file-is, file-there, file-shaped, told-is, matrix-whole, matrix-ran}
use Rattle.script_run.proofs.lines.run_matrix.Goals as goal

pub overflow_add-done : goal.overflow_add-done
overflow_add-done g c = omega (arith, matrix-few c.args.script.now c.args.files.now (c.args.done + 1) c.requires.runnable c.requires.line)

pub unreachable-requires : goal.unreachable-requires
unreachable-requires g c = file-there c.args.script.now c.args.files.now (c.args.done + 1) c.requires.runnable c.requires.line (ap option_copied (sym c.in_default.is) ∙ c.get.ensures)

pub overflow_add-done-2 : goal.overflow_add-done-2
overflow_add-done-2 g c = omega (arith, matrix-few c.args.script.now c.args.files.now (c.args.done + 1) c.requires.runnable c.requires.line)

pub new-phase-requires : goal.new-phase-requires
new-phase-requires g c =
    let is : c.in-Some.file.now ≡ file_of c.args.files.now (c.args.done + 1) =
    file-is c.args.script.now c.args.files.now (c.args.done + 1) c.requires.runnable c.requires.line c.in-Some.file.now (ap option_copied (sym c.in-Some.is) ∙ c.get.ensures) in
    record {
      whole = file-shaped c.args.script.now c.args.files.now (c.args.done + 1) c.requires.runnable c.requires.line c.args.site.now c.in-Some.file.now (ap (λ (v : SiteView). v.script) c.requires.site_is ∙ c.requires.before.script_is) is;
    }

pub drive_line-requires-clause-line : goal.drive_line-requires-clause-line
drive_line-requires-clause-line g c =
    let script = c.args.script.now in
    let files = c.args.files.now in
    let w = c.args.world.now in
    let makes : MakesMatrix (command_at (commands_of script) (suc c.args.done)) = subst (λ k. MakesMatrix (command_at (commands_of script) k)) (add-one c.args.done) c.requires.line in
    let is : c.in-Some.file.now ≡ file_of files (c.args.done + 1) = file-is script files (c.args.done + 1) c.requires.runnable c.requires.line c.in-Some.file.now (ap option_copied (sym c.in-Some.is) ∙ c.get.ensures) in
    matrix-whole script files c.args.done w c.args.out.now c.requires.runnable makes c.requires.before c.new-phase.result
    (told-is script files c.args.done w c.args.out.now c.requires.runnable makes c.requires.before c.new-phase.result c.args.site.now c.in-Some.file.now (c.args.done + 1) c.new-phase.ensures c.requires.site_is is (add-one c.args.done)) g.K.Field.MODULUS c.requires.field

pub returns-clause-ran : goal.returns-clause-ran
returns-clause-ran g c =
    let script = c.args.script.now in
    let files = c.args.files.now in
    let w = c.args.world.now in
    let makes : MakesMatrix (command_at (commands_of script) (suc c.args.done)) = subst (λ k. MakesMatrix (command_at (commands_of script) k)) (add-one c.args.done) c.requires.line in
    let is : c.in-Some.file.now ≡ file_of files (c.args.done + 1) = file-is script files (c.args.done + 1) c.requires.runnable c.requires.line c.in-Some.file.now (ap option_copied (sym c.in-Some.is) ∙ c.get.ensures) in
    subst (λ k. IfOk c.drive_line.result (IfDrove (HasRun script files k c.drive_line.new.world c.args.out.now) (IsStopped script files c.args.done c.drive_line.new.world c.args.out.now))) (sym (add-one c.args.done))
    (matrix-ran script files c.args.done w c.args.out.now c.requires.runnable makes c.requires.before c.new-phase.result
    (told-is script files c.args.done w c.args.out.now c.requires.runnable makes c.requires.before c.new-phase.result c.args.site.now c.in-Some.file.now (c.args.done + 1) c.new-phase.ensures c.requires.site_is is (add-one c.args.done)) g.K.Field.MODULUS c.requires.field
    (feed_progress c.drive_line.new.phase.layout c.drive_line.new.phase.calls) c.drive_line.new.world c.drive_line.result c.drive_line.ensures.driven)
