use Rattle.std.proofs.Common.{map, sym, ap, ◌∙◌, arith}
use Rattle.std.specs.Prelude.{unwrap_or}
use Rattle.rank_machine.specs.Setting.{layout}
use Rattle.dist_matrix.specs.Site.{setting_in}
use Rattle.plain_phases.specs.Taking.{take_task, took_from, take_progress}
use Rattle.script_run.proofs.Prints.{print-low, print-text, printed-matrix, print-line, print-strips, print-run}
use Rattle.script_run.proofs.lines.run_print.Goals as goal

pub overflow_add-done : goal.overflow_add-done
overflow_add-done g c = omega (arith, print-low c.args.script.now c.args.world.now.files c.args.done c.args.name.now c.requires.runnable c.requires.line)

pub overflow_add-done-2 : goal.overflow_add-done-2
overflow_add-done-2 g c = omega (arith, print-low c.args.script.now c.args.world.now.files c.args.done c.args.name.now c.requires.runnable c.requires.line)

pub add_text-requires : goal.add_text-requires
add_text-requires g c = print-text c.args.script.now c.args.world.now.files c.args.done c.args.name.now c.requires.runnable c.requires.line

pub drive_line-requires-clause-line : goal.drive_line-requires-clause-line
drive_line-requires-clause-line g c =
    print-line c.args.script.now c.args.world.now.files c.args.done c.args.name.now c.requires.runnable c.requires.line c.args.world.now c.args.out.now.items c.requires.before
    c.unwrap_or-what.result (c.unwrap_or-what.ensures ∙ ap (λ o. unwrap_or o 0) c.operand.ensures)
    c.layout-layout.result c.layout-layout.ensures.laid_out (c.layout-layout.ensures.value ∙ ap (λ v. layout (setting_in v) c.unwrap_or-what.result) c.requires.site_is)
    (take_task c.new-phase.result.slots.items c.new-phase.result.mark) (λ i. take_task ((c.new-phase.ensures.slots ∙ c.in_ok-slots.ensures) i) ((c.new-phase.ensures.mark ∙ c.end_of.ensures) i))

pub whole_of-requires-clause-strips : goal.whole_of-requires-clause-strips
whole_of-requires-clause-strips g c = (
  printed-matrix c.args.script.now c.args.world.now.files c.args.done c.args.name.now c.requires.runnable c.requires.line c.args.world.now c.args.out.now.items c.requires.before,
  print-strips c.args.script.now c.args.world.now.files c.args.done c.args.name.now c.requires.runnable c.requires.line c.args.world.now c.args.out.now.items c.requires.before
      c.unwrap_or-what.result (c.unwrap_or-what.ensures ∙ ap (λ o. unwrap_or o 0) c.operand.ensures)
      c.layout-layout.result c.layout-layout.ensures.laid_out (c.layout-layout.ensures.value ∙ ap (λ v. layout (setting_in v) c.unwrap_or-what.result) c.requires.site_is)
      (take_task c.new-phase.result.slots.items c.new-phase.result.mark) (λ i. take_task ((c.new-phase.ensures.slots ∙ c.in_ok-slots.ensures) i) ((c.new-phase.ensures.mark ∙ c.end_of.ensures) i))
      (take_task c.drive_line.new.phase.slots.items c.drive_line.new.phase.mark) c.in_ok-cut.ensures.same_task
      (take_progress c.drive_line.new.phase.slots.items c.drive_line.new.phase.mark c.drive_line.new.phase.calls c.drive_line.new.phase.got.items) c.drive_line.new.world c.deref.result.now
      c.in_ok-cut.cut c.in-Done.is c.in_ok-cut.ensures.driven c.got.result.now (ap (map (took_from c.drive_line.new.phase.mark.line)) (sym c.got.ensures)),
)

pub returns-clause-ran : goal.returns-clause-ran
returns-clause-ran g c =
    print-run c.args.script.now c.args.world.now.files c.args.done c.args.name.now c.requires.runnable c.requires.line c.args.world.now c.args.out.now.items c.requires.before
    c.unwrap_or-what.result (c.unwrap_or-what.ensures ∙ ap (λ o. unwrap_or o 0) c.operand.ensures)
    c.layout-layout.result c.layout-layout.ensures.laid_out (c.layout-layout.ensures.value ∙ ap (λ v. layout (setting_in v) c.unwrap_or-what.result) c.requires.site_is)
    (take_task c.new-phase.result.slots.items c.new-phase.result.mark) (λ i. take_task ((c.new-phase.ensures.slots ∙ c.in_ok-slots.ensures) i) ((c.new-phase.ensures.mark ∙ c.end_of.ensures) i))
    (take_task c.drive_line.new.phase.slots.items c.drive_line.new.phase.mark) c.in_ok-cut.ensures.same_task
    (take_progress c.drive_line.new.phase.slots.items c.drive_line.new.phase.mark c.drive_line.new.phase.calls c.drive_line.new.phase.got.items) c.drive_line.new.world c.deref.result.now
    c.in_ok-cut.cut c.in-Done.is c.in_ok-cut.ensures.driven c.got.result.now (ap (map (took_from c.drive_line.new.phase.mark.line)) (sym c.got.ensures))
    c.in_ok-whole.whole c.in_ok-whole.ensures c.add_text.new.out.items c.in_ok-add_text.ensures
