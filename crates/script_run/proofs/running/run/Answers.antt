use Rattle.std.proofs.Common.{ap, sym, ◌∙◌}
use Rattle.run_data.specs.Script.{commands_of}
use Rattle.rank_machine.specs.JournalText.{journal_text}
use Rattle.script_bounds.specs.Bounds.{bound}
use Rattle.whole_run.specs.Inside.{ending_at}
use Rattle.whole_run.proofs.Completing.{completes}
use Rattle.script_run.proofs.LineByLine.{first-line, run-of}
use Rattle.script_run.proofs.running.run.Goals as goal

pub run_lines-requires-clause-before : goal.run_lines-requires-clause-before
run_lines-requires-clause-before g c =
    first-line c.args.script.now c.args.files.now (bound (commands_of c.args.script.now)) c.in_ok-world.world c.new-out.result.items c.in_ok-world.ensures c.new-out.ensures.items

pub returns-clause-run : goal.returns-clause-run
returns-clause-run g c =
    run-of c.args.script.now c.args.files.now c.run_lines.new.world c.run_lines.new.out.items c.in_ok-journal.journal.items c.in_ok-ending.ending c.in_ok-ending.ensures.ran
    (record { legal = c.journal.ensures.legal; in_place = c.journal.ensures.in_place }) (c.in_ok-journal.ensures ∙ ap journal_text c.journal.ensures.value)

pub returns-clause-complete : goal.returns-clause-complete
returns-clause-complete g c =
    completes c.args.script.now c.args.files.now (ending_at c.in_ok-ending.ending) c.run_lines.new.out.items c.in_ok-journal.journal.items
    (run-of c.args.script.now c.args.files.now c.run_lines.new.world c.run_lines.new.out.items c.in_ok-journal.journal.items c.in_ok-ending.ending c.in_ok-ending.ensures.ran
    (record { legal = c.journal.ensures.legal; in_place = c.journal.ensures.in_place }) (c.in_ok-journal.ensures ∙ ap journal_text c.journal.ensures.value))
