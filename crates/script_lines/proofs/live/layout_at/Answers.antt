use Rattle.std.proofs.Common.{◌≡◌, Option, Some, map, ap, subst, sym, ◌∙◌}
use Rattle.std.specs.Prelude.{IfSome}
use Rattle.rank_machine.specs.declared.layout.Layout.{Layout}
use Rattle.rank_machine.specs.Setting as machine
use Rattle.script_lines.specs.Layouts.{IsLayout}
use Rattle.script_lines.specs.Lines.{job_seen}
use Rattle.script_lines.proofs.TableLaws.{makes_sound}
use Rattle.script_lines.proofs.live.layout_at.Goals as goal

pub returns-in-Some-clause-sound : goal.returns-in-Some-clause-sound
returns-in-Some-clause-sound c =
    let is : machine.job_in (map job_seen c.args.table.now) c.args.line ≡ job_seen c.find.result = sym c.find.ensures.job in
    let made : (machine.job_in (map job_seen c.args.table.now) c.args.line).makes ≡ Some c.in-Some.layout = ap (λ (j : machine.Job). j.makes) is ∙ c.in-Some.is in
    subst (λ (o : Option Layout). IfSome o IsLayout) made (makes_sound c.args.table.now c.args.line c.requires.sound)
