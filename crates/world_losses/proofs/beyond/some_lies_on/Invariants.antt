use Rattle.std.proofs.Common.{◌≡◌, map, drop}
use Rattle.rank_machine.specs.Setting.{some_job}
use Rattle.script_lines.specs.Lines.{job_seen, setting_on}
use Rattle.world_losses.specs.Judged.{lies_on}
use Rattle.world_losses.proofs.beyond.some_lies_on.Given as goal

abbrev pub invariant-loop-i : goal.invariant-loop-i
invariant-loop-i l =
    some_job (map job_seen l.table) (λ j. lies_on (setting_on 0 l.table) l.mark j l.number) ≡ some_job (map job_seen (drop l.i l.table)) (λ j. lies_on (setting_on 0 l.table) l.mark j l.number)
