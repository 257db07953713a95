use Rattle.std.proofs.Common.{◌≢◌, ◌<◌, nat_lt, length, get_or, sym, ap, ◌∙◌, rules, arith}
use Rattle.std.proofs.lemmas.List.Sorted.{IsPartitionPoint-from_clause}
use Rattle.script_lines.specs.declared.lines.Line.{Line}
use Rattle.script_lines.specs.Lines.{job_seen, no_line}
use Rattle.script_lines.proofs.Lookups.{EndsAt, line_in-job, found_at, missing_at, parted}
use Rattle.script_lines.proofs.live.find.Goals as goal
use Rattle.script_lines.proofs.live.find.Goals.{else-at-table-via-then-at-table+else-table-at, else-at-table-via-else-at-table}

pub returns-then-table-at-clause-line : goal.returns-then-table-at-clause-line
returns-then-table-at-clause-line c = sym (found_at c.args.table.now c.args.line c.partition_point-at.result _ c.requires.sound.rising c.if-at-table.true c.if-table-at.true)

pub returns-then-table-at-clause-job : goal.returns-then-table-at-clause-job
returns-then-table-at-clause-job c = ap job_seen (returns-then-table-at-clause-line c) ∙ line_in-job c.args.table.now c.args.line

pub returns-clause-line : goal.returns-clause-line
returns-clause-line c =
    let xs = c.args.table.now in
    let at = c.partition_point-at.result in
    let ends : EndsAt xs c.args.line at =
    IsPartitionPoint-from_clause (λ (y : Line). nat_lt y.line c.args.line) _ _ c.partition_point-at.ensures.partitioned (parted xs c.args.line c.requires.sound.rising) (λ a r q k. search rules) in
    let other : at < length xs → (get_or xs at (no_line 0)).line ≢ c.args.line = λ lt.
    elim c.else-at-table.branch [
      | else-at-table-via-then-at-table+else-table-at w ↦ w.if-table-at.false
      | else-at-table-via-else-at-table w ↦ absurd (omega (arith, lt, w.if-at-table.false))
    ] in
    sym (missing_at xs c.args.line at (no_line 0) c.requires.sound.rising ends other)

pub returns-clause-job : goal.returns-clause-job
returns-clause-job c = ap job_seen (returns-clause-line c) ∙ line_in-job c.args.table.now c.args.line
