use Rattle.std.proofs.Common.{◌≡◌, ◌+◌, ◌<◌, ◌≤◌, suc, true, false, List, [], ◌∷◌, ◌++◌, length, map, drop, Option, Some, subst, sym, ap, ◌∙◌, All}
use Rattle.run_data.specs.declared.command.Command.{Command}
use Rattle.run_data.specs.Script.{Numbered, commands_of, commands_from, command_at, makes_records}
use Rattle.rank_machine.specs.Scripts.{grids_from, job_of}
use Rattle.script_lines.specs.declared.lines.Line.{Line}
use Rattle.script_lines.specs.Lines.{job_seen, of_slots, AreLaidOut, AreRising}
use Rattle.run_data.proofs.Lines.{left-some, left-none}
use Rattle.script_lines.proofs.Left.{there}
use Rattle.script_lines.proofs.Tables.{asked, asked-push, asked-pass, laid_out-push, rising-push, before-push, before-more}
use Rattle.script_lines.proofs.lines.asked_of.Goals as goal
use Rattle.script_lines.proofs.lines.asked_of.Goals.{in-Some+then-makes_records+in_ok-push, in-Some+else-makes_records, in_default}

pub line_of-requires-clause-there : goal.line_of-requires-clause-there
line_of-requires-clause-there c =
    let ls = c.as_slice-lines.result.now in
    let lt : c.loop-i.i < length ls = subst (λ xs. c.loop-i.i < length xs) (sym c.as_slice-lines.ensures) (subst (λ k. c.loop-i.i < k) c.lines-i-end.ensures c.loop-i-test.true) in
    subst (λ (xs : List (Option Command)). command_at (commands_of xs) (c.loop-i.i + 1) ≡ Some c.in-Some.command) c.as_slice-lines.ensures
    (there ls c.loop-i.i c.index-lines-i.result lt c.index-lines-i.is ∙ c.in-Some.is)

pub loop-i-preserved : goal.loop-i-preserved
loop-i-preserved c =
    let ls = c.as_slice-lines.result.now in
    let lt : c.loop-i.i < length ls = subst (λ xs. c.loop-i.i < length xs) (sym c.as_slice-lines.ensures) (subst (λ k. c.loop-i.i < k) c.lines-i-end.ensures c.loop-i-test.true) in
    let left = commands_from (suc (c.loop-i.i + 1)) (drop (c.loop-i.i + 1) ls) in
    let now = c.loop-i.table.items in
    let before = c.loop-i.invariant.before in
    elim c.match-lines-i.branch [
      | in-Some+then-makes_records+in_ok-push w ↦
          let next : Numbered = record { line = c.loop-i.i + 1; command = w.in-Some.command } in
          let x = w.line_of.result in
          let items : c.match-lines-i.table.items ≡ now ++ x ∷ [] = ap (λ v. v.items) w.table-is ∙ w.in_ok-push.ensures.items in
          let makes : makes_records next.command ≡ true = sym w.makes_records.ensures ∙ w.if-makes_records.true in
          let job : job_seen x ≡ of_slots (job_of (commands_of ls) (grids_from 0 (commands_of ls)) next.line next.command) =
          subst (λ (xs : List (Option Command)). job_seen x ≡ of_slots (job_of (commands_of xs) (grids_from 0 (commands_of xs)) next.line next.command)) (sym c.as_slice-lines.ensures) w.line_of.ensures.job in
          record {
            table =
                ap (λ t. map job_seen t ++ asked ls left) items
                ∙ asked-push ls next left now x makes job
                ∙ ap (λ ns. map job_seen now ++ asked ls ns) (sym (left-some ls c.loop-i.i c.index-lines-i.result w.in-Some.command lt (sym c.index-lines-i.is ∙ w.in-Some.is)))
                ∙ c.loop-i.invariant.table;
            laid_out = subst AreLaidOut (sym items) (laid_out-push now x c.loop-i.invariant.laid_out w.line_of.ensures.sound);
            rising = subst AreRising (sym items) (rising-push now x c.loop-i.i c.loop-i.invariant.rising before w.line_of.ensures.line);
            before = subst (λ (l : List Line). All (λ (y : Line). y.line ≤ c.loop-i.i + 1) l) (sym items) (before-push now x c.loop-i.i before w.line_of.ensures.line);
          }
      | in-Some+else-makes_records w ↦
          let next : Numbered = record { line = c.loop-i.i + 1; command = w.in-Some.command } in
          let items : c.match-lines-i.table.items ≡ now = ap (λ v. v.items) w.table-is in
          let makes : makes_records next.command ≡ false = sym w.makes_records.ensures ∙ w.if-makes_records.false in
          record {
            table =
                ap (λ t. map job_seen t ++ asked ls left) items
                ∙ ap (λ js. map job_seen now ++ js) (sym (asked-pass ls next left makes))
                ∙ ap (λ ns. map job_seen now ++ asked ls ns) (sym (left-some ls c.loop-i.i c.index-lines-i.result w.in-Some.command lt (sym c.index-lines-i.is ∙ w.in-Some.is)))
                ∙ c.loop-i.invariant.table;
            laid_out = subst AreLaidOut (sym items) c.loop-i.invariant.laid_out;
            rising = subst AreRising (sym items) c.loop-i.invariant.rising;
            before = subst (λ (l : List Line). All (λ (y : Line). y.line ≤ c.loop-i.i + 1) l) (sym items) (before-more now c.loop-i.i before);
          }
      | in_default w ↦
          let items : c.match-lines-i.table.items ≡ now = ap (λ v. v.items) w.table-is in
          record {
            table =
                ap (λ t. map job_seen t ++ asked ls left) items
                ∙ ap (λ ns. map job_seen now ++ asked ls ns) (sym (left-none ls c.loop-i.i c.index-lines-i.result lt (sym c.index-lines-i.is ∙ w.in_default.is)))
                ∙ c.loop-i.invariant.table;
            laid_out = subst AreLaidOut (sym items) c.loop-i.invariant.laid_out;
            rising = subst AreRising (sym items) c.loop-i.invariant.rising;
            before = subst (λ (l : List Line). All (λ (y : Line). y.line ≤ c.loop-i.i + 1) l) (sym items) (before-more now c.loop-i.i before);
          }
    ]
