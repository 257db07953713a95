use Rattle.std.proofs.Common.{◌≡◌, suc, ◌+◌, ◌<◌, ◌≤◌, ℕ, List, length, drop, subst, sym, ap, ◌∙◌, arith}
use Rattle.field_core.specs.Residue.{inverse}
use Rattle.run_data.specs.Script.{Numbered, commands_of, commands_from}
use Rattle.rank_machine.specs.Scripts.{file_of}
use Rattle.serial_model.specs.Serial.{Values, texts_under, no_values}
use Rattle.serial_machine.specs.Values.{values_of}
use Rattle.serial_machine.specs.Ready.{AreReady}
use Rattle.run_data.proofs.Lines.{left-some, left-none}
use Rattle.serial_machine.proofs.Running.{InRun, run-first, run-after, run-over, none-left}
use Rattle.serial_machine.proofs.Whole.{some_modulus}
use Rattle.serial_machine.proofs.run.serial.Goals as goal
use Rattle.serial_machine.proofs.run.serial.Goals.{in-Some+in_ok-run_line, in_default}

pub loop-i-init : goal.loop-i-init
loop-i-init g c =
    let p = g.K.Field.MODULUS in
    let all = texts_under p (inverse p) (commands_of c.args.script.now) (file_of c.args.files.now) (commands_of c.args.script.now) no_values in
    subst (λ ls. InRun p (inverse p) (commands_of c.args.script.now) c.args.files.now all (commands_from 1 ls) (values_of c.new-values.result.entries.items) c.new-out.result.items) (sym c.as_slice-lines.ensures)
    (run-first p (inverse p) (commands_of c.args.script.now) c.args.files.now (commands_of c.args.script.now) (values_of c.new-values.result.entries.items) c.new-out.result.items c.new-values.ensures c.new-out.ensures.items
    (subst (λ q. AreReady q (inverse q) c.args.files.now (commands_of c.args.script.now) no_values) (sym c.requires.modulus) c.requires.can_run.ready))

pub run_line-requires-clause-whole : goal.run_line-requires-clause-whole
run_line-requires-clause-whole g c = c.loop-i.invariant.whole

pub run_line-requires-clause-ready : goal.run_line-requires-clause-ready
run_line-requires-clause-ready g c =
    let p = g.K.Field.MODULUS in
    let ls = c.as_slice-lines.result.now in
    let lt : c.loop-i.i < length ls = subst (λ xs. c.loop-i.i < length xs) (sym c.as_slice-lines.ensures) (subst (λ k. c.loop-i.i < k) c.lines-i-end.ensures c.loop-i-test.true) in
    (subst (λ (ns : List Numbered). AreReady p (inverse p) c.args.files.now ns (values_of c.loop-i.values.entries.items))
    (left-some ls c.loop-i.i c.index-lines-i.result c.in-Some.command lt (sym c.index-lines-i.is ∙ c.in-Some.is)) c.loop-i.invariant.ready).0

pub loop-i-preserved : goal.loop-i-preserved
loop-i-preserved g c =
    let p = g.K.Field.MODULUS in
    let all = texts_under p (inverse p) (commands_of c.args.script.now) (file_of c.args.files.now) (commands_of c.args.script.now) no_values in
    let ls = c.as_slice-lines.result.now in
    let lt : c.loop-i.i < length ls = subst (λ xs. c.loop-i.i < length xs) (sym c.as_slice-lines.ensures) (subst (λ k. c.loop-i.i < k) c.lines-i-end.ensures c.loop-i-test.true) in
    let left = commands_from (suc (c.loop-i.i + 1)) (drop (c.loop-i.i + 1) ls) in
    elim c.match-lines-i.branch [
      | in-Some+in_ok-run_line w ↦
          let next : Numbered = record { line = c.loop-i.i + 1; command = w.in-Some.command } in
          let way = subst (λ (ns : List Numbered). InRun p (inverse p) (commands_of c.args.script.now) c.args.files.now all ns (values_of c.loop-i.values.entries.items) c.loop-i.out.items)
          (left-some ls c.loop-i.i c.index-lines-i.result w.in-Some.command lt (sym c.index-lines-i.is ∙ w.in-Some.is)) c.loop-i.invariant in
          run-after p (inverse p) (commands_of c.args.script.now) c.args.files.now all next left (values_of c.loop-i.values.entries.items) c.loop-i.out.items (values_of c.match-lines-i.values.entries.items) c.match-lines-i.out.items
          (some_modulus p g.met.K.Field.at_least) way (ap (λ v. values_of v.entries.items) w.values-is ∙ w.in_ok-run_line.ensures.changed) (ap (λ v. v.items) w.out-is ∙ w.in_ok-run_line.ensures.text)
      | in_default w ↦
          let both : ◌≡◌ {A = Values × List ℕ} (values_of c.match-lines-i.values.entries.items, c.match-lines-i.out.items) (values_of c.loop-i.values.entries.items, c.loop-i.out.items) =
          λ i. (values_of (w.values-is i).entries.items, (w.out-is i).items) in
          subst (λ (s : Values × List ℕ). InRun p (inverse p) (commands_of c.args.script.now) c.args.files.now all left s.0 s.1) (sym both)
          (subst (λ (ns : List Numbered). InRun p (inverse p) (commands_of c.args.script.now) c.args.files.now all ns (values_of c.loop-i.values.entries.items) c.loop-i.out.items)
          (left-none ls c.loop-i.i c.index-lines-i.result lt (sym c.index-lines-i.is ∙ w.in_default.is)) c.loop-i.invariant)
    ]

pub returns : goal.returns
returns g c =
    let p = g.K.Field.MODULUS in
    let ls = c.as_slice-lines.result.now in
    let past : length ls ≤ c.loop-i.i = omega (arith, c.lines-i-end.ensures, ap length c.as_slice-lines.ensures) in
    run-over p (inverse p) (commands_of c.args.script.now) c.args.files.now (texts_under p (inverse p) (commands_of c.args.script.now) (file_of c.args.files.now) (commands_of c.args.script.now) no_values) (values_of c.loop-i.values.entries.items) c.loop-i.out.items
    (subst (λ (ns : List Numbered). InRun p (inverse p) (commands_of c.args.script.now) c.args.files.now (texts_under p (inverse p) (commands_of c.args.script.now) (file_of c.args.files.now) (commands_of c.args.script.now) no_values) ns (values_of c.loop-i.values.entries.items) c.loop-i.out.items)
    (none-left ls c.loop-i.i past) c.loop-i.invariant)
    ∙ ap (λ q. texts_under q (inverse q) (commands_of c.args.script.now) (file_of c.args.files.now) (commands_of c.args.script.now) no_values) c.requires.modulus
