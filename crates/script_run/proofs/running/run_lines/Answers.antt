use Rattle.std.proofs.Common.{◌≡◌, ◌+◌, ◌<◌, ◌≤◌, length, get_or, sym, ap, subst, ◌∙◌}
use Rattle.script_run.proofs.LineByLine.{here, same-upto, after-line, empty-line, cut-line, all-lines}
use Rattle.script_run.proofs.running.run_lines.Goals as goal
use Rattle.script_run.proofs.running.run_lines.Goals.{in-Some+in_ok-cut+in-Done, in_default}

pub run_line-requires-clause-line : goal.run_line-requires-clause-line
run_line-requires-clause-line g c =
    let script = c.args.script.now in
    here script c.loop-i.i c.index-lines-i.result (subst (λ k. c.loop-i.i < k) c.lines-i-end.ensures c.loop-i-test.true)
    (subst (λ xs. c.index-lines-i.result ≡ get_or xs c.loop-i.i c.index-lines-i.result) c.as_slice-lines.ensures c.index-lines-i.is)
    ∙ c.in-Some.is

pub returns-in_default-2 : goal.returns-in_default-2
returns-in_default-2 g c = record { ran = cut-line c.args.script.now c.args.files.now c.loop-i.i c.run_line.new.world c.run_line.new.out.items c.in_ok-cut.cut c.in_default-2.not-Done c.in_ok-cut.ensures.ran }

pub loop-i-preserved : goal.loop-i-preserved
loop-i-preserved g c =
    let script = c.args.script.now in
    let files = c.args.files.now in
    let lt : c.loop-i.i < length script = subst (λ k. c.loop-i.i < k) c.lines-i-end.ensures c.loop-i-test.true in
    elim c.match-lines-i.branch [
      | in-Some+in_ok-cut+in-Done w ↦
          same-upto script files (c.loop-i.i + 1) c.match-lines-i.world w.run_line.new.world c.match-lines-i.site w.run_line.new.site c.match-lines-i.out.items w.run_line.new.out.items w.world-is w.site-is (ap (λ v. v.items) w.out-is)
          (after-line script files c.loop-i.i w.run_line.new.world w.run_line.new.site w.run_line.new.out.items w.in_ok-cut.cut w.in-Done.is lt w.in_ok-cut.ensures.ran w.in_ok-cut.ensures.site_is)
      | in_default w ↦
          same-upto script files (c.loop-i.i + 1) c.match-lines-i.world c.loop-i.world c.match-lines-i.site c.loop-i.site c.match-lines-i.out.items c.loop-i.out.items w.world-is w.site-is (ap (λ v. v.items) w.out-is)
          (empty-line script files c.loop-i.i c.loop-i.world c.loop-i.site c.loop-i.out.items lt
          (here script c.loop-i.i c.index-lines-i.result lt (subst (λ xs. c.index-lines-i.result ≡ get_or xs c.loop-i.i c.index-lines-i.result) c.as_slice-lines.ensures c.index-lines-i.is) ∙ w.in_default.is) c.loop-i.invariant)
    ]

pub returns : goal.returns
returns g c = record {
  ran = all-lines c.args.script.now c.args.files.now c.loop-i.i c.loop-i.world c.loop-i.site c.loop-i.out.items c.loop-i.invariant (subst (λ k. k ≤ c.loop-i.i) c.lines-i-end.ensures c.loop-i-test.false);
}
