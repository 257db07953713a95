use Rattle.std.proofs.Common.{◌≡◌, map, subst, sym}
use Rattle.std.proofs.lemmas.Result.{IfOk-weaker}
use Rattle.script_lines.specs.Layouts.{jobs_of}
use Rattle.script_lines.specs.Lines.{with_drop, IsTableOf, AreLaidOut, AreRising, AreSound}
use Rattle.script_lines.proofs.Tables.{table-with_drop, sound-with_drop}
use Rattle.script_lines.proofs.lines.lines_of.Goals as goal

pub returns-clause-table : goal.returns-clause-table
returns-clause-table c =
    let t = c.deref.result.now in
    let is : IsTableOf (jobs_of c.args.script.now) t = subst (IsTableOf (jobs_of c.args.script.now)) (sym c.deref.ensures.value) c.in_ok-table.ensures.table in
    IfOk-weaker c.with_drops.result (λ v. v.items ≡ map (with_drop t) t) (λ v. IsTableOf (jobs_of c.args.script.now) v.items)
    (λ v e. subst (IsTableOf (jobs_of c.args.script.now)) (sym e) (table-with_drop c.args.script.now t is)) c.with_drops.ensures

pub returns-clause-sound : goal.returns-clause-sound
returns-clause-sound c =
    let t = c.deref.result.now in
    let laid_out : AreLaidOut t = subst AreLaidOut (sym c.deref.ensures.value) c.in_ok-table.ensures.laid_out in
    let rising : AreRising t = subst AreRising (sym c.deref.ensures.value) c.in_ok-table.ensures.rising in
    IfOk-weaker c.with_drops.result (λ v. v.items ≡ map (with_drop t) t) (λ v. AreSound v.items)
    (λ v e. subst AreSound (sym e) (sound-with_drop t laid_out rising)) c.with_drops.ensures
