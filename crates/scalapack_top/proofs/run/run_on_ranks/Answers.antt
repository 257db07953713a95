use Rattle.std.proofs.Common.{Result, Ok, Err}
use Rattle.std.specs.Prelude.{IfOk}
use Rattle.scalapack_top.proofs.Runnable.{can_run, ends-by}
use Rattle.scalapack_top.proofs.run.run_on_ranks.Goals as goal

pub run-requires-clause-runnable : goal.run-requires-clause-runnable
run-requires-clause-runnable g c = can_run c.args.script.now c.args.files.now c.requires.prepared

both_ok : {T E : Type 0} (r : Result T E) (P Q R : T → Type 0) → IfOk r P → IfOk r Q → ((x : T) → P x → Q x → R x) → IfOk r R
both_ok (Ok x) P Q R p q f = f x p q
both_ok (Err e) P Q R p q f = tt

pub returns : goal.returns
returns g c = both_ok c.run.result _ _ _ c.run.ensures.run c.run.ensures.complete (λ x run complete. ends-by c.args.script.now c.args.files.now x.ending x.out.items x.journal.items run complete)
