-- What a put does to a sink in memory, and that this is a put of a sink that tells its bytes.
use Rattle.std.proofs.Common.{◌≡◌, ℕ, ◌-◌, Bool, true, false, not, cond, eqb, List, [], ◌∷◌, ◌++◌, length, take, refl, ap, ◌∙◌, arith}
use Rattle.std.specs.Prelude.{is_some, ◌||◌, nat_lt, Option, Some, None, find, map}
use Rattle.std.specs.Option.{option_map}
use Rattle.io_edge.specs.declared.plan.PlannedPut.{PlannedPut}
use Rattle.io_edge.specs.Causes.{counted, is_planned}
use Rattle.io_edge.specs.Sink.{put_fails, Put}
use Rattle.io_edge.specs.MemSink.{SinkState, kept_of, planned_keep, count_kept, after_put}

-- a put is planned to fail exactly where the plan says what it keeps
pub is_some-planned_keep : (plan : List PlannedPut) (call : ℕ) → is_some (planned_keep plan call) ≡ is_planned (map (λ p. p.call) plan) call
is_some-planned_keep [] call = refl
is_some-planned_keep (p ∷ ps) call = by_test (eqb p.call call) (is_some-planned_keep ps call)
  where
    by_test : (b : Bool) → is_some (planned_keep ps call) ≡ is_planned (map (λ p. p.call) ps) call →
        is_some (option_map (λ (p : PlannedPut). p.keep) (cond b (Some p) (find (λ p. eqb p.call call) ps))) ≡ (b || is_planned (map (λ p. p.call) ps) call)
    by_test true e = refl
    by_test false e = e

-- where no put is planned and the bytes fit, all of them are kept
count_kept-fits : (keep : Option ℕ) (left len : ℕ) → (is_some keep || nat_lt left len) ≡ false → count_kept keep left len ≡ len
count_kept-fits None left len h = grind arith
count_kept-fits (Some k) left len h = absurd cc

-- the opposite of a test that holds does not
false_from_not : (b : Bool) → not b ≡ true → b ≡ false
false_from_not true h = absurd cc
false_from_not false h = refl

-- what a put does is a put of a sink that tells, which goes well exactly where it is not to fail
after_put-told : (s : SinkState) (bytes : List ℕ) → Put bytes (not (put_fails (kept_of s) bytes)) (kept_of s) (kept_of (after_put s bytes))
after_put-told s bytes =
    let keep = planned_keep s.plan s.calls in
    let planned = ap (λ b. b || nat_lt s.left (length bytes)) (is_some-planned_keep s.plan s.calls) in
    record {
      count = count_kept keep s.left (length bytes);
      appends = record { bytes_are = refl; enough = grind arith; left_is = grind arith; calls_is = refl; planned_is = refl };
      whole = λ ok. count_kept-fits keep s.left (length bytes) (planned ∙ false_from_not _ ok);
      fails = λ e. ap not e;
      goes = λ e. ap not e;
    }

-- the same for a sink and an answer that are known by equations
pub is_put : (s new : SinkState) (bytes : List ℕ) (fails : Bool) → new ≡ after_put s bytes → fails ≡ put_fails (kept_of s) bytes → Put bytes (not fails) (kept_of s) (kept_of new)
is_put s new bytes fails made answer = rw (made, answer) (after_put-told s bytes)

-- a sink with these fields is the one after the put
pub after_put-made : (s new : SinkState) (bytes : List ℕ) (count : ℕ) (fails : Bool) → count ≡ count_kept (planned_keep s.plan s.calls) s.left (length bytes) → fails ≡ put_fails (kept_of s) bytes →
    new.bytes ≡ s.bytes ++ take count bytes → new.left ≡ s.left - count → new.calls ≡ counted s.calls → new.plan ≡ s.plan → new.faults ≡ cond fails (counted s.faults) s.faults →
    new ≡ after_put s bytes
after_put-made s new bytes count fails count_is fails_is bytes_are left_is calls_is plan_is faults_are = λ i. record {
  bytes = (bytes_are ∙ ap (λ n. s.bytes ++ take n bytes) count_is) i;
  left = (left_is ∙ ap (λ n. s.left - n) count_is) i;
  calls = calls_is i;
  plan = plan_is i;
  faults = (faults_are ∙ ap (λ b. cond b (counted s.faults) s.faults) fails_is) i;
}
