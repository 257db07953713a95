-- Counts of the records that a loop has come past.
use Rattle.std.proofs.Common.{◌≡◌, ℕ, ◌+◌, ◌<◌, ◌≤◌, Bool, true, false, List, length, take, get_or, count_by, cond, ap, arith}
use Rattle.std.proofs.lemmas.List.Sums.{sum_by_more}
use Rattle.rank_machine.specs.declared.record.Rec.{Rec}

-- the count of the first i records, which is at most i
pub record IsCount (p : Rec → Bool) (n i : ℕ) (xs : List Rec) : Type 0 where
  pub value : n ≡ count_by p (take i xs)
  pub bound : n ≤ i

one_at_most : (b : Bool) → cond b 1 0 ≤ 1
one_at_most true = omega arith
one_at_most false = omega arith

-- one record more
pub counts_on : (p : Rec → Bool) (n i m : ℕ) (xs : List Rec) (d : Rec) (b : Bool) → IsCount p n i xs → i < length xs → b ≡ p (get_or xs i d) → m ≡ n + cond b 1 0 → IsCount p m (i + 1) xs
counts_on p n i m xs d b before inside is more = record {
  value = omega (arith, before.value, sum_by_more (λ x. cond (p x) 1 0) xs i d inside, ap {B = ℕ} (λ v. cond v 1 0) is);
  bound = omega (arith, before.bound, one_at_most b);
}
