-- Tables of rules: one after another, and one table after another.
use Rattle.std.proofs.Common.{◌≡◌, ℕ, zero, suc, ◌+◌, ◌<◌, Bool, true, false, List, [], ◌∷◌, ◌++◌, length, drop, get_or, Option, Some, None, refl, sym, ap, ◌∙◌, arith}
use Rattle.std.specs.Prelude.{ℤ}
use Rattle.std.specs.Option.{option_or}
use Rattle.script_words.specs.Tables.{first_code}

-- the rules of two tables
pub first_code-append : (xs ys : List (ℤ × Bool)) → first_code (xs ++ ys) ≡ option_or (first_code xs) (first_code ys)
first_code-append [] ys = refl
first_code-append (x ∷ xs) ys = by_test x.1 (first_code-append xs ys)
  where
    by_test : (kept : Bool) → first_code (xs ++ ys) ≡ option_or (first_code xs) (first_code ys) → first_code ((x.0, kept) ∷ xs ++ ys) ≡ option_or (first_code ((x.0, kept) ∷ xs)) (first_code ys)
    by_test true e = e
    by_test false e = refl

-- a rule of the first table is broken, and none is
pub first_code-first : (xs ys : List (ℤ × Bool)) (a : Option ℤ) (code : ℤ) → a ≡ first_code xs → a ≡ Some code → a ≡ first_code (xs ++ ys)
first_code-first xs ys a code e s = s ∙ sym (first_code-append xs ys ∙ ap (λ o. option_or o (first_code ys)) (sym e ∙ s))

pub first_code-second : (xs ys : List (ℤ × Bool)) (a b : Option ℤ) → a ≡ first_code xs → a ≡ None → b ≡ first_code ys → b ≡ first_code (xs ++ ys)
first_code-second xs ys a b e n f = f ∙ sym (first_code-append xs ys ∙ ap (λ o. option_or o (first_code ys)) (sym e ∙ n))

-- the rules from one on, where it is kept and where it is not
pub first_code-kept : (rules : List (ℤ × Bool)) (i : ℕ) (d : ℤ × Bool) → i < length rules → (get_or rules i d).1 ≡ true → first_code (drop i rules) ≡ first_code (drop (i + 1) rules)
first_code-kept [] i d lt e = absurd (omega arith)
first_code-kept (rule ∷ rules) zero d lt e = by_test rule.0 rule.1 e
  where
    by_test : (code : ℤ) (kept : Bool) → kept ≡ true → first_code ((code, kept) ∷ rules) ≡ first_code rules
    by_test code true e = refl
    by_test code false e = absurd cc
first_code-kept (rule ∷ rules) (suc i) d lt e = first_code-kept rules i d (omega arith) e ∙ ap (λ n. first_code (drop n (rule ∷ rules))) (let k : suc (i + 1) ≡ suc i + 1 = omega arith in k)

pub first_code-broken : (rules : List (ℤ × Bool)) (i : ℕ) (d : ℤ × Bool) → i < length rules → (get_or rules i d).1 ≡ false → first_code (drop i rules) ≡ Some (get_or rules i d).0
first_code-broken [] i d lt e = absurd (omega arith)
first_code-broken (rule ∷ rules) zero d lt e = by_test rule.0 rule.1 e
  where
    by_test : (code : ℤ) (kept : Bool) → kept ≡ false → first_code ((code, kept) ∷ rules) ≡ Some code
    by_test code true e = absurd cc
    by_test code false e = refl
first_code-broken (rule ∷ rules) (suc i) d lt e = first_code-broken rules i d (omega arith) e

-- ---- the first of two codes

pub or_none : {X : Type 0} (a b : Option X) → option_or a b ≡ None → (a ≡ None) × (b ≡ None)
or_none None b e = (refl, e)
or_none (Some x) b e = absurd cc

pub none_or : {X : Type 0} (a b : Option X) → a ≡ None → b ≡ None → option_or a b ≡ None
none_or None b e f = f
none_or (Some x) b e f = absurd cc

pub first_none : (code : ℤ) (kept : Bool) (more : List (ℤ × Bool)) → first_code ((code, kept) ∷ more) ≡ None → (kept ≡ true) × (first_code more ≡ None)
first_none code true more e = (refl, e)
first_none code false more e = absurd cc

-- each of these rules is kept
abbrev pub AllKept : List (ℤ × Bool) → Type 0
AllKept [] = Unit {0}
AllKept (rule ∷ rules) = (rule.1 ≡ true) × AllKept rules

pub all_kept : (rules : List (ℤ × Bool)) → first_code rules ≡ None → AllKept rules
all_kept [] e = tt
all_kept (rule ∷ rules) e = let h = first_none rule.0 rule.1 rules e in (h.0, all_kept rules h.1)
