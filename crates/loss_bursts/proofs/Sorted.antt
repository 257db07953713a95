-- The losses that a journal tells are the first ones of the script's, sorted.
use Rattle.std.proofs.Common.{◌≡◌, ◌+◌, ◌<◌, ◌≤◌, ◌==◌, ℕ, zero, suc, Bool, true, false, List, [], ◌∷◌, ◌++◌, refl, sym, ap, subst, ◌∙◌, ⊎_elim, arith, All}
use Rattle.std.specs.Prelude.{if◌then◌else◌, nat_le}
use Rattle.std.specs.List.{filter}
use Rattle.std.proofs.lemmas.List.{append-nil, append_assoc}
use Rattle.std.proofs.lemmas.List.Elements.{All-head, All-tail, All-nil, All-cons}
use Rattle.std.proofs.lemmas.Bool.{cases_Bool, true≢false, eqb-true, false_from_ne_true}
use Rattle.std.proofs.lemmas.Bool.Decides.{nat_tests}
use Rattle.rank_machine.specs.declared.record.Rec.{Rec}
use Rattle.rank_machine.specs.declared.record.Rec.TheVariants as r
use Rattle.rank_machine.specs.declared.record.Loss.{Loss}
use Rattle.rank_machine.specs.Losses.{falls, is_numbered, with_falls}
use Rattle.loss_bursts.specs.Bursts.{put_in, in_time}

-- the losses of one record, those of no earlier one, and those of all earlier ones
abbrev pub those_at : List Loss → ℕ → List Loss
those_at [] n = []
those_at (l ∷ ls) n = if l.at == n then l ∷ those_at ls n else those_at ls n

abbrev pub those_from : ℕ → List Loss → List Loss
those_from n [] = []
those_from n (l ∷ ls) = if nat_le n l.at then l ∷ those_from n ls else those_from n ls

abbrev pub upto : List Loss → ℕ → List Loss
upto ls zero = []
upto ls (suc n) = upto ls n ++ those_at ls n

abbrev AreFrom : ℕ → List Loss → Type 0
AreFrom n [] = Unit {0}
AreFrom n (l ∷ ls) = (n ≤ l.at) × AreFrom n ls

put_from : (n : ℕ) (l : Loss) (ms : List Loss) → n ≤ l.at → AreFrom n ms → AreFrom n (put_in l ms)
put_from n l [] le h = (le, tt)
put_from n l (m ∷ ms) le h =
    ⊎_elim
    (λ (e : nat_le l.at m.at ≡ true). rw e (le, h))
    (λ (e : nat_le l.at m.at ≡ false). rw e (h.0, put_from n l ms le h.1))
    (cases_Bool (nat_le l.at m.at))

le_from : (a b : ℕ) → nat_le a b ≡ true → a ≤ b
le_from a b e = grind (arith, nat_tests)

le_not : (a b : ℕ) → nat_le a b ≡ false → b < a
le_not a b e = grind (arith, nat_tests)

le_is : (a b : ℕ) → a ≤ b → nat_le a b ≡ true
le_is a b h = grind (arith, nat_tests)

le_is_not : (a b : ℕ) → b < a → nat_le a b ≡ false
le_is_not a b h = grind (arith, nat_tests)

eq_is_not : (a b : ℕ) → (a ≡ b → ⊥) → (a == b) ≡ false
eq_is_not a b h = false_from_ne_true (a == b) (λ e. h (eqb-true a b e))

sorted_from : (n : ℕ) (ls : List Loss) → AreFrom n (in_time (those_from n ls))
sorted_from n [] = tt
sorted_from n (l ∷ ls) =
    ⊎_elim
    (λ (e : nat_le n l.at ≡ true). rw e (put_from n l (in_time (those_from n ls)) (le_from n l.at e) (sorted_from n ls)))
    (λ (e : nat_le n l.at ≡ false). rw e (sorted_from n ls))
    (cases_Bool (nat_le n l.at))

put_low : (l : Loss) (ms : List Loss) → AreFrom l.at ms → put_in l ms ≡ l ∷ ms
put_low l [] h = refl
put_low l (m ∷ ms) h = rw (le_is l.at m.at h.0) refl

put_high : (n : ℕ) (l : Loss) (ls ys : List Loss) → n < l.at → put_in l (those_at ls n ++ ys) ≡ those_at ls n ++ put_in l ys
put_high n l [] ys lt = refl
put_high n l (m ∷ ms) ys lt =
    ⊎_elim
    (λ (e : (m.at == n) ≡ true).
    let at : m.at ≡ n = eqb-true m.at n e in
    let high : nat_le l.at m.at ≡ false = le_is_not l.at m.at (omega (arith, lt, at)) in
    rw (e, high) (ap (λ zs. m ∷ zs) (put_high n l ms ys lt)))
    (λ (e : (m.at == n) ≡ false). rw e (put_high n l ms ys lt))
    (cases_Bool (m.at == n))

sorted_step : (n : ℕ) (ls : List Loss) → in_time (those_from n ls) ≡ those_at ls n ++ in_time (those_from (suc n) ls)
sorted_step n [] = refl
sorted_step n (l ∷ ls) =
    ⊎_elim
    (λ (e : (l.at == n) ≡ true).
    let at : l.at ≡ n = eqb-true l.at n e in
    let here : nat_le n l.at ≡ true = le_is n l.at (omega (arith, at)) in
    let later : nat_le (suc n) l.at ≡ false = le_is_not (suc n) l.at (omega (arith, at)) in
    rw (e, here, later) (put_low l (in_time (those_from n ls)) (subst (λ k. AreFrom k (in_time (those_from n ls))) (sym at) (sorted_from n ls)) ∙ ap (λ zs. l ∷ zs) (sorted_step n ls)))
    (λ (e : (l.at == n) ≡ false). ⊎_elim
    (λ (h : nat_le n l.at ≡ true).
    let more : n < l.at = above n l.at e h in
    let later : nat_le (suc n) l.at ≡ true = le_is (suc n) l.at (omega (arith, more)) in
    rw (e, h, later) (ap (put_in l) (sorted_step n ls) ∙ put_high n l ls (in_time (those_from (suc n) ls)) more))
    (λ (h : nat_le n l.at ≡ false).
    let later : nat_le (suc n) l.at ≡ false = le_is_not (suc n) l.at (omega (arith, le_not n l.at h)) in
    rw (e, h, later) (sorted_step n ls))
    (cases_Bool (nat_le n l.at)))
    (cases_Bool (l.at == n))
  where
    above : (n m : ℕ) → (m == n) ≡ false → nat_le n m ≡ true → n < m
    above n m e h = grind (arith, nat_tests)

from_none : (ls : List Loss) → those_from 0 ls ≡ ls
from_none [] = refl
from_none (l ∷ ls) = rw (le_is 0 l.at (omega arith)) (ap (λ zs. l ∷ zs) (from_none ls))

-- sorted, they begin with those of the first n records
pub sorted-upto : (ls : List Loss) (n : ℕ) → in_time ls ≡ upto ls n ++ in_time (those_from n ls)
sorted-upto ls zero = ap in_time (sym (from_none ls))
sorted-upto ls (suc n) = sorted-upto ls n ∙ (ap (λ zs. upto ls n ++ zs) (sorted_step n ls) ∙ sym (append_assoc (upto ls n) (those_at ls n) (in_time (those_from (suc n) ls))))

-- ---- what a journal tells, from the record of a number on
abbrev pub losses_told : ℕ → List Rec → List Loss
losses_told n [] = []
losses_told n (r.Lose rank ∷ xs) = record { at = n; rank = rank } ∷ losses_told n xs
losses_told n (r.Feed a b ∷ xs) = losses_told (n + 1) xs
losses_told n (r.Kernel a b ∷ xs) = losses_told (n + 1) xs
losses_told n (r.Send a b c ∷ xs) = losses_told (n + 1) xs
losses_told n (r.Recv a b c ∷ xs) = losses_told (n + 1) xs
losses_told n (r.Save a b ∷ xs) = losses_told (n + 1) xs
losses_told n (r.Take a b ∷ xs) = losses_told (n + 1) xs
losses_told n (r.Restore ∷ xs) = losses_told (n + 1) xs
losses_told n (r.Spawn a ∷ xs) = losses_told (n + 1) xs
losses_told n (r.Commit a b ∷ xs) = losses_told (n + 1) xs

told_numbered : (n : ℕ) (x : Rec) (xs : List Rec) → is_numbered x ≡ true → losses_told n (x ∷ xs) ≡ losses_told (n + 1) xs
told_numbered n (r.Lose a) xs e = absurd (true≢false (sym e))
told_numbered n (r.Feed a b) xs e = refl
told_numbered n (r.Kernel a b) xs e = refl
told_numbered n (r.Send a b c) xs e = refl
told_numbered n (r.Recv a b c) xs e = refl
told_numbered n (r.Save a b) xs e = refl
told_numbered n (r.Take a b) xs e = refl
told_numbered n r.Restore xs e = refl
told_numbered n (r.Spawn a) xs e = refl
told_numbered n (r.Commit a b) xs e = refl

told_falls : (n : ℕ) (ls : List Loss) (xs : List Rec) → losses_told n (falls ls n ++ xs) ≡ those_at ls n ++ losses_told n xs
told_falls n [] xs = refl
told_falls n (l ∷ ls) xs =
    ⊎_elim
    (λ (e : (l.at == n) ≡ true). rw e (same l n (eqb-true l.at n e) (told_falls n ls xs)))
    (λ (e : (l.at == n) ≡ false). rw e (told_falls n ls xs))
    (cases_Bool (l.at == n))
  where
    same : {a b : List Loss} (l : Loss) (n : ℕ) → l.at ≡ n → a ≡ b → ((record { at = n; rank = l.rank }) ∷ a) ≡ (l ∷ b)
    same {a} {b} l n e h = ap (λ k. (record { at = k; rank = l.rank }) ∷ a) (sym e) ∙ ap (λ zs. l ∷ zs) h

told_due : (ls : List Loss) (cut : Bool) (n : ℕ) (xs : List Rec) → All (λ x. is_numbered x ≡ true) xs → (end : ℕ) × (upto ls n ++ losses_told n (with_falls ls cut n xs) ≡ upto ls end)
told_due ls true n [] h = (suc n, ap (λ zs. upto ls n ++ zs) (ap (losses_told n) (sym (append-nil (falls ls n))) ∙ (told_falls n ls [] ∙ append-nil (those_at ls n))))
told_due ls false n [] h = (n, append-nil (upto ls n))
told_due ls cut n (x ∷ xs) h =
    let rest : List Rec = with_falls ls cut (n + 1) xs in
    let next : (end : ℕ) × (upto ls (n + 1) ++ losses_told (n + 1) rest ≡ upto ls end) = told_due ls cut (n + 1) xs (All-tail (λ (x : Rec). is_numbered x ≡ true) x xs h) in
    let one : losses_told n (falls ls n ++ x ∷ rest) ≡ those_at ls n ++ losses_told (n + 1) rest = told_falls n ls (x ∷ rest) ∙ ap (λ zs. those_at ls n ++ zs) (told_numbered n x rest (All-head (λ (x : Rec). is_numbered x ≡ true) x xs h)) in
    let more : n + 1 ≡ suc n = omega arith in
    (next.0, ap (λ zs. upto ls n ++ zs) one ∙ (sym (append_assoc (upto ls n) (those_at ls n) (losses_told (n + 1) rest)) ∙ (ap (λ k. upto ls k ++ losses_told (n + 1) rest) (sym more) ∙ next.1)))

all_numbered : (xs : List Rec) → All (λ x. is_numbered x ≡ true) (filter is_numbered xs)
all_numbered [] = All-nil (λ (x : Rec). is_numbered x ≡ true)
all_numbered (x ∷ xs) =
    ⊎_elim
    (λ (e : is_numbered x ≡ true). rw e (All-cons (λ (x : Rec). is_numbered x ≡ true) x (filter is_numbered xs) e (all_numbered xs)))
    (λ (e : is_numbered x ≡ false). rw e (all_numbered xs))
    (cases_Bool (is_numbered x))

-- the losses that have fallen are the first ones of the sorted ones
pub losses_told-sorted : (ls : List Loss) (cut : Bool) (journal : List Rec) → journal ≡ with_falls ls cut 0 (filter is_numbered journal) → (later : List Loss) × (in_time ls ≡ losses_told 0 journal ++ later)
losses_told-sorted ls cut journal due =
    let fell : (end : ℕ) × (losses_told 0 (with_falls ls cut 0 (filter is_numbered journal)) ≡ upto ls end) = told_due ls cut 0 (filter is_numbered journal) (all_numbered journal) in
    let all : losses_told 0 journal ≡ upto ls fell.0 = ap (losses_told 0) due ∙ fell.1 in
    (in_time (those_from fell.0 ls), sorted-upto ls fell.0 ∙ ap (λ zs. zs ++ in_time (those_from fell.0 ls)) (sym all))
