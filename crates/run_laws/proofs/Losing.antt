-- What falls, and what is still to fall.
use Rattle.std.proofs.Common.{◌≡◌, ◌+◌, ◌*◌, ◌≤◌, ◌<◌, ◌==◌, ◌&&◌, ◌||◌, ℕ, suc, Bool, true, false, not, nat_lt, List, [], ◌∷◌, ◌++◌, length, refl, sym, ap, subst, ◌∙◌, ⊎_elim, arith, All}
use Rattle.std.specs.Prelude.{if◌then◌else◌}
use Rattle.rank_machine.specs.declared.record.Rec.{Rec}
use Rattle.rank_machine.specs.declared.record.Rec.TheVariants as r
use Rattle.rank_machine.specs.declared.record.Loss.{Loss}
use Rattle.rank_machine.specs.Setting.{Setting}
use Rattle.rank_machine.specs.Losses.{is_numbered, falls}
use Rattle.run_laws.specs.Due.{numbered, ends_in, has_fallen, is_ahead, ahead_of, ahead, some_at, is_due_in}
use Rattle.run_laws.specs.LastCommit.{is_commit, is_inner}
use Rattle.run_laws.proofs.Journals.{numbered-append}
use Rattle.std.proofs.lemmas.Bool.Decides.{eqb_tells}
use Rattle.std.proofs.lemmas.Bool.{cases_Bool, lt-ltb, ltb-true, ltb-false, eqb-true, eq-eqb, and_parts, and_from, or_left, or_right, false_from_ne_true, true≢false}

pub ends_in-append : (last : Bool) (xs ys : List Rec) → ends_in last (xs ++ ys) ≡ ends_in (ends_in last xs) ys
ends_in-append last [] ys = refl
ends_in-append last (x ∷ xs) ys = ends_in-append (not (is_numbered x)) xs ys

pub falls-numbered : (ls : List Loss) (n : ℕ) → numbered (falls ls n) ≡ 0
falls-numbered [] n = refl
falls-numbered (l ∷ ls) n = ⊎_elim (λ (e : (l.at == n) ≡ true). rw e (falls-numbered ls n)) (λ (e : (l.at == n) ≡ false). rw e (falls-numbered ls n)) (cases_Bool (l.at == n))

pub falls-end : (ls : List Loss) (n : ℕ) (last : Bool) → ends_in last (falls ls n) ≡ (last || some_at ls n)
falls-end [] n true = refl
falls-end [] n false = refl
falls-end (l ∷ ls) n last =
    ⊎_elim
    (λ (e : (l.at == n) ≡ true). rw e (falls-end ls n true ∙ sym (or_true last)))
    (λ (e : (l.at == n) ≡ false). rw e (falls-end ls n last))
    (cases_Bool (l.at == n))
  where
    or_true : (b : Bool) → (b || true) ≡ true
    or_true true = refl
    or_true false = refl

-- a longer journal has no more losses ahead
ahead_before : (n n' : ℕ) (fell fell' : Bool) (at : ℕ) → n ≤ n' → (n ≡ n' → fell ≡ true → fell' ≡ true) → (nat_lt n' at || ((at == n') && not fell')) ≡ true → (nat_lt n at || ((at == n) && not fell)) ≡ true
ahead_before n n' fell fell' at le same e =
    ⊎_elim
    (λ (h : nat_lt n' at ≡ true). or_left (nat_lt n at) ((at == n) && not fell) (lt-ltb n at (omega (arith, le, ltb-true n' at h))))
    (λ (h : nat_lt n' at ≡ false).
    let p = and_parts (at == n') (not fell') (sym (ap (λ b. b || ((at == n') && not fell')) h) ∙ e) in
    let q : at ≡ n' = eqb-true at n' p.0 in
    ⊎_elim
    (λ (g : nat_lt n at ≡ true). or_left (nat_lt n at) ((at == n) && not fell) g)
    (λ (g : nat_lt n at ≡ false).
    let m : n ≡ n' = omega (arith, le, q, ltb-false n at g) in
    or_right (nat_lt n at) ((at == n) && not fell) (and_from (at == n) (not fell) (eq-eqb at n (q ∙ sym m)) (open_before fell fell' p.1 (same m))))
    (cases_Bool (nat_lt n at)))
    (cases_Bool (nat_lt n' at))
  where
    open_before : (a b : Bool) → not b ≡ true → (a ≡ true → b ≡ true) → not a ≡ true
    open_before false b h g = refl
    open_before true true h g = h
    open_before true false h g = absurd (true≢false (sym (g refl)))

one_or_none : (a b : Bool) → (a ≡ true → b ≡ true) → (if a then 1 else 0) ≤ (if b then 1 else 0)
one_or_none true b h = rw (h refl) (omega arith)
one_or_none false b h = omega arith

fewer_one : (n n' : ℕ) (fell fell' : Bool) (l : Loss) → n ≤ n' → (n ≡ n' → fell ≡ true → fell' ≡ true) → (if is_ahead n' fell' l then 1 else 0) ≤ (if is_ahead n fell l then 1 else 0)
fewer_one n n' fell fell' l le same = one_or_none (is_ahead n' fell' l) (is_ahead n fell l) (ahead_before n n' fell fell' l.at le same)

-- where they fall, there are fewer
pub ahead-longer : (ls : List Loss) (n n' : ℕ) (fell fell' : Bool) → n ≤ n' → (n ≡ n' → fell ≡ true → fell' ≡ true) → ahead_of ls n' fell' ≤ ahead_of ls n fell
ahead-longer [] n n' fell fell' le same = omega arith
ahead-longer (l ∷ ls) n n' fell fell' le same = omega (arith, fewer_one n n' fell fell' l le same, ahead-longer ls n n' fell fell' le same)

fell_one : (n : ℕ) (l : Loss) → (l.at == n) ≡ true → ((if is_ahead n true l then 1 else 0) + 1) ≤ (if is_ahead n false l then 1 else 0)
fell_one n l e =
    let at : l.at ≡ n = eqb-true l.at n e in
    let past : nat_lt n l.at ≡ false = false_from_ne_true (nat_lt n l.at) (λ h. omega (arith, at, ltb-true n l.at h)) in
    rw (past, e) (omega arith)

pub ahead-fallen : (ls : List Loss) (n : ℕ) → some_at ls n ≡ true → ahead_of ls n true < ahead_of ls n false
ahead-fallen [] n e = absurd (cc)
ahead-fallen (l ∷ ls) n e =
    ⊎_elim
    (λ (h : (l.at == n) ≡ true). omega (arith, fell_one n l h, ahead-longer ls n n false true (omega arith) (λ x y. refl)))
    (λ (h : (l.at == n) ≡ false). omega (arith, fewer_one n n false true l (omega arith) (λ x y. refl), ahead-fallen ls n (sym (ap (λ b. b || some_at ls n) h) ∙ e)))
    (cases_Bool (l.at == n))

-- where nothing numbered is added, losses that have fallen still stand at the end
none_numbered : (xs : List Rec) → numbered xs ≡ 0 → ends_in true xs ≡ true
none_numbered [] e = refl
none_numbered (x ∷ xs) e =
    ⊎_elim
    (λ (h : is_numbered x ≡ true). absurd (omega (arith, numbered_one x xs h, e)))
    (λ (h : is_numbered x ≡ false). rw h (none_numbered xs (sym (numbered_none x xs h) ∙ e)))
    (cases_Bool (is_numbered x))
  where
    numbered_one : (x : Rec) (xs : List Rec) → is_numbered x ≡ true → numbered (x ∷ xs) ≡ numbered xs + 1
    numbered_one x xs h = rw h (omega arith)

    numbered_none : (x : Rec) (xs : List Rec) → is_numbered x ≡ false → numbered (x ∷ xs) ≡ numbered xs
    numbered_none x xs h = rw h refl

-- a longer journal has no more losses ahead
pub ahead-later : (s : Setting) (journal added : List Rec) → ahead s (journal ++ added) ≤ ahead s journal
ahead-later s journal added =
    ahead-longer s.losses (numbered journal) (numbered (journal ++ added)) (has_fallen journal) (has_fallen (journal ++ added)) (omega (arith, numbered-append journal added))
    (λ e h. ends_in-append false journal added ∙ (ap (λ b. ends_in b added) h ∙ none_numbered added (omega (arith, e, numbered-append journal added))))
