-- How losses fall in a journal that grows, and which fall next.
use Rattle.std.proofs.Common.{◌≡◌, ◌≢◌, ◌+◌, ◌<◌, ◌≤◌, ◌==◌, ◌&&◌, ◌||◌, ◌++◌, ◌⊎◌, ℕ, suc, Bool, true, false, not, cond, nat_le, nat_lt, Option, Some, None, List, [], ◌∷◌, length, drop, get_or, add-one, drop-cons, refl, sym, ap, subst, ◌∙◌, ⊎_elim, inl, inr, arith}
use Rattle.std.specs.Prelude.{if◌then◌else◌}
use Rattle.std.specs.List.{filter}
use Rattle.std.proofs.lemmas.Bool.{cases_Bool, cases_lt, true≢false, and_parts, or_parts, or_from, or_left, or_right, eqb-true, eq-eqb, ne_eqb, leb-true, le-leb, lt-leb, ltb-true, ltb-false}
use Rattle.std.proofs.lemmas.Bool.Decides.{eqb_tells, leb_tells}
use Rattle.std.proofs.lemmas.List.{length-append, drop_all}
use Rattle.std.proofs.lemmas.List.Elements.{filter-append}
use Rattle.rank_machine.specs.declared.record.Rec.{Rec}
use Rattle.rank_machine.specs.declared.record.Rec.TheVariants as r
use Rattle.rank_machine.specs.declared.record.Loss.{Loss}
use Rattle.rank_machine.specs.Losses.{falls, is_numbered}
use Rattle.run_laws.specs.Due.{numbered, some_at, ends_in, has_fallen, is_due_in}
use Rattle.block_world.specs.Kept.{next_from, left_from, comes_first, IsLeastAt, IsNextAt}

-- ---- the end of a journal
ends-append : (b : Bool) (xs ys : List Rec) → ends_in b (xs ++ ys) ≡ ends_in (ends_in b xs) ys
ends-append b [] ys = refl
ends-append b (x ∷ xs) ys = ends-append (not (is_numbered x)) xs ys

pub fallen-push : (js : List Rec) (r : Rec) → is_numbered r ≡ true → has_fallen (js ++ r ∷ []) ≡ false
fallen-push js r e = ends-append false js (r ∷ []) ∙ ap not e

one_more : (a : ℕ) → a + 1 ≡ suc a
one_more a = omega arith

pub steps-push : (js : List Rec) (r : Rec) → is_numbered r ≡ true → numbered (js ++ r ∷ []) ≡ suc (numbered js)
steps-push js r e =
    ap length (filter-append is_numbered js (r ∷ []))
    ∙ length-append (filter is_numbered js) (filter is_numbered (r ∷ []))
    ∙ ap (λ (b : Bool). length (filter is_numbered js) + length (cond b (r ∷ []) [])) e
    ∙ one_more (length (filter is_numbered js))

-- a record that is not the last loss is numbered
pub numbered-last : (js : List Rec) (r : Rec) → has_fallen (js ++ r ∷ []) ≡ false → is_numbered r ≡ true
numbered-last js r e = from_not (is_numbered r) (sym (ends-append false js (r ∷ [])) ∙ e)
  where
    from_not : (b : Bool) → not b ≡ false → b ≡ true
    from_not true h = refl
    from_not false h = absurd (true≢false h)

-- ---- the losses of a number
at_number : (l : Loss) (n : ℕ) → ((l.at == n) ≡ true) ⊎ ((l.at == n) ≡ false)
at_number l n = cases_Bool (l.at == n)

pub falls_unnumbered : (ls : List Loss) (n : ℕ) → filter is_numbered (falls ls n) ≡ []
falls_unnumbered [] n = refl
falls_unnumbered (l ∷ ls) n =
    ⊎_elim
    (λ (e : (l.at == n) ≡ true). rw e (falls_unnumbered ls n))
    (λ (e : (l.at == n) ≡ false). rw e (falls_unnumbered ls n))
    (at_number l n)

or_true : (b : Bool) → (b || true) ≡ true
or_true true = refl
or_true false = refl

ends-falls : (b : Bool) (ls : List Loss) (n : ℕ) → ends_in b (falls ls n) ≡ (some_at ls n || b)
ends-falls b [] n = refl
ends-falls b (l ∷ ls) n =
    ⊎_elim
    (λ (e : (l.at == n) ≡ true). rw e (ends-falls true ls n ∙ or_true (some_at ls n)))
    (λ (e : (l.at == n) ≡ false). rw e (ends-falls b ls n))
    (at_number l n)

pub fallen-falls : (js : List Rec) (ls : List Loss) (n : ℕ) → some_at ls n ≡ true → has_fallen (js ++ falls ls n) ≡ true
fallen-falls js ls n e = ends-append false js (falls ls n) ∙ ends-falls (has_fallen js) ls n ∙ ap (λ (b : Bool). b || has_fallen js) e

none_more : (a : ℕ) → a + 0 ≡ a
none_more a = omega arith

pub steps-falls : (js : List Rec) (ls : List Loss) (n : ℕ) → numbered (js ++ falls ls n) ≡ numbered js
steps-falls js ls n =
    ap length (filter-append is_numbered js (falls ls n))
    ∙ length-append (filter is_numbered js) (filter is_numbered (falls ls n))
    ∙ ap (λ (l : List Rec). length (filter is_numbered js) + length l) (falls_unnumbered ls n)
    ∙ none_more (length (filter is_numbered js))

pub no_falls : (ls : List Loss) (n : ℕ) → some_at ls n ≡ false → falls ls n ≡ []
no_falls [] n h = refl
no_falls (l ∷ ls) n h = let p = or_parts (l.at == n) (some_at ls n) h in rw (p.0) (no_falls ls n p.1)

-- ---- how many losses have not fallen
later_same : (n a : ℕ) → (a == n) ≡ false → nat_le n a ≡ nat_le (suc n) a
later_same n a e =
    elim (leb_tells n a) [
      | inl p ↦ (let ne : a ≢ n = ne_eq a n e in p.0 ∙ sym (le-leb (suc n) a (omega arith)))
      | inr p ↦ (p.0 ∙ sym (lt-leb (suc n) a (omega arith)))
    ]
  where
    ne_eq : (a n : ℕ) → (a == n) ≡ false → a ≢ n
    ne_eq a n e h = true≢false (sym (eq-eqb a n h) ∙ e)

pub left-splits : (ls : List Loss) (n : ℕ) → left_from ls n ≡ length (falls ls n) + left_from ls (suc n)
left-splits [] n = refl
left-splits (l ∷ ls) n =
    let rest = left-splits ls n in
    ⊎_elim
    (λ (e : (l.at == n) ≡ true).
    let same = eqb-true l.at n e in
    let here : nat_le n l.at ≡ true = le-leb n l.at (omega arith) in
    let past : nat_le (suc n) l.at ≡ false = lt-leb (suc n) l.at (omega arith) in
    rw e (rw here (rw past (omega (arith, rest)))))
    (λ (e : (l.at == n) ≡ false).
    rw e
    (⊎_elim
    (λ (h : nat_le (suc n) l.at ≡ true). let k : nat_le n l.at ≡ true = later_same n l.at e ∙ h in rw h (rw k (omega (arith, rest))))
    (λ (h : nat_le (suc n) l.at ≡ false). let k : nat_le n l.at ≡ false = later_same n l.at e ∙ h in rw h (rw k rest))
    (cases_Bool (nat_le (suc n) l.at))))
    (at_number l n)

pub left-later : (ls : List Loss) (n : ℕ) → some_at ls n ≡ false → left_from ls (suc n) ≡ left_from ls n
left-later ls n h =
    let split = left-splits ls n in
    let none : length (falls ls n) ≡ 0 = ap length (no_falls ls n h) in
    omega (arith, split, none)

pub left-most : (ls : List Loss) (n : ℕ) → left_from ls n ≤ length ls
left-most [] n = omega arith
left-most (l ∷ ls) n =
    let rest = left-most ls n in
    ⊎_elim (λ (h : nat_le n l.at ≡ true). rw h (omega arith)) (λ (h : nat_le n l.at ≡ false). rw h (omega arith)) (cases_Bool (nat_le n l.at))

-- ---- which fall next
same_at : (ls : List Loss) (a b : ℕ) → some_at ls a ≡ true → some_at ls b ≡ false → a ≢ b
same_at ls a b x y e = true≢false (sym x ∙ ap (some_at ls) e ∙ y)

next-later : (ls : List Loss) (n : ℕ) (next : Option ℕ) → IsNextAt ls n next → some_at ls n ≡ false → IsNextAt ls (suc n) next
next-later ls n None h none = λ k le. h k (omega arith)
next-later ls n (Some at) h none =
    let ne : at ≢ n = same_at ls at n h.some none in
    let le : n ≤ at = h.late in
    record { late = omega arith; some = h.some; least = λ k lo hi. h.least k (omega arith) hi }

-- by whether the losses of the next number have fallen
from_by : Bool → ℕ → ℕ
from_by b n = if b then suc n else n

next_by : (b : Bool) (ls : List Loss) (n : ℕ) (next : Option ℕ) → IsNextAt ls (if b then suc n else n) next → (not b && some_at ls n) ≡ false → IsNextAt ls (suc n) next
next_by true ls n next h none = h
next_by false ls n next h none = next-later ls n next h none

left_by : (b : Bool) (ls : List Loss) (n : ℕ) → (not b && some_at ls n) ≡ false → left_from ls (suc n) ≡ left_from ls (if b then suc n else n)
left_by true ls n none = refl
left_by false ls n none = left-later ls n none

-- the number of the next record after one more record
from-push : (js : List Rec) (r : Rec) → is_numbered r ≡ true → next_from (js ++ r ∷ []) ≡ suc (numbered js)
from-push js r e = (λ i. if fallen-push js r e i then suc (numbered (js ++ r ∷ [])) else numbered (js ++ r ∷ [])) ∙ steps-push js r e

-- where no loss is due and one more record is put
pub next-push : (ls : List Loss) (js : List Rec) (r : Rec) (next : Option ℕ) → is_numbered r ≡ true → is_due_in ls js ≡ false → IsNextAt ls (next_from js) next → IsNextAt ls (next_from (js ++ r ∷ [])) next
next-push ls js r next e none h = subst (λ (n : ℕ). IsNextAt ls n next) (sym (from-push js r e)) (next_by (has_fallen js) ls (numbered js) next h none)

pub left-push : (ls : List Loss) (js : List Rec) (r : Rec) → is_numbered r ≡ true → is_due_in ls js ≡ false → left_from ls (next_from (js ++ r ∷ [])) ≡ left_from ls (next_from js)
left-push ls js r e none = ap (left_from ls) (from-push js r e) ∙ left_by (has_fallen js) ls (numbered js) none

back_by : (b : Bool) (ls : List Loss) (n : ℕ) (next : Option ℕ) → IsNextAt ls (suc n) next → (not b && some_at ls n) ≡ false → IsNextAt ls (if b then suc n else n) next
back_by true ls n next h none = h
back_by false ls n None h none = λ k le. ⊎_elim (λ (lt : n < k). h k (omega arith)) (λ (ge : k ≤ n). let e : k ≡ n = omega arith in ap (some_at ls) e ∙ none) (cases_lt n k)
back_by false ls n (Some at) h none =
    let le : suc n ≤ at = h.late in
    record {
      late = omega arith;
      some = h.some;
      least = λ k lo hi. ⊎_elim (λ (lt : n < k). h.least k (omega arith) hi) (λ (ge : k ≤ n). let e : k ≡ n = omega arith in ap (some_at ls) e ∙ none) (cases_lt n k);
    }

-- and where it is taken back
pub next-back : (ls : List Loss) (js : List Rec) (r : Rec) (next : Option ℕ) → is_numbered r ≡ true → is_due_in ls js ≡ false → IsNextAt ls (next_from (js ++ r ∷ [])) next → IsNextAt ls (next_from js) next
next-back ls js r next e none h = back_by (has_fallen js) ls (numbered js) next (subst (λ (n : ℕ). IsNextAt ls n next) (from-push js r e) h) none

-- ---- whether a loss is due
abbrev pub due_at : ℕ → Option ℕ → Bool
due_at n None = false
due_at n (Some at) = at == n

due_by : (b : Bool) (ls : List Loss) (n : ℕ) (next : Option ℕ) → IsNextAt ls (if b then suc n else n) next → due_at n next ≡ (not b && some_at ls n)
due_by true ls n None h = refl
due_by true ls n (Some at) h = let le : suc n ≤ at = h.late in ne_eqb at n (omega arith)
due_by false ls n None h = sym (h n (omega arith))
due_by false ls n (Some at) h =
    let le : n ≤ at = h.late in
    elim (eqb_tells at n) [
      | inl p ↦ (p.0 ∙ sym (ap (some_at ls) (sym p.1) ∙ h.some))
      | inr p ↦ (let ne : at ≢ n = p.1 in p.0 ∙ sym (h.least n (omega arith) (omega arith)))
    ]

pub due-is : (ls : List Loss) (js : List Rec) (next : Option ℕ) → IsNextAt ls (next_from js) next → due_at (numbered js) next ≡ is_due_in ls js
due-is ls js next h = due_by (has_fallen js) ls (numbered js) next h

-- ---- the least number at which a loss falls
some_at-append : (ls : List Loss) (l : Loss) (k : ℕ) → some_at (ls ++ l ∷ []) k ≡ (some_at ls k || (l.at == k))
some_at-append [] l k = or_false (l.at == k)
  where
    or_false : (b : Bool) → (b || false) ≡ b
    or_false true = refl
    or_false false = refl
some_at-append (m ∷ ms) l k = ap (λ (b : Bool). (m.at == k) || b) (some_at-append ms l k) ∙ or_assoc (m.at == k) (some_at ms k) (l.at == k)
  where
    or_assoc : (a b c : Bool) → (a || (b || c)) ≡ ((a || b) || c)
    or_assoc true b c = refl
    or_assoc false b c = refl

not_at : (ls : List Loss) (l : Loss) (k : ℕ) → some_at ls k ≡ false → l.at ≢ k → some_at (ls ++ l ∷ []) k ≡ false
not_at ls l k h ne = some_at-append ls l k ∙ or_from (some_at ls k) (l.at == k) h (ne_eqb l.at k ne)

taken_in : (ls : List Loss) (l : Loss) (n : ℕ) (next : Option ℕ) → n ≤ l.at → comes_first l.at next ≡ true → IsNextAt ls n next → IsLeastAt (ls ++ l ∷ []) n l.at
taken_in ls l n next late first h = record {
  late = late;
  some = some_at-append ls l l.at ∙ or_right (some_at ls l.at) (l.at == l.at) (eq-eqb l.at l.at refl);
  least = λ k lo hi. not_at ls l k (before next first h k lo hi) (λ e. absurd (omega (arith, e)));
}
  where
    before : (next : Option ℕ) → comes_first l.at next ≡ true → IsNextAt ls n next → (k : ℕ) → n ≤ k → k < l.at → some_at ls k ≡ false
    before None first h k lo hi = h k lo
    before (Some other) first h k lo hi = let lt = ltb-true l.at other first in h.least k lo (omega arith)

left_out : (ls : List Loss) (l : Loss) (n : ℕ) (next : Option ℕ) → (nat_le n l.at && comes_first l.at next) ≡ false → IsNextAt ls n next → IsNextAt (ls ++ l ∷ []) n next
left_out ls l n None e h =
    elim (leb_tells n l.at) [
      | inl p ↦ absurd (true≢false (sym (ap (λ (b : Bool). b && true) p.0) ∙ e))
      | inr p ↦ (λ k le. not_at ls l k (h k le) (λ (f : l.at ≡ k). let lt = p.1 in absurd (omega (arith, f))))
    ]
left_out ls l n (Some other) e h =
    let le : n ≤ other = h.late in
    elim (leb_tells n l.at) [
      | inl p ↦
          (let ge : other ≤ l.at = ltb-false l.at other (sym (ap (λ (b : Bool). b && nat_lt l.at other) p.0) ∙ e) in
          record { late = le; some = some_at-append ls l other ∙ or_left (some_at ls other) (l.at == other) h.some; least = λ k lo hi. not_at ls l k (h.least k lo hi) (λ f. absurd (omega (arith, f))) })
      | inr p ↦
          (let lt = p.1 in
          record { late = le; some = some_at-append ls l other ∙ or_left (some_at ls other) (l.at == other) h.some; least = λ k lo hi. not_at ls l k (h.least k lo hi) (λ f. absurd (omega (arith, f))) })
    ]

-- one loss more is looked at
pub next-one : (ls : List Loss) (l : Loss) (n : ℕ) (next : Option ℕ) → IsNextAt ls n next → IsNextAt (ls ++ l ∷ []) n (if nat_le n l.at && comes_first l.at next then Some l.at else next)
next-one ls l n next h =
    ⊎_elim
    (λ (e : (nat_le n l.at && comes_first l.at next) ≡ true).
    rw e (let p = parts (nat_le n l.at) (comes_first l.at next) e in taken_in ls l n next (leb-true n l.at p.0) p.1 h))
    (λ (e : (nat_le n l.at && comes_first l.at next) ≡ false). rw e (left_out ls l n next e h))
    (cases_Bool (nat_le n l.at && comes_first l.at next))
  where
    parts : (a b : Bool) → (a && b) ≡ true → (a ≡ true) × (b ≡ true)
    parts true true e = (refl, refl)
    parts true false e = absurd (true≢false (sym e))
    parts false b e = absurd (true≢false (sym e))

-- ---- the losses of a number, one after another
abbrev pub no_loss : Loss
no_loss = record { at = 0; rank = 0 }

rest_is : (ls : List Loss) (i : ℕ) → i < length ls → drop i ls ≡ get_or ls i no_loss ∷ drop (i + 1) ls
rest_is ls i lt = rw add-one (drop-cons ls i no_loss lt)

pub falls_here : (ls : List Loss) (i n : ℕ) → i < length ls → (get_or ls i no_loss).at ≡ n → falls (drop i ls) n ≡ r.Lose (get_or ls i no_loss).rank ∷ falls (drop (i + 1) ls) n
falls_here ls i n lt e =
    ap (λ (l : List Loss). falls l n) (rest_is ls i lt)
    ∙ ap (λ (b : Bool). if b then r.Lose (get_or ls i no_loss).rank ∷ falls (drop (i + 1) ls) n else falls (drop (i + 1) ls) n) (eq-eqb (get_or ls i no_loss).at n e)

pub falls_past : (ls : List Loss) (i n : ℕ) → i < length ls → (get_or ls i no_loss).at ≢ n → falls (drop i ls) n ≡ falls (drop (i + 1) ls) n
falls_past ls i n lt ne =
    ap (λ (l : List Loss). falls l n) (rest_is ls i lt)
    ∙ ap (λ (b : Bool). if b then r.Lose (get_or ls i no_loss).rank ∷ falls (drop (i + 1) ls) n else falls (drop (i + 1) ls) n) (ne_eqb (get_or ls i no_loss).at n ne)

pub falls_end : (ls : List Loss) (i n : ℕ) → length ls ≤ i → falls (drop i ls) n ≡ []
falls_end ls i n le = ap (λ (l : List Loss). falls l n) (drop_all i ls le)

-- ---- a loss is due
pub due-some : (ls : List Loss) (js : List Rec) → is_due_in ls js ≡ true → some_at ls (numbered js) ≡ true
due-some ls js due = (and_parts (not (has_fallen js)) (some_at ls (numbered js)) due).1

pub due-not_fallen : (ls : List Loss) (js : List Rec) → is_due_in ls js ≡ true → has_fallen js ≡ false
due-not_fallen ls js due = from_not (has_fallen js) (and_parts (not (has_fallen js)) (some_at ls (numbered js)) due).0
  where
    from_not : (b : Bool) → not b ≡ true → b ≡ false
    from_not true h = absurd (true≢false (sym h))
    from_not false h = refl

pub from-due : (ls : List Loss) (js : List Rec) → is_due_in ls js ≡ true → next_from js ≡ numbered js
from-due ls js due = ap (λ (b : Bool). if b then suc (numbered js) else numbered js) (due-not_fallen ls js due)

pub from-falls : (js : List Rec) (ls : List Loss) (n : ℕ) → some_at ls n ≡ true → next_from (js ++ falls ls n) ≡ suc (numbered js)
from-falls js ls n some = (λ i. if fallen-falls js ls n some i then suc (numbered (js ++ falls ls n)) else numbered (js ++ falls ls n)) ∙ ap suc (steps-falls js ls n)
