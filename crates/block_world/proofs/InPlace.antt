-- Losses stand where they fall, in a journal that grows.
use Rattle.std.proofs.Common.{◌≡◌, ◌+◌, ◌&&◌, ◌++◌, ℕ, suc, Bool, true, false, not, List, [], ◌∷◌, length, refl, sym, ap, ◌∙◌, append_assoc, arith}
use Rattle.std.specs.Prelude.{if◌then◌else◌}
use Rattle.std.specs.List.{filter}
use Rattle.std.proofs.lemmas.List.{append-nil}
use Rattle.std.proofs.lemmas.List.Elements.{filter-append}
use Rattle.rank_machine.specs.declared.record.Rec.{Rec}
use Rattle.rank_machine.specs.declared.record.Loss.{Loss}
use Rattle.rank_machine.specs.Setting.{Setting}
use Rattle.rank_machine.specs.Losses.{falls, is_numbered, with_falls}
use Rattle.run_laws.specs.Due.{numbered, some_at, has_fallen, is_due_in, AreInPlace}
use Rattle.block_world.proofs.Keeping.{fallen-push, fallen-falls, falls_unnumbered, no_falls, due-some, due-not_fallen}

-- ---- with the losses of the next number at the end, or without them
one_on : (n k : ℕ) → (n + 1) + k ≡ n + suc k
one_on n k = omega arith

none_on : (n : ℕ) → n ≡ n + 0
none_on n = omega arith

falls_at_end : (ls : List Loss) (n : ℕ) (xs : List Rec) → with_falls ls true n xs ≡ with_falls ls false n xs ++ falls ls (n + length xs)
falls_at_end ls n [] = ap (falls ls) (none_on n)
falls_at_end ls n (x ∷ xs) =
    ap (λ (l : List Rec). falls ls n ++ x ∷ l) (falls_at_end ls (n + 1) xs)
    ∙ sym (append_assoc (falls ls n) (x ∷ with_falls ls false (n + 1) xs) (falls ls ((n + 1) + length xs)))
    ∙ ap (λ (k : ℕ). (falls ls n ++ x ∷ with_falls ls false (n + 1) xs) ++ falls ls k) (one_on n (length xs))

falls_before : (ls : List Loss) (n : ℕ) (xs : List Rec) (r : Rec) → with_falls ls false n (xs ++ r ∷ []) ≡ with_falls ls true n xs ++ r ∷ []
falls_before ls n [] r = refl
falls_before ls n (x ∷ xs) r = ap (λ (l : List Rec). falls ls n ++ x ∷ l) (falls_before ls (n + 1) xs r) ∙ sym (append_assoc (falls ls n) (x ∷ with_falls ls true (n + 1) xs) (r ∷ []))

from_none : (n : ℕ) → 0 + n ≡ n
from_none n = omega arith

-- where none is due, those of the next number are at the end, or there are none
settled : (ls : List Loss) (js : List Rec) (b : Bool) → (not b && some_at ls (numbered js)) ≡ false → js ≡ with_falls ls b 0 (filter is_numbered js) → js ≡ with_falls ls true 0 (filter is_numbered js)
settled ls js true none h = h
settled ls js false none h =
    h
    ∙ sym (append-nil (with_falls ls false 0 (filter is_numbered js)))
    ∙ ap (λ (l : List Rec). with_falls ls false 0 (filter is_numbered js) ++ l) (sym (ap (falls ls) (from_none (numbered js)) ∙ no_falls ls (numbered js) none))
    ∙ sym (falls_at_end ls 0 (filter is_numbered js))

filter-one : (js : List Rec) (r : Rec) → is_numbered r ≡ true → filter is_numbered (js ++ r ∷ []) ≡ filter is_numbered js ++ r ∷ []
filter-one js r e = filter-append is_numbered js (r ∷ []) ∙ ap (λ (l : List Rec). filter is_numbered js ++ l) (kept (is_numbered r) e)
  where
    kept : (b : Bool) → b ≡ true → (if b then r ∷ [] else []) ≡ r ∷ []
    kept b e = rw e refl

-- one more numbered record, where no loss is due
pub in_place-push : (s : Setting) (js : List Rec) (r : Rec) → is_numbered r ≡ true → is_due_in s.losses js ≡ false → AreInPlace s js → AreInPlace s (js ++ r ∷ [])
in_place-push s js r e none h =
    let ls = s.losses in
    ap (λ (l : List Rec). l ++ r ∷ []) (settled ls js (has_fallen js) none h)
    ∙ sym (falls_before ls 0 (filter is_numbered js) r)
    ∙ sym (λ i. with_falls ls (fallen-push js r e i) 0 (filter-one js r e i))

filter-none : (js : List Rec) (ls : List Loss) (n : ℕ) → filter is_numbered (js ++ falls ls n) ≡ filter is_numbered js
filter-none js ls n = filter-append is_numbered js (falls ls n) ∙ ap (λ (l : List Rec). filter is_numbered js ++ l) (falls_unnumbered ls n) ∙ append-nil (filter is_numbered js)

-- the losses that are due
pub in_place-falls : (s : Setting) (js : List Rec) → is_due_in s.losses js ≡ true → AreInPlace s js → AreInPlace s (js ++ falls s.losses (numbered js))
in_place-falls s js due h =
    let ls = s.losses in
    let n = numbered js in
    let before : js ≡ with_falls ls false 0 (filter is_numbered js) = h ∙ ap (λ (b : Bool). with_falls ls b 0 (filter is_numbered js)) (due-not_fallen ls js due) in
    (λ i. before i ++ falls ls (sym (from_none n) i))
    ∙ sym (falls_at_end ls 0 (filter is_numbered js))
    ∙ sym (λ i. with_falls ls (fallen-falls js ls n (due-some ls js due) i) 0 (filter-none js ls n i))
