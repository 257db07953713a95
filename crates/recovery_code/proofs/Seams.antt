-- Lists of events put together.
use Rattle.std.proofs.Common.{◌≡◌, ◌+◌, ◌<◌, ◌==◌, ℕ, zero, suc, Bool, true, false, List, [], ◌∷◌, ◌++◌, refl, sym, ap, subst, ◌∙◌, arith}
use Rattle.std.proofs.lemmas.List.{append-nil, append_assoc}
use Rattle.std.specs.Prelude.{slice_index_or, if◌then◌else◌}
use Rattle.std.proofs.lemmas.Bool.{cases_Bool, eqb-true, eqb-false, eq-eqb, false_from_ne_true}
use Rattle.std.proofs.Common.{⊎_elim}
use Rattle.cauchy_code.specs.Cauchy.{IsDecoding}
use Rattle.rank_machine.specs.CodeLaw.{slot_at}
use Rattle.rank_machine.specs.declared.slot.SlotKind.TheVariants.{Data}
use Rattle.recovery_code.specs.Spots.{Spot, rank_in, symbol_at, help_by, decoding_at, row_data_at, Decode}
use Rattle.rank_machine.specs.declared.slot.Slot.{Slot}
use Rattle.rank_machine.specs.declared.kernel.Cut.TheVariants as cut
use Rattle.round_laws.specs.Turns.{each_below}
use Rattle.recovery_rounds.specs.Mending.{Events, bring, gain, gain_all}

pub three_parts : {X : Type 0} (o : List X) (a : X) (x y n1 n2 n3 : List X) → n1 ≡ o ++ a ∷ [] → n2 ≡ n1 ++ x → n3 ≡ n2 ++ y → n3 ≡ o ++ (a ∷ x ++ y)
three_parts o a x y n1 n2 n3 e1 e2 e3 = e3 ∙ (ap (λ z. z ++ y) (e2 ∙ (ap (λ z. z ++ x) e1 ∙ append_assoc o (a ∷ []) x)) ∙ append_assoc o (a ∷ x) y)

pub gains-append : (from rank : ℕ) (to : Slot) (a : ℕ) (xs ys : List Slot) → gain_all from rank to a (xs ++ ys) ≡ gain_all from rank to a xs ++ gain_all from rank to a ys
gains-append from rank to a [] ys = refl
gains-append from rank to a (x ∷ xs) ys = ap (λ z. bring from rank x ∷ gain rank to a cut.Whole ∷ z) (gains-append from rank to a xs ys)

pub three_gains : (o n1 n2 n3 : Events) (from rank : ℕ) (to : Slot) (a : ℕ) (u : Slot) (x y : List Slot) → n1 ≡ o ++ gain_all from rank to a (u ∷ []) → n2 ≡ n1 ++ gain_all from rank to a x → n3 ≡ n2 ++ gain_all from rank to a y → n3 ≡ o ++ gain_all from rank to a (u ∷ x ++ y)
three_gains o n1 n2 n3 from rank to a u x y e1 e2 e3 =
    let g = gain_all from rank to a in
    e3 ∙ (ap (λ z. z ++ g y) (e2 ∙ (ap (λ z. z ++ g x) e1 ∙ (append_assoc o (g (u ∷ [])) (g x) ∙ ap (λ z. o ++ z) (sym (gains-append from rank to a (u ∷ []) x)))))
    ∙ (append_assoc o (g (u ∷ x)) (g y) ∙ ap (λ z. o ++ z) (sym (gains-append from rank to a (u ∷ x) y))))

pub each-same : {X : Type 0} (n : ℕ) (f g : ℕ → List X) → ((i : ℕ) → i < n → f i ≡ g i) → each_below n f ≡ each_below n g
each-same zero f g h = refl
each-same (suc n) f g h = λ i. each-same n f g (λ k lt. h k (omega (arith, lt))) i ++ h n (omega arith) i

pub one_more : (o r r' : Events) (n : ℕ) (x : Spot) (which : ℕ) (hs : List Bool) (ks : List ℕ) (k : ℕ) → r ≡ o ++ each_below n (help_by x which hs ks) → k ≡ slice_index_or ks n 0
    → r' ≡ r ++ (if slice_index_or hs n false then gain_all (rank_in x n) (rank_in x which) (slot_at Data x.line x.group) k (symbol_at x n) else []) → r' ≡ o ++ each_below (n + 1) (help_by x which hs ks)
one_more o r r' n x which hs ks k e1 e2 e3 =
    let next : n + 1 ≡ suc n = omega arith in
    let f = help_by x which hs ks in
    rw next (e3 ∙ ((λ i. e1 i ++ (if slice_index_or hs n false then gain_all (rank_in x n) (rank_in x which) (slot_at Data x.line x.group) (e2 i) (symbol_at x n) else [])) ∙ append_assoc o (each_below n f) (f n)))

abbrev with_list : (ℕ → List ℕ) → ℕ → List ℕ → ℕ → List ℕ
with_list coefs n ks w = if w == n then ks else coefs w

list_here : (coefs : ℕ → List ℕ) (n : ℕ) (ks : List ℕ) (w : ℕ) → w ≡ n → with_list coefs n ks w ≡ ks
list_here coefs n ks w e = rw (eq-eqb w n e) refl

list_else : (coefs : ℕ → List ℕ) (n : ℕ) (ks : List ℕ) (w : ℕ) → w < n → with_list coefs n ks w ≡ coefs w
list_else coefs n ks w lt =
    let no : (w == n) ≡ false = false_from_ne_true (w == n) (λ h. omega (arith, lt, eqb-true w n h)) in
    rw no refl

pub one_strip : (o r r' : Events) (p : ℕ) (inverse : ℕ → ℕ) (x : Spot) (lost : List Bool) (n : ℕ) → ((coefs : ℕ → List ℕ) × Decode p inverse x lost n coefs × (r ≡ o ++ row_data_at x lost coefs n))
    → ((ks : List ℕ) × (slice_index_or lost n false ≡ true → IsDecoding p inverse x.d.grid.q lost n ks) × (r' ≡ r ++ (if slice_index_or lost n false then decoding_at x n lost ks else [])))
    → (coefs : ℕ → List ℕ) × Decode p inverse x lost (n + 1) coefs × (r' ≡ o ++ row_data_at x lost coefs (n + 1))
one_strip o r r' p inverse x lost n h k =
    let next : n + 1 ≡ suc n = omega arith in
    let coefs = with_list h.0 n k.0 in
    let f = λ (cs : ℕ → List ℕ) (which : ℕ). (if slice_index_or lost which false then decoding_at x which lost (cs which) else []) in
    let before : each_below n (f h.0) ≡ each_below n (f coefs) = each-same n (f h.0) (f coefs) (λ i lt. ap (λ l. if slice_index_or lost i false then decoding_at x i lost l else []) (sym (list_else h.0 n k.0 i lt))) in
    let here : (if slice_index_or lost n false then decoding_at x n lost k.0 else []) ≡ f coefs n = ap (λ l. if slice_index_or lost n false then decoding_at x n lost l else []) (sym (list_here h.0 n k.0 n refl)) in (
      coefs,
      record {
        each = λ which lt e.
            ⊎_elim
            (λ (q : (which == n) ≡ true).
            let same : which ≡ n = eqb-true which n q in
            subst (λ l. IsDecoding p inverse x.d.grid.q lost which l) (sym (list_here h.0 n k.0 which same))
            (subst (λ w. IsDecoding p inverse x.d.grid.q lost w k.0) (sym same) (k.1 (subst (λ w. slice_index_or lost w false ≡ true) same e))))
            (λ (q : (which == n) ≡ false).
            let less : which < n = omega (arith, lt, eqb-false which n q) in
            subst (λ l. IsDecoding p inverse x.d.grid.q lost which l) (sym (list_else h.0 n k.0 which less)) (h.1.each which less e))
            (cases_Bool (which == n));
      },
      rw next (k.2 ∙ ((λ i. h.2 i ++ here i) ∙ (append_assoc o (each_below n (f h.0)) (f coefs n) ∙ ap (λ z. o ++ (z ++ f coefs n)) before))),
    )

pub no_strip : (o : Events) (p : ℕ) (inverse : ℕ → ℕ) (x : Spot) (lost : List Bool) → (coefs : ℕ → List ℕ) × Decode p inverse x lost 0 coefs × (o ≡ o ++ [])
no_strip o p inverse x lost = ((λ w. []), record { each = λ which lt e. absurd (omega (arith, lt)) }, sym (append-nil o))

pub not_wanted : (o : Events) (p : ℕ) (inverse : ℕ → ℕ) (x : Spot) (lost : List Bool) (n : ℕ) → (ks : List ℕ) × (false ≡ true → IsDecoding p inverse x.d.grid.q lost n ks) × (o ≡ o ++ [])
not_wanted o p inverse x lost n = ([], (λ e. absurd (cc)), sym (append-nil o))
