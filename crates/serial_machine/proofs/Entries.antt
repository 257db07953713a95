-- Names with their values: where a name stands, and what a change there does.
use Rattle.std.proofs.Common.{◌≡◌, ◌+◌, ◌<◌, ◌≤◌, ℕ, zero, suc, Bool, true, false, cond, List, [], ◌∷◌, Option, None, length, drop, set, get_or, refl, sym, ap, subst, ◌∙◌, ⊎_elim, arith}
use Rattle.std.specs.Str.{bytes_eq}
use Rattle.std.proofs.lemmas.Bool.{cases_Bool, true≢false}
use Rattle.std.proofs.lemmas.Slice.Eq.{bytes_eq-Decides}
use Rattle.run_data.specs.Matrix.{Matrix}
use Rattle.elimination.specs.Whole.{AreRows}
use Rattle.serial_model.specs.Serial as model
use Rattle.serial_model.specs.Serial.{with_value}
use Rattle.serial_machine.specs.declared.values.Named.{Named}
use Rattle.serial_machine.specs.declared.values.Value.{Value}
use Rattle.serial_machine.specs.Values.{seen, values_of, place_in, IsMatrix, IsList}

same_name : (a b : List ℕ) → bytes_eq a b ≡ true → a ≡ b
same_name a b = (bytes_eq-Decides a b).0

-- ---- two tests, one after the other
covered : (a b : Bool) (t u rest : Option model.Value) → b ≡ a → cond b t rest ≡ cond a t (cond b u rest)
covered true true t u rest h = refl
covered false false t u rest h = refl
covered true false t u rest h = absurd (true≢false (sym h))
covered false true t u rest h = absurd (true≢false h)

swapped : (a b : Bool) (t u rest : Option model.Value) → (a ≡ true → b ≡ true → ⊥) → cond b u (cond a t rest) ≡ cond a t (cond b u rest)
swapped true true t u rest h = absurd (h refl refl)
swapped true false t u rest h = refl
swapped false b t u rest h = refl

-- a name that is another one is not also this one
not_both : (entry name other : List ℕ) → bytes_eq entry name ≡ false → bytes_eq name other ≡ true → bytes_eq entry other ≡ true → ⊥
not_both entry name other apart a b =
    let e : name ≡ other = same_name name other a in
    true≢false (sym b ∙ ap (bytes_eq entry) (sym e) ∙ apart)

-- ---- the value at the place of a name
there : (es : List Named) (name : List ℕ) (d : Named) → place_in es name < length es → values_of es name ≡ seen (get_or es (place_in es name) d).value
there [] name d lt = absurd (omega arith)
there (e ∷ es) name d lt =
    ⊎_elim
    (λ (t : bytes_eq e.name.items name ≡ true). rw t refl)
    (λ (t : bytes_eq e.name.items name ≡ false).
    let k : place_in (e ∷ es) name ≡ suc (place_in es name) = rw t refl in
    rw t (there es name d (omega (arith, lt, k))))
    (cases_Bool (bytes_eq e.name.items name))

pub value_there : (es : List Named) (at : ℕ) (name : List ℕ) (d : Named) → at ≡ place_in es name → at < length es → seen (get_or es at d).value ≡ values_of es name
value_there es at name d e lt = ap (λ n. seen (get_or es n d).value) e ∙ sym (there es name d (subst (λ n. n < length es) e lt))

-- ---- a name that stands nowhere
nowhere : (es : List Named) (name : List ℕ) → length es ≤ place_in es name → values_of es name ≡ None
nowhere [] name le = refl
nowhere (e ∷ es) name le =
    ⊎_elim
    (λ (t : bytes_eq e.name.items name ≡ true). let k : place_in (e ∷ es) name ≡ 0 = rw t refl in absurd (omega (arith, le, k)))
    (λ (t : bytes_eq e.name.items name ≡ false).
    let k : place_in (e ∷ es) name ≡ suc (place_in es name) = rw t refl in
    rw t (nowhere es name (omega (arith, le, k))))
    (cases_Bool (bytes_eq e.name.items name))

pub value_nowhere : (es : List Named) (at : ℕ) (name : List ℕ) → at ≡ place_in es name → length es ≤ at → None ≡ values_of es name
value_nowhere es at name e le = sym (nowhere es name (subst (λ n. length es ≤ n) e le))

-- ---- an entry that loses its value
abbrev pub emptied : Named → Named
emptied e = record { name = e.name; value = None }

taken : (es : List Named) (name : List ℕ) (d : Named) (other : List ℕ) → place_in es name < length es → values_of (set es (place_in es name) (emptied (get_or es (place_in es name) d))) other ≡ cond (bytes_eq name other) None (values_of es other)
taken [] name d other lt = absurd (omega arith)
taken (e ∷ es) name d other lt =
    ⊎_elim
    (λ (t : bytes_eq e.name.items name ≡ true).
    rw t (covered (bytes_eq name other) (bytes_eq e.name.items other) None (seen e.value) (values_of es other) (ap (λ n. bytes_eq n other) (same_name e.name.items name t))))
    (λ (t : bytes_eq e.name.items name ≡ false).
    let k : place_in (e ∷ es) name ≡ suc (place_in es name) = rw t refl in
    rw t (ap (λ r. cond (bytes_eq e.name.items other) (seen e.value) r) (taken es name d other (omega (arith, lt, k)))
    ∙ swapped (bytes_eq name other) (bytes_eq e.name.items other) None (seen e.value) (values_of es other) (not_both e.name.items name other t)))
    (cases_Bool (bytes_eq e.name.items name))

pub value_taken : (es : List Named) (at : ℕ) (name : List ℕ) (d : Named) → at ≡ place_in es name → at < length es → values_of (set es at (emptied (get_or es at d))) ≡ with_value (values_of es) name None
value_taken es at name d e lt =
    λ i other. (ap (λ n. values_of (set es n (emptied (get_or es n d))) other) e ∙ taken es name d other (subst (λ n. n < length es) e lt)) i

-- the same, with the entry as it was before and as it is after
pub value_left : (es : List Named) (at : ℕ) (name : List ℕ) (e d : Named) (v : Option Value) → at ≡ place_in es name → at < length es → e ≡ get_or es at d → v ≡ None
    → values_of (set es at (record { name = e.name; value = v })) ≡ with_value (values_of es) name None
value_left es at name e d v here lt was none = ap (λ x. values_of (set es at (record { name = e.name; value = x }))) none ∙ ap (λ x. values_of (set es at (emptied x))) was ∙ value_taken es at name d here lt

kept : (b : Bool) (v : Option model.Value) → (b ≡ true → v ≡ None) → v ≡ cond b None v
kept true v none = none refl
kept false v none = refl

-- a name that stands nowhere has no value to lose
pub value_untaken : (es : List Named) (at : ℕ) (name : List ℕ) → at ≡ place_in es name → length es ≤ at → values_of es ≡ with_value (values_of es) name None
value_untaken es at name e le =
    λ i other. kept (bytes_eq name other) (values_of es other) (λ t. ap (values_of es) (sym (same_name name other t)) ∙ sym (value_nowhere es at name e le)) i

-- ---- the place of a name, one entry after another
place_step : (es : List Named) (name : List ℕ) (k : ℕ) (d : Named) → k < length es → bytes_eq (get_or es k d).name.items name ≡ false → place_in (drop k es) name ≡ suc (place_in (drop (suc k) es) name)
place_step [] name k d lt t = absurd (omega arith)
place_step (e ∷ es) name zero d lt t = rw t refl
place_step (e ∷ es) name (suc k) d lt t = place_step es name k d (omega arith) t

pub place_in_step : (es : List Named) (name : List ℕ) (k : ℕ) (d : Named) → k < length es → bytes_eq (get_or es k d).name.items name ≡ false → place_in (drop k es) name ≡ suc (place_in (drop (k + 1) es) name)
place_in_step es name k d lt t = let n : suc k ≡ k + 1 = omega arith in place_step es name k d lt t ∙ ap (λ j. suc (place_in (drop j es) name)) n

pub place_in_here : (es : List Named) (name : List ℕ) (k : ℕ) (d : Named) → k < length es → bytes_eq (get_or es k d).name.items name ≡ true → place_in (drop k es) name ≡ 0
place_in_here [] name k d lt t = absurd (omega arith)
place_in_here (e ∷ es) name zero d lt t = rw t refl
place_in_here (e ∷ es) name (suc k) d lt t = place_in_here es name k d (omega arith) t

pub place_in_end : (es : List Named) (name : List ℕ) (k : ℕ) → length es ≤ k → place_in (drop k es) name ≡ 0
place_in_end [] name zero le = refl
place_in_end [] name (suc k) le = refl
place_in_end (e ∷ es) name zero le = absurd (omega arith)
place_in_end (e ∷ es) name (suc k) le = place_in_end es name k (omega arith)

-- two values for one name: the later one counts
pub value_again : (es : model.Values) (name : List ℕ) (v w : Option model.Value) → with_value (with_value es name v) name w ≡ with_value es name w
value_again es name v w = λ i other. again (bytes_eq name other) w v (es other) i
  where
    again : (b : Bool) (x y z : Option model.Value) → cond b x (cond b y z) ≡ cond b x z
    again true x y z = refl
    again false x y z = refl

-- another name keeps its value
pub value_other : (es : model.Values) (name other : List ℕ) (v : Option model.Value) → bytes_eq name other ≡ false → with_value es name v other ≡ es other
value_other es name other v t = ap (λ (b : Bool). cond b v (es other)) t

-- ---- a value that is taken out and put back
-- another name means the same meanwhile
pub meanwhile : (values out : model.Values) (name other : List ℕ) → out ≡ with_value values name None → bytes_eq name other ≡ false → out other ≡ values other
meanwhile values out name other e t = ap (λ (v : model.Values). v other) e ∙ value_other values name other None t

pub matrix_meanwhile : (values out : model.Values) (name other : List ℕ) → out ≡ with_value values name None → bytes_eq name other ≡ false → IsMatrix (values other) → IsMatrix (out other)
matrix_meanwhile values out name other e t is = (is.0, meanwhile values out name other e t ∙ is.1)

pub list_meanwhile : (values out : model.Values) (name other : List ℕ) → out ≡ with_value values name None → bytes_eq name other ≡ false → IsList (values other) → IsList (out other)
list_meanwhile values out name other e t is = (is.0, meanwhile values out name other e t ∙ is.1)

pub put_back : (values out back : model.Values) (name : List ℕ) (v : Option model.Value) → out ≡ with_value values name None → back ≡ with_value out name v → back ≡ with_value values name v
put_back values out back name v taken_out put = put ∙ ap (λ (w : model.Values). with_value w name v) taken_out ∙ value_again values name None v

-- what a solve asks of a matrix and a list, said of the same ones under other names
pub enough_again : (a b : Matrix) (v w : List ℕ) → a ≡ b → v ≡ w → b.rows ≤ length w → a.rows ≤ length v
enough_again a b v w ea ev h = rw (ea, ev) h

pub rows_again : (a b : Matrix) (v w : List ℕ) → a ≡ b → v ≡ w → AreRows w 0 b.rows b.rows → AreRows v 0 a.rows a.rows
rows_again a b v w ea ev h = rw (ea, ev) h
