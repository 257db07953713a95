-- One step of the elimination, over the lists as the code has them.
use Rattle.std.specs.List.{AllByRecursion}
use Rattle.std.proofs.Common.{◌≡◌, ◌≢◌, ℕ, zero, suc, ◌+◌, ◌-◌, ◌*◌, ◌%◌, ◌<◌, ◌≤◌, Bool, true, false, not, cond, List, [], ◌∷◌, ◌++◌, length, get_or, drop, take, All, count_by, refl, ◌∙◌, ap, subst, arith, replicate}
use Rattle.std.proofs.Math.Nat.{mod-lt}
use Rattle.std.proofs.Math.Seq.{take-length, take-append_seam}
use Rattle.std.proofs.lemmas.List.{length-replicate}
use Rattle.std.proofs.lemmas.List.Sums.{sum_by-cons}
use Rattle.std.proofs.lemmas.List.Elements.{All-cons, All-replicate}
use Rattle.cauchy_code.specs.Cauchy.{ZeroOutside, first_live}
use Rattle.cauchy_code.specs.Solving.{column_sum, Scaled, Solves}
use Rattle.cauchy_code.proofs.Modular.{pivot_target, last_own}
use Rattle.cauchy_code.proofs.Poles.{solves_pivot}

-- what stands behind the first of a list
abbrev pub rest : {X : Type 0} → List X → List X
rest {X} xs = take (length xs - 1) (drop 1 xs)

pub rest-cons : {X : Type 0} (x : X) (xs : List X) → rest (x ∷ xs) ≡ xs
rest-cons x xs =
    let e : suc (length xs) - 1 ≡ length xs = omega arith in
    ap (λ n. take n xs) e ∙ take-length xs

pub length-rest : {X : Type 0} (xs : List X) → 0 < length xs → length (rest xs) + 1 ≡ length xs
length-rest [] h = absurd (omega arith)
length-rest (x ∷ xs) h = rw rest-cons (omega arith)

pub room_left : (lost : List Bool) (columns : List ℕ) → get_or lost 0 false ≡ false → 0 < length lost → 0 < length columns → length columns < count_by not lost → length (rest columns) < count_by not (rest lost)
room_left [] columns f l m h = absurd (omega arith)
room_left (true ∷ lost) columns f l m h = absurd (cc)
room_left (false ∷ lost) columns f l m h =
    let e : count_by not (false ∷ lost) ≡ 1 + count_by not lost = sum_by-cons (λ b. cond (not b) 1 0) false lost in
    rw rest-cons (omega (arith, length-rest columns m))

pub columns_left : (x which : ℕ) (columns : List ℕ) → AllByRecursion (λ y. (y < x) × (y ≢ which)) columns → AllByRecursion (λ y. (y < x + 1) × (y ≢ which)) columns
columns_left x which [] h = tt
columns_left x which (y ∷ ys) h = ((omega arith, h.0.1), columns_left x which ys h.1)

pub columns_rest : (x which : ℕ) (columns : List ℕ) → AllByRecursion (λ y. (y < x) × (y ≢ which)) columns → AllByRecursion (λ y. (y < x + 1) × (y ≢ which)) (rest columns)
columns_rest x which [] h = tt
columns_rest x which (y ∷ ys) h = rw rest-cons (columns_left x which ys h.1)

-- zeros add up to zero
pub column_sum-zeros : (inverse : ℕ → ℕ) (n x col : ℕ) → column_sum inverse x (replicate n 0) col ≡ 0
column_sum-zeros inverse zero x col = refl
column_sum-zeros inverse (suc n) x col = omega (arith, column_sum-zeros inverse n (x + 1) col)

zero_outside-zeros : (lost : List Bool) → ZeroOutside (first_live lost 0) (replicate (length lost) 0)
zero_outside-zeros [] = tt
zero_outside-zeros (true ∷ lost) = (refl, zero_outside-zeros lost)
zero_outside-zeros (false ∷ lost) = (refl, zero_outside-zeros lost)

-- the last column: its coefficient alone
pub solves_last : (p : ℕ) (inverse : ℕ → ℕ) (law : (a : ℕ) → 0 < a → a < 32 → (a * inverse a) % p ≡ 1 % p) (x which target first n : ℕ) (lost : List Bool) (columns : List ℕ)
    → 1 < p → get_or lost 0 false ≡ false → length lost ≡ n + 1 → length columns < 1 → which < x → x + length lost ≤ 32 → target < p → first ≡ ((x - which) * target) % p → Solves p inverse x lost columns which target (first ∷ replicate n 0)
solves_last p inverse law x which target first n [] columns hp f l m hw hl ht e = absurd (omega arith)
solves_last p inverse law x which target first n (true ∷ lost) columns hp f l m hw hl ht e = absurd (cc)
solves_last p inverse law x which target first n (false ∷ lost) (y ∷ ys) hp f l m hw hl ht e = absurd (omega arith)
solves_last p inverse law x which target first n (false ∷ lost) [] hp f l m hw hl ht e =
    let ln : length lost ≡ n = omega arith in
    let i = law (x - which) (omega arith) (omega arith) in
    record {
      len = omega (arith, length-replicate {A = ℕ}, ln);
      residues = All-cons (λ k. k < p) first (replicate n 0) (omega (arith, e, mod-lt ((x - which) * target) {m = p} (omega arith))) (All-replicate (λ k. k < p) n 0 (omega arith));
      zeros = subst (λ m. ZeroOutside (first_live lost 0) (replicate m 0)) ln (zero_outside-zeros lost);
      at_columns = tt;
      at_which = rw (column_sum-zeros inverse n (x + 1) which) (last_own p (x - which) target (inverse (x - which)) first ht e i);
    }

-- a column more
pub solves_more : (p : ℕ) (inverse : ℕ → ℕ) (law : (a : ℕ) → 0 < a → a < 32 → (a * inverse a) % p ≡ 1 % p) (x which target a s step first : ℕ) (lost : List Bool) (columns ks es : List ℕ)
    → 32 ≤ p → get_or lost 0 false ≡ false → 0 < length lost → 0 < length columns → which < x → x + length lost ≤ 32 → target < p → AllByRecursion (λ y. (y < x) × (y ≢ which)) columns → length ks ≡ length es
    → a ≡ ((x - which) * target) % p → s ≡ (get_or columns 0 0 + (p - which)) % p → (s * inverse s) % p ≡ 1 % p → step ≡ (a * inverse s) % p → Solves p inverse (x + 1) (rest lost) (rest columns) which step es
    → All (λ k. k < p) ks → Scaled p x (get_or columns 0 0) (x + 1) ks es → first < p → (first + (x - get_or columns 0 0) * column_sum inverse (x + 1) ks (get_or columns 0 0)) % p ≡ 0 % p
    → Solves p inverse x lost columns which target (first ∷ ks)
solves_more p inverse law x which target a s step first [] columns ks es hp f l m hw hl ht b le ea es' ei est sol r sc hf own = absurd (omega arith)
solves_more p inverse law x which target a s step first (true ∷ lost) columns ks es hp f l m hw hl ht b le ea es' ei est sol r sc hf own = absurd (cc)
solves_more p inverse law x which target a s step first (false ∷ lost) [] ks es hp f l m hw hl ht b le ea es' ei est sol r sc hf own = absurd (omega arith)
solves_more p inverse law x which target a s step first (false ∷ lost) (y ∷ more) ks es hp f l m hw hl ht b le ea es' ei est sol r sc hf own =
    let sol' : Solves p inverse (x + 1) lost more which step es = subst (λ n. Solves p inverse (x + 1) n more which step es) (rest-cons false lost) (subst (λ n. Solves p inverse (x + 1) (rest (false ∷ lost)) n which step es) (rest-cons y more) sol) in
    solves_pivot p inverse law x y which first step target lost more ks es (omega arith) b.0.0 hw (omega arith) le b.1 ht
    hf r sc own
    (pivot_target p y which (x - which) target a s (inverse s) step (omega arith) ea es' ei est) sol'

pub take_seam : (n : ℕ) (xs ys : List ℕ) → n ≡ length xs → take n (xs ++ ys) ≡ xs
take_seam n xs ys e = ap (λ m. take m (xs ++ ys)) e ∙ take-append_seam xs ys
