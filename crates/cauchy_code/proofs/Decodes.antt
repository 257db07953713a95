-- The coefficients that the code computes decode.
use Rattle.std.proofs.Common.{All, ◌≡◌, ℕ, ◌+◌, ◌%◌, ◌<◌, ◌≤◌, Bool, true, false, not, cond, List, ◌++◌, length, get_or, drop, take, map, count_by, refl, sym, ◌∙◌, ap, subst, arith, length-drop}
use Rattle.std.proofs.lemmas.List.{length-take, get_or-take, take-append-drop}
use Rattle.std.proofs.lemmas.List.Elements.{All-append}
use Rattle.std.proofs.lemmas.List.Sums.{sum_by-append}
use Rattle.cauchy_code.specs.Cauchy.{dot, ZeroOutside, first_live, helpers, IsDecoding}
use Rattle.cauchy_code.specs.Solving.{lost_but, data_coefs, Solves}
use Rattle.field_core.proofs.Modular.{same_sum}
use Rattle.cauchy_code.proofs.Law.{Column, IsLostAt, columns_of, column_law, dot-append, dot-code, pairing, picked-at, zero_outside-append, zero_outside-data, residues-data, length-data, length-lost_but, count-live}

pub lost_there : (which : ℕ) (lost : List Bool) → get_or lost which false ≡ true → IsLostAt which 0 lost
lost_there which lost h i e l = let f : i ≡ which = omega arith in ap (λ n. get_or lost n false) f ∙ h

-- there are code columns enough
pub room : (q f which : ℕ) (lost : List Bool) → length lost ≡ q + f → count_by (λ b. b) lost ≤ f → which < q → get_or (take q lost) which false ≡ true → length (lost_but which 0 (take q lost)) < count_by not (drop q lost)
room q f which lost l c w g =
    let a : count_by (λ b. b) (take q lost ++ drop q lost) ≡ count_by (λ b. b) (take q lost) + count_by (λ b. b) (drop q lost) = sum_by-append (λ b. cond b 1 0) (take q lost) (drop q lost) in
    let b : count_by (λ b. b) (take q lost ++ drop q lost) ≡ count_by (λ b. b) lost = ap (count_by (λ b. b)) (take-append-drop q lost) in
    let t : length (take q lost) ≡ q = length-take q lost ∙ omega arith in
    let d : length (drop q lost) ≡ f = omega (arith, length-drop q lost) in
    let n = length-lost_but which which 0 (take q lost) (omega arith) (omega arith) g in
    omega (arith, count-live (drop q lost))

-- coefficients with the right sum at each column decode
pub decoding-from_columns : (p : ℕ) (inverse : ℕ → ℕ) (q which : ℕ) (lost : List Bool) (live code : List ℕ) → length live ≡ q → length code + q ≡ length lost → All (λ k. k < p) (live ++ code) → ZeroOutside (helpers q lost) (live ++ code)
    → Column p inverse q code which 0 live → IsDecoding p inverse q lost which (live ++ code)
decoding-from_columns p inverse q which lost live code ld lc r z c =
    record {
      residues = r;
      zeros = z;
      law = λ ds cs l m h.
          ap (λ n. n % p) (dot-append live code ds cs (omega arith))
          ∙ same_sum p (dot live ds) (dot live ds) (dot code cs) (pairing inverse q 0 code 0 ds) refl (dot-code p inverse q 0 code ds cs (omega arith) h)
          ∙ column_law p inverse q code which 0 live ds (omega arith) c
          ∙ ap (λ n. n % p) (picked-at which which 0 ds (omega arith));
    }

pub decodes : (p : ℕ) (inverse : ℕ → ℕ) (q which : ℕ) (lost : List Bool) (code : List ℕ) → 1 < p → q ≤ length lost → which < q → get_or (take q lost) which false ≡ true
    → Solves p inverse q (drop q lost) (lost_but which 0 (take q lost)) which 1 code → IsDecoding p inverse q lost which (data_coefs p inverse q code 0 (take q lost) ++ code)
decodes p inverse q which lost code hp hq hw hl s =
    let t : length (take q lost) ≡ q = length-take q lost ∙ omega arith in
    decoding-from_columns p inverse q which lost (data_coefs p inverse q code 0 (take q lost)) code
    (length-data p inverse q code 0 (take q lost) ∙ t)
    (omega (arith, s.len, length-drop q lost))
    (All-append (λ k. k < p) _ _ (residues-data p inverse q code 0 (take q lost) (omega arith)) s.residues)
    (zero_outside-append (map not (take q lost)) _ _ _ (zero_outside-data p inverse q code 0 (take q lost))
    (subst (λ n. ZeroOutside (first_live (drop q lost) n) code) (length-lost_but which which 0 (take q lost) (omega arith) (omega arith) hl) s.zeros))
    (columns_of p inverse q code which 0 (take q lost) hp (lost_there which (take q lost) hl) s.at_which s.at_columns)

-- the same, from what each call of the code gave
pub decodes_as : (p : ℕ) (inverse : ℕ → ℕ) (q f which : ℕ) (lost front back : List Bool) (columns code code2 code3 live all : List ℕ) → 1 < p → length lost ≡ q + f → which < q → get_or lost which false ≡ true
    → front ≡ take q lost → back ≡ drop q lost → columns ≡ lost_but which 0 front → Solves p inverse q back columns which 1 code → code2 ≡ code → code3 ≡ code → live ≡ data_coefs p inverse q code2 0 front → all ≡ live ++ code3
    → IsDecoding p inverse q lost which all
decodes_as p inverse q f which lost front back columns code code2 code3 live all hp hl hw hg ef eb ec sol e2 e3 el ea =
    let ec' : columns ≡ lost_but which 0 (take q lost) = ec ∙ ap (lost_but which 0) ef in
    let sol' : Solves p inverse q (drop q lost) (lost_but which 0 (take q lost)) which 1 code = subst (λ b. Solves p inverse q b (lost_but which 0 (take q lost)) which 1 code) eb (subst (λ c. Solves p inverse q back c which 1 code) ec' sol) in
    let all' : all ≡ data_coefs p inverse q code 0 (take q lost) ++ code = cc in
    subst (λ ks. IsDecoding p inverse q lost which ks) (sym all') (decodes p inverse q which lost code hp (omega arith) hw (get_or-take q lost which false hw ∙ hg) sol')
