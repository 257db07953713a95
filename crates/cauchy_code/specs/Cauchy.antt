-- The erasure code of one place: its data symbols, the code symbols that are weighted sums of them, and the lists of coefficients that decode a lost data symbol.
-- The symbols of a place are numbered: the q data symbols first, by their columns, and then the code symbols, by theirs.
use Rattle.std.specs.Prelude.{◌≡◌, ℕ, zero, suc, ◌+◌, ◌-◌, ◌*◌, ◌%◌, ◌<◌, Bool, true, false, not, List, [], ◌∷◌, ◌++◌, length, map, take, drop, All, count_by, slice_index}

-- the weight of a data column at a code column: the inverse of the distance between their places, where code column c stands at place q + c
abbrev pub weight : (ℕ → ℕ) → ℕ → ℕ → ℕ → ℕ
weight inverse q c col = inverse ((q + c) - col)

-- the data symbols from column col on, each times its weight at code column c, added up
abbrev pub weighted_sum : (ℕ → ℕ) → ℕ → ℕ → ℕ → List ℕ → ℕ
weighted_sum inverse q c col [] = 0
weighted_sum inverse q c col (d ∷ ds) = weight inverse q c col * d + weighted_sum inverse q c (col + 1) ds

-- these are the code symbols of the data symbols ds, from code column c on
abbrev pub AreCode : ℕ → (ℕ → ℕ) → ℕ → ℕ → List ℕ → List ℕ → Type 0
AreCode p inverse q c ds [] = Unit {0}
AreCode p inverse q c ds (s ∷ ss) = (s % p ≡ weighted_sum inverse q c 0 ds % p) × AreCode p inverse q (c + 1) ds ss

-- the sum of the products of two lists, place by place
abbrev pub dot : List ℕ → List ℕ → ℕ
dot [] ys = 0
dot (x ∷ xs) [] = 0
dot (x ∷ xs) (y ∷ ys) = x * y + dot xs ys

-- marks the first n that are not lost
abbrev pub first_live : List Bool → ℕ → List Bool
first_live [] n = []
first_live (true ∷ lost) n = false ∷ first_live lost n
first_live (false ∷ lost) zero = false ∷ first_live lost zero
first_live (false ∷ lost) (suc n) = true ∷ first_live lost n

-- marks the symbols that may help: the data symbols that are not lost, and as many of the first code symbols that are not lost as data symbols are lost
abbrev pub helpers : ℕ → List Bool → List Bool
helpers q lost = map not (take q lost) ++ first_live (drop q lost) (count_by (λ b. b) (take q lost))

-- each coefficient that is not marked is zero, and there are as many as marks
abbrev pub ZeroOutside : List Bool → List ℕ → Type 0
ZeroOutside [] [] = Unit {0}
ZeroOutside [] (k ∷ ks) = ⊥
ZeroOutside (h ∷ hs) [] = ⊥
ZeroOutside (true ∷ hs) (k ∷ ks) = ZeroOutside hs ks
ZeroOutside (false ∷ hs) (k ∷ ks) = (k ≡ 0) × ZeroOutside hs ks

-- these coefficients decode the data symbol of column which: they are residues, zero outside the helpers, and whatever the data symbols are, the symbols times the coefficients add up to that one
pub record IsDecoding (p : ℕ) (inverse : ℕ → ℕ) (q : ℕ) (lost : List Bool) (which : ℕ) (ks : List ℕ) : Type 0 where
  pub residues : All (λ k. k < p) ks
  pub zeros : ZeroOutside (helpers q lost) ks
  pub law : (ds cs : List ℕ) → length ds ≡ q → length cs + q ≡ length lost → AreCode p inverse q 0 ds cs → dot ks (ds ++ cs) % p ≡ slice_index ds which % p
