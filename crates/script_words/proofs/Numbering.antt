-- The numbers that words are, one after another.
use Rattle.std.proofs.Common.{◌≡◌, ℕ, zero, suc, ◌+◌, ◌<◌, List, [], ◌∷◌, ◌++◌, length, drop, get_or, Option, Some, None, refl, sym, ap, ◌∙◌, append_assoc, arith}
use Rattle.std.proofs.lemmas.List.{append-nil}
use Rattle.script_words.specs.Numbers.{number_of}
use Rattle.script_words.specs.Commands.{◌>>=◌, numbers_of}
use Rattle.script_words.proofs.Cuts.{drop_whole}

-- some numbers, and then further ones if they are there
abbrev pub onto : List ℕ → Option (List ℕ) → Option (List ℕ)
onto front None = None
onto front (Some more) = Some (front ++ more)

onto_next : (front : List ℕ) (n : ℕ) (more : Option (List ℕ)) → onto front (more >>= (λ ns. Some (n ∷ ns))) ≡ onto (front ++ n ∷ []) more
onto_next front n None = refl
onto_next front n (Some ns) = ap (λ xs. Some xs) (sym (append_assoc front (n ∷ []) ns))

numbers_cut : (words : List (List ℕ)) (i : ℕ) (d : List ℕ) (o : Option ℕ) → i < length words → number_of (get_or words i d) ≡ o →
    numbers_of (drop i words) ≡ (o >>= (λ n. numbers_of (drop (i + 1) words) >>= (λ ns. Some (n ∷ ns))))
unfolding numbers_of
numbers_cut [] i d o lt e = absurd (omega arith)
numbers_cut (word ∷ words) zero d o lt e = ap (λ (x : Option ℕ). x >>= (λ n. numbers_of words >>= (λ ns. Some (n ∷ ns)))) e
numbers_cut (word ∷ words) (suc i) d o lt e =
    numbers_cut words i d o (omega arith) e
    ∙ ap (λ k. o >>= (λ n. numbers_of (drop k (word ∷ words)) >>= (λ ns. Some (n ∷ ns)))) (let k : suc (i + 1) ≡ suc i + 1 = omega arith in k)

-- a word that is a number
pub numbers_more : (front front' : List ℕ) (words : List (List ℕ)) (i n : ℕ) (d : List ℕ) (total : Option (List ℕ)) → i < length words → number_of (get_or words i d) ≡ Some n → front' ≡ front ++ n ∷ [] →
    onto front (numbers_of (drop i words)) ≡ total → onto front' (numbers_of (drop (i + 1) words)) ≡ total
numbers_more front front' words i n d total lt e f t =
    ap (λ xs. onto xs (numbers_of (drop (i + 1) words))) f ∙ sym (onto_next front n (numbers_of (drop (i + 1) words)))
    ∙ sym (ap (onto front) (numbers_cut words i d (Some n) lt e)) ∙ t

-- a word that is none
pub numbers_fail : (front : List ℕ) (words : List (List ℕ)) (i : ℕ) (d : List ℕ) (total : Option (List ℕ)) → i < length words → number_of (get_or words i d) ≡ None →
    onto front (numbers_of (drop i words)) ≡ total → None ≡ total
numbers_fail front words i d total lt e t = sym (ap (onto front) (numbers_cut words i d None lt e)) ∙ t

-- no further word
pub numbers_end : (front : List ℕ) (words : List (List ℕ)) (i : ℕ) (total : Option (List ℕ)) → i ≡ length words → onto front (numbers_of (drop i words)) ≡ total → Some front ≡ total
unfolding numbers_of
numbers_end front words i total e t = ap (λ xs. Some xs) (sym (append-nil front)) ∙ sym (ap (λ ws. onto front (numbers_of ws)) (drop_whole words i e)) ∙ t

-- ---- the numbers at some places of a line

-- each number is handed on in turn, and all together to what is made of them
abbrev pub with_each : {X : Type 0} → List (List ℕ) → (List ℕ → Option X) → Option X
with_each [] f = f []
with_each (word ∷ words) f = number_of word >>= (λ n. with_each words (λ ns. f (n ∷ ns)))

one_of_all : {X : Type 0} (n : ℕ) (more : Option (List ℕ)) (f : List ℕ → Option X) → ((more >>= (λ ns. Some (n ∷ ns))) >>= f) ≡ (more >>= (λ ns. f (n ∷ ns)))
one_of_all n None f = refl
one_of_all n (Some ns) f = refl

first_of_all : {X : Type 0} (o : Option ℕ) (more : Option (List ℕ)) (f : List ℕ → Option X) (rest : (List ℕ → Option X) → Option X) →
    ((g : List ℕ → Option X) → (more >>= g) ≡ rest g) → ((o >>= (λ n. more >>= (λ ns. Some (n ∷ ns)))) >>= f) ≡ (o >>= (λ n. rest (λ ns. f (n ∷ ns))))
first_of_all None more f rest e = refl
first_of_all (Some n) more f rest e = one_of_all n more f ∙ e (λ ns. f (n ∷ ns))

all_at_once : {X : Type 0} (words : List (List ℕ)) (f : List ℕ → Option X) → (numbers_of words >>= f) ≡ with_each words f
unfolding numbers_of
all_at_once [] f = refl
all_at_once (word ∷ words) f = first_of_all (number_of word) (numbers_of words) f (with_each words) (λ g. all_at_once words g)

-- what is made of the numbers that were read, and what where one is missing
pub made_of : {X : Type 0} (words : List (List ℕ)) (f : List ℕ → Option X) (o : Option (List ℕ)) → o ≡ numbers_of words → (o >>= f) ≡ with_each words f
made_of words f o e = ap (λ (x : Option (List ℕ)). x >>= f) e ∙ all_at_once words f
