-- What is appended by calls one after another, the last of which may fail.
use Rattle.std.proofs.Common.{◌≡◌, ℕ, List, [], ◌∷◌, ◌++◌, refl, ◌∙◌, ap, append_assoc}
use Rattle.std.specs.Prelude.{Result, Ok, Err, OnOk}
use Rattle.std.specs.List.{join_with_byte}

-- two texts, one after the other
pub both_appended : (old mid new a b all : List ℕ) → mid ≡ old ++ a → new ≡ mid ++ b → a ++ b ≡ all → new ≡ old ++ all
both_appended old mid new a b all first second joined = second ∙ ap (λ m. m ++ b) first ∙ append_assoc old a b ∙ ap (λ t. old ++ t) joined

pub then_appended : {A E : Type 0} (r : Result A E) (old mid new a b all : List ℕ) → mid ≡ old ++ a → a ++ b ≡ all → OnOk r (new ≡ mid ++ b) → OnOk r (new ≡ old ++ all)
then_appended (Ok x) old mid new a b all first joined second = both_appended old mid new a b all first second joined
then_appended (Err x) old mid new a b all first joined second = tt

-- words with a space between two, and then a space and further words
pub words_joined : (x : List ℕ) (xs : List (List ℕ)) (y : List ℕ) (ys : List (List ℕ)) → join_with_byte 32 (x ∷ xs) ++ (32 ∷ join_with_byte 32 (y ∷ ys)) ≡ join_with_byte 32 ((x ∷ xs) ++ (y ∷ ys))
words_joined x [] y ys = refl
words_joined x (x' ∷ xs) y ys = append_assoc x (32 ∷ join_with_byte 32 (x' ∷ xs)) (32 ∷ join_with_byte 32 (y ∷ ys)) ∙ ap (λ t. x ++ (32 ∷ t)) (words_joined x' xs y ys)

-- five texts, put together as those of a part are
pub five_appended : (old m1 m2 m3 m4 new a b c d e : List ℕ) → m1 ≡ old ++ a → m2 ≡ m1 ++ b → m3 ≡ m2 ++ c → m4 ≡ m3 ++ d → new ≡ m4 ++ e → new ≡ old ++ (((a ++ b) ++ c) ++ (d ++ e))
five_appended old m1 m2 m3 m4 new a b c d e e1 e2 e3 e4 e5 =
    let three : m3 ≡ old ++ ((a ++ b) ++ c) = both_appended old m2 m3 (a ++ b) c ((a ++ b) ++ c) (both_appended old m1 m2 a b (a ++ b) e1 e2 refl) e3 refl in
    let four : m4 ≡ old ++ (((a ++ b) ++ c) ++ d) = both_appended old m3 m4 ((a ++ b) ++ c) d (((a ++ b) ++ c) ++ d) three e4 refl in
    both_appended old m4 new (((a ++ b) ++ c) ++ d) e (((a ++ b) ++ c) ++ (d ++ e)) four e5 (append_assoc ((a ++ b) ++ c) d e)
