use Rattle.std.proofs.Common.{◌≡◌, ℕ, Bool, true, false, List, Result, Ok, Err, MatchResult, refl, sym, ◌∙◌}
use Rattle.std.specs.Prelude.{is_ok}
use Rattle.std.specs.Str.{is_utf8, IsUtf8}
use Rattle.std.proofs.lemmas.Str.{is_utf8-from_IsUtf8, IsUtf8-from_is_utf8}
use Rattle.script_words.proofs.names.is_text.Goals as goal

not_utf8 : (bs : List ℕ) (t : Bool) → is_utf8 bs ≡ t → (IsUtf8 bs → ⊥) → false ≡ is_utf8 bs
not_utf8 bs true e not_text = absurd (not_text (IsUtf8-from_is_utf8 bs e))
not_utf8 bs false e not_text = sym e

is_ok-utf8 : {A B : Type 0} (bs : List ℕ) (P : A → Type 0) (Q : B → Type 0) → ((x : A) → P x → IsUtf8 bs) → ((e : B) → Q e → IsUtf8 bs → ⊥) → (r : Result A B) → MatchResult r P Q → is_ok r ≡ is_utf8 bs
is_ok-utf8 bs P Q text not_text (Ok x) h = sym (is_utf8-from_IsUtf8 bs (text x h))
is_ok-utf8 bs P Q text not_text (Err e) h = not_utf8 bs (is_utf8 bs) refl (not_text e h)

pub returns : goal.returns
returns c = c.is_ok.ensures.value ∙ is_ok-utf8 c.args.word.now _ _ (λ x h. h.1) (λ e h. h.0) c.from_utf8.result c.from_utf8.ensures.cases
