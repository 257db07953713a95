-- One record more of those that are played.
use Rattle.std.proofs.Common.{◌≡◌, ◌<◌, ◌+◌, ◌&&◌, ℕ, Bool, true, List, [], ◌∷◌, ◌++◌, length, drop, get_or, refl, sym, ap, subst, ◌∙◌, drop-cons, add-one, arith}
use Rattle.std.proofs.lemmas.Bool.{and_parts}
use Rattle.rank_machine.specs.declared.record.Rec.{Rec}
use Rattle.rank_machine.specs.Setting.{Setting}
use Rattle.rank_machine.specs.Effect.{state_after}
use Rattle.rank_machine.specs.Legal.{IsLegalRec}
use Rattle.rank_machine.specs.Tests.{rec_test}
use Rattle.rank_machine.proofs.Agree.{IsLegalRec-from_test}
use Rattle.block_world.specs.declared.world.Did.{Did}
use Rattle.block_world.specs.declared.world.Did.TheVariants as did
use Rattle.block_world.specs.Did.{IsDid}
use Rattle.block_world.specs.World.{WorldView, noted}
use Rattle.world_tests.specs.Play.{ready, is_one_call, may_make, may_play}

-- a record may be made, and the others in their turn after it
pub record MayTurn (s : Setting) (journal : List Rec) (x : Rec) (xs : List Rec) : Type 0 where
  pub one_call : is_one_call x ≡ true
  pub legal : IsLegalRec s (state_after s (ready s journal)) x
  pub rest : may_play s (ready s journal ++ x ∷ []) xs ≡ true

pub turn : (s : Setting) (journal : List Rec) (x : Rec) (xs : List Rec) → may_play s journal (x ∷ xs) ≡ true → MayTurn s journal x xs
unfolding may_play may_make
turn s journal x xs h =
    let a = and_parts (may_make s (ready s journal) x) (may_play s (ready s journal ++ x ∷ []) xs) h in
    let b = and_parts (is_one_call x) (rec_test s [] (state_after s (ready s journal)) x) a.0 in
    record { one_call = b.0; legal = IsLegalRec-from_test s [] (state_after s (ready s journal)) x tt b.1; rest = a.1 }

pub turn_at : (s : Setting) (journal : List Rec) (xs : List Rec) (i : ℕ) (other : Rec) → i < length xs → may_play s journal (drop i xs) ≡ true → MayTurn s journal (get_or xs i other) (drop (i + 1) xs)
turn_at s journal xs i other lt h = turn s journal (get_or xs i other) (drop (i + 1) xs) (subst (λ (ys : List Rec). may_play s journal ys ≡ true) (rw add-one (drop-cons xs i other lt)) h)

-- the same in a world of that setting
pub legal_there : (s first then_ : Setting) (before journal : List Rec) (x : Rec) → then_ ≡ first → first ≡ s → journal ≡ ready first before → IsLegalRec s (state_after s (ready s before)) x → IsLegalRec then_ (state_after then_ journal) x
legal_there s first then_ before journal x a b e h =
    let f : journal ≡ ready s before = e ∙ ap (λ (t : Setting). ready t before) b in
    subst (λ (t : Setting). IsLegalRec t (state_after t journal) x) (sym (a ∙ b)) (subst (λ (k : List Rec). IsLegalRec s (state_after s k) x) (sym f) h)

pub made_is : (d : Did) (w w' : WorldView) (x : Rec) → d ≡ did.Done → IsDid d w w' x → w' ≡ noted w x
made_is did.Done w w' x e h = h.noted
made_is did.Hit w w' x e h = absurd (cc)
