-- Healed commits lead back: how that goes along a journal.
use Rattle.std.proofs.Common.{◌≡◌, true, false, List, [], ◌∷◌, ◌++◌, sym, subst, All}
use Rattle.std.proofs.lemmas.List.{append-nil, append_assoc}
use Rattle.std.proofs.lemmas.List.Elements.{All-head, All-tail}
use Rattle.std.proofs.lemmas.Bool.{true≢false}
use Rattle.rank_machine.specs.declared.record.Rec.{Rec}
use Rattle.rank_machine.specs.declared.record.Rec.TheVariants as r
use Rattle.rank_machine.specs.declared.mark.Mark.{Mark}
use Rattle.rank_machine.specs.Setting.{Setting}
use Rattle.run_laws.specs.LastCommit.{is_commit}
use Rattle.run_laws.specs.Cuts.{is_healed, LeadsBack, LeadBackFrom}

pub back_append : (s : Setting) (before xs ys : List Rec) → LeadBackFrom s before xs → LeadBackFrom s (before ++ xs) ys → LeadBackFrom s before (xs ++ ys)
back_append s before [] ys h k = subst (λ b. LeadBackFrom s b ys) (append-nil before) k
back_append s before (x ∷ xs) ys h k = (h.0, back_append s (before ++ x ∷ []) xs ys h.1 (subst (λ b. LeadBackFrom s b ys) (sym (append_assoc before (x ∷ []) xs)) k))

none_healed : (x : Rec) → is_commit x ≡ false → is_healed x ≡ true → ⊥
none_healed (r.Commit mark healed) e h = true≢false e
none_healed (r.Feed a b) e h = true≢false (sym h)
none_healed (r.Kernel a b) e h = true≢false (sym h)
none_healed (r.Send a b c) e h = true≢false (sym h)
none_healed (r.Recv a b c) e h = true≢false (sym h)
none_healed (r.Save a b) e h = true≢false (sym h)
none_healed (r.Take a b) e h = true≢false (sym h)
none_healed r.Restore e h = true≢false (sym h)
none_healed (r.Spawn a) e h = true≢false (sym h)
none_healed (r.Lose a) e h = true≢false (sym h)

-- records without a commit
pub back_plain : (s : Setting) (before xs : List Rec) → All (λ x. is_commit x ≡ false) xs → LeadBackFrom s before xs
back_plain s before [] plain = tt
back_plain s before (x ∷ xs) plain = (
  (λ healed. absurd (none_healed x (All-head (λ (x : Rec). is_commit x ≡ false) x xs plain) healed)),
  back_plain s (before ++ x ∷ []) xs (All-tail (λ (x : Rec). is_commit x ≡ false) x xs plain),
)

-- a commit that is not a healed one
pub back_commit : (s : Setting) (before : List Rec) (mark : Mark) → LeadBackFrom s before (r.Commit mark false ∷ [])
back_commit s before mark = ((λ healed. absurd (true≢false (sym healed))), tt)

-- a healed commit that leads back
pub back_healed : (s : Setting) (before : List Rec) (mark : Mark) → LeadsBack s before (r.Commit mark true) → LeadBackFrom s before (r.Commit mark true ∷ [])
back_healed s before mark same = ((λ healed. same), tt)
