-- Records that come where no rank counts as lost go nowhere too far.
use Rattle.std.proofs.Common.{◌≡◌, ◌+◌, ◌<◌, ◌==◌, ◌&&◌, nat_lt, ℕ, zero, suc, Bool, true, false, List, [], ◌∷◌, ◌++◌, length, refl, sym, ap, subst, ◌∙◌, ⊎_elim, arith, All}
use Rattle.std.specs.Prelude.{if◌then◌else◌, Option, Some, None}
use Rattle.std.proofs.lemmas.List.{append-nil, append_assoc}
use Rattle.std.proofs.lemmas.List.Elements.{All-head, All-tail}
use Rattle.std.proofs.lemmas.Bool.{and_left, and_right, cases_Bool, false_from_ne_true, ltb-true, true≢false}
use Rattle.field_core.specs.Sums.{sum_to}
use Rattle.field_core.proofs.Sums.{sum_to-same, sum_to-zero}
use Rattle.blacs_grid.specs.declared.Grid.{Grid}
use Rattle.blacs_grid.specs.Places.{width, rank_at}
use Rattle.rank_machine.specs.declared.record.Rec.{Rec}
use Rattle.rank_machine.specs.declared.record.Rec.TheVariants as r
use Rattle.rank_machine.specs.declared.record.Loss.{Loss}
use Rattle.rank_machine.specs.Setting.{Setting, ranks, grid_numbered}
use Rattle.rank_machine.specs.State.{State, at_rank}
use Rattle.rank_machine.specs.Effect.{after, state_after}
use Rattle.rank_machine.specs.Losses.{is_numbered, falls, lost_in, holds_live, is_beyond_at, LacksSpareOf}
use Rattle.rank_machine.proofs.Runs.{state_after-push}
use Rattle.run_laws.specs.Cuts.{IsWithin, MayGoOn, GoOnFrom}

abbrev pub NoneLost : State → Type 0
NoneLost st = (rank : ℕ) → st.lost rank ≡ false

none_in : (st : State) (g : Grid) (row : ℕ) → NoneLost st → lost_in st g row ≡ 0
none_in st g row h = sum_to-same (width g) (λ col. if st.lost (rank_at g row col) then 1 else 0) (λ col. 0) (λ col lt. ap (λ b. if b then 1 else 0) (h (rank_at g row col))) ∙ sum_to-zero (width g)

pub within_none : (s : Setting) (st : State) → NoneLost st → IsWithin s st
within_none s st h number row =
    let g = grid_numbered s number in
    let few : nat_lt g.f (lost_in st g row) ≡ false = ap (nat_lt g.f) (none_in st g row h) ∙ false_from_ne_true (nat_lt g.f 0) (λ e. omega (arith, ltb-true g.f 0 e)) in
    and_right (nat_lt number (length s.grids) && nat_lt row g.p) (nat_lt g.f (lost_in st g row) && holds_live s st number) (and_left (nat_lt g.f (lost_in st g row)) (holds_live s st number) few)

none_after : (s : Setting) (st : State) (x : Rec) → is_numbered x ≡ true → NoneLost st → NoneLost (after s st x)
none_after s st (r.Feed a b) e h = h
none_after s st (r.Kernel a b) e h = h
none_after s st (r.Send a b c) e h = h
none_after s st (r.Recv a b c) e h = h
none_after s st (r.Save a b) e h = h
none_after s st (r.Take a b) e h = h
none_after s st (r.Commit m b) e h = λ rank. refl
none_after s st r.Restore e h = h
none_after s st (r.Spawn a) e h = h
none_after s st (r.Lose a) e h = absurd (true≢false (sym e))

-- every rank is live and none counts as lost
pub record IsCalm (s : Setting) (st : State) : Type 0 where
  pub lost : NoneLost st
  pub live : (rank : ℕ) → rank < ranks s → st.live rank ≡ true

live_again : (old : ℕ → Bool) (one rank : ℕ) → old rank ≡ true → at_rank old one true rank ≡ true
live_again old one rank h = ⊎_elim (λ (e : (rank == one) ≡ true). rw e refl) (λ (e : (rank == one) ≡ false). rw e h) (cases_Bool (rank == one))

all_after : (s : Setting) (st : State) (x : Rec) → is_numbered x ≡ true → ((rank : ℕ) → rank < ranks s → st.live rank ≡ true) → (rank : ℕ) → rank < ranks s → (after s st x).live rank ≡ true
all_after s st (r.Feed a b) e h = h
all_after s st (r.Kernel a b) e h = h
all_after s st (r.Send a b c) e h = h
all_after s st (r.Recv a b c) e h = h
all_after s st (r.Save a b) e h = h
all_after s st (r.Take a b) e h = h
all_after s st (r.Commit m b) e h = h
all_after s st r.Restore e h = h
all_after s st (r.Spawn a) e h = λ rank lt. live_again st.live a rank (h rank lt)
all_after s st (r.Lose a) e h = absurd (true≢false (sym e))

-- no live rank asks for a spare
none_lacks : (spares : Option ℕ) (s : Setting) (st : State) (rank : ℕ) → IsCalm s st → LacksSpareOf spares s st rank → ⊥
none_lacks None s st rank calm lacks = lacks
none_lacks (Some n) s st rank calm lacks = true≢false (sym (calm.live rank lacks.0) ∙ lacks.1)

pub go_append : (s : Setting) (before xs ys : List Rec) → GoOnFrom s before xs → GoOnFrom s (before ++ xs) ys → GoOnFrom s before (xs ++ ys)
go_append s before [] ys h k = subst (λ b. GoOnFrom s b ys) (append-nil before) k
go_append s before (x ∷ xs) ys h k = (h.0, go_append s (before ++ x ∷ []) xs ys h.1 (subst (λ b. GoOnFrom s b ys) (sym (append_assoc before (x ∷ []) xs)) k))

-- records that bring no loss, where none is lost
pub go_calm : (s : Setting) (before xs : List Rec) → IsCalm s (state_after s before) → All (λ x. is_numbered x ≡ true) xs → GoOnFrom s before xs
go_calm s before [] h all = tt
go_calm s before (x ∷ xs) h all =
    let counts : is_numbered x ≡ true = All-head (λ (x : Rec). is_numbered x ≡ true) x xs all in
    let st : State = state_after s before in
    let next : IsCalm s (state_after s (before ++ x ∷ [])) =
    subst (IsCalm s) (sym (state_after-push s before x)) (record { lost = none_after s st x counts h.lost; live = all_after s st x counts h.live }) in (
      (λ e. record { within = within_none s st h.lost; spared = λ rank lacks. none_lacks s.spares s st rank h lacks }),
      go_calm s (before ++ x ∷ []) xs next (All-tail (λ (x : Rec). is_numbered x ≡ true) x xs all),
    )

pub go_falls : (s : Setting) (before : List Rec) (ls : List Loss) (n : ℕ) → GoOnFrom s before (falls ls n)
go_falls s before [] n = tt
go_falls s before (l ∷ ls) n =
    ⊎_elim
    (λ (h : (l.at == n) ≡ true). rw h ((λ (e : false ≡ true). absurd (true≢false (sym e))), go_falls s (before ++ r.Lose l.rank ∷ []) ls n))
    (λ (h : (l.at == n) ≡ false). rw h (go_falls s before ls n))
    (cases_Bool (l.at == n))
