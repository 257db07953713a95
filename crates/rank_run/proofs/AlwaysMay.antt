-- Rounds on memories on which everything is allowed.
use Rattle.std.proofs.Common.{◌≡◌, ℕ, zero, suc, ◌<◌, List, [], ◌∷◌, length, slice_get, All, sym, subst, arith, ◌∙◌}
use Rattle.std.specs.Option.{IsSomeAnd}
use Rattle.rank_run.specs.declared.round.Event.{Event}
use Rattle.rank_run.specs.declared.round.Event.TheVariants.{Local, Move}
use Rattle.rank_run.specs.Memory.{Memory}
use Rattle.rank_run.specs.Rounds.{after_event, IsMet, MayRun}
use Rattle.rank_run.specs.Parts.{IsWithin}
use Rattle.rank_run.proofs.Items.{Todo}
use Rattle.rank_run.proofs.Rest.{length-after_item}

there : {X : Type 0} (P : X → Type 0) → ((x : X) → P x) → (xs : List X) (k : ℕ) → k < length xs → IsSomeAnd (slice_get xs k) P
there P h [] k lt = absurd (omega arith)
there P h (x ∷ xs) zero lt = h x
there P h (x ∷ xs) (suc k) lt = there P h xs k (omega arith)

module _ {Mem Op Piece Msg : Type 0} where
  -- everything is allowed
  pub record AlwaysMay (m : Memory Mem Op Piece Msg) : Type 0 where
    pub can_apply : (x : Mem) (op : Op) → m.can_apply x op
    pub can_read : (x : Mem) (p : Piece) → m.can_read x p
    pub can_write : (x : Mem) (p : Piece) (w : Msg) → m.can_write x p w

  event_met : (m : Memory Mem Op Piece Msg) → AlwaysMay m → (e : Event Mem Op Piece Msg) (mems : List Mem) → IsWithin (length mems) e → IsMet m mems e
  event_met m may (Local q op) mems h = there (λ x. m.can_apply x op) (λ x. may.can_apply x op) mems q h
  event_met m may (Move f t a b) mems h = (
    h.0,
    there (λ x. m.can_read x a × IsSomeAnd (slice_get mems t) (λ y. m.can_write y b (m.read x a)))
        (λ x. (may.can_read x a, there (λ y. m.can_write y b (m.read x a)) (λ y. may.can_write y b (m.read x a)) mems t h.2)) mems f h.1,
  )

  -- then a round among these ranks may be run
  pub may_run_always : (m : Memory Mem Op Piece Msg) → AlwaysMay m → (es : List (Event Mem Op Piece Msg)) (mems : List Mem) (n : ℕ) → length mems ≡ n → All (IsWithin n) es → MayRun m mems es
  may_run_always m may [] mems n e h = tt
  may_run_always m may (x ∷ es) mems n e h = (
    event_met m may x mems (subst (λ k. IsWithin k x) (sym e) (h 0 x (omega arith))),
    may_run_always m may es (after_event m mems x) n (length-after_item m mems (Todo x) ∙ e) (λ k d lt. h (suc k) d (omega arith)),
  )
