-- How many steps the moves take.
use Rattle.std.proofs.Common.{◌≡◌, ◌==◌, ℕ, zero, suc, ◌+◌, ◌-◌, ◌*◌, ◌<◌, ◌≤◌, min, ◌⊎◌, List, [], ◌∷◌, ◌++◌, refl, ◌∙◌, ap, inl, inr, if◌then◌else◌, ltb, true, false, Bool, arith}
use Rattle.std.proofs.lemmas.Bool.Decides.{leb_tells}
use Rattle.rank_run.specs.declared.round.Event.{Event}
use Rattle.rank_run.specs.declared.round.Event.TheVariants.{Local, Move}
use Rattle.rank_run.specs.Memory.{Memory}
use Rattle.rank_run.specs.Rounds.{steps}
use Rattle.blacs_comm.specs.declared.topology.Topology.{Topology}
use Rattle.blacs_comm.specs.declared.topology.Topology.TheVariants.{I, D, T}
use Rattle.blacs_comm.specs.Moves.{broadcast_moves, join_moves, combine_moves, joined_at}

lt_tells : (a b : ℕ) → ((ltb a b ≡ true) × (a < b)) ⊎ ((ltb a b ≡ false) × (b ≤ a))
lt_tells a b = elim (leb_tells (suc a) b) [ inl p ↦ inl (p.0, p.1) | inr p ↦ inr (p.0, omega (arith, p.1)) ]

abbrev last_of : Topology → ℕ → ℕ → ℕ
last_of I n p = min (n - 1) p
last_of D n p = min (n - 1) p
last_of T n p = min (n - 1) (2 * p)

module _ {Mem Op Piece Msg : Type 0} (m : Memory Mem Op Piece Msg) where
  pub steps-append : (xs ys : List (Event Mem Op Piece Msg)) → steps (xs ++ ys) ≡ steps xs + steps ys
  steps-append [] ys = omega arith
  steps-append (x ∷ xs) ys = omega (arith, steps-append xs ys)

  pub broadcast_steps : (at up : ℕ → ℕ) (source work : Piece) (k : ℕ) → steps (broadcast_moves {Mem = Mem} {Op = Op} {Msg = Msg} at up source work k) ≡ 2 * k
  broadcast_steps at up source work zero = refl
  broadcast_steps at up source work (suc k) =
      steps-append (broadcast_moves {Mem = Mem} {Op = Op} {Msg = Msg} at up source work k) (Move (at (up (suc k))) (at (suc k)) (if up (suc k) == 0 then source else work) work ∷ [])
      ∙ omega (arith, broadcast_steps at up source work k)

  -- one child, and what follows
  child_steps : (at : ℕ → ℕ) (n : ℕ) (own work : Piece) (join : Op) (p c : ℕ) (cs : List ℕ) → steps (join_moves {Mem = Mem} {Msg = Msg} at n own work join p (c ∷ cs)) + 3 * min n c ≡ 3 * min n (suc c) + steps (join_moves {Mem = Mem} {Msg = Msg} at n own work join p cs)
  child_steps at n own work join p c cs =
      let pair : List (Event Mem Op Piece Msg) = Move (at c) (at p) own work ∷ Local (at p) join ∷ [] in
      let rest : List (Event Mem Op Piece Msg) = join_moves at n own work join p cs in
      elim (lt_tells c n) [
        | inl q ↦
            let moves : steps ((if ltb c n then pair else []) ++ rest) ≡ 3 + steps rest = ap (λ (b : Bool). steps ((if b then pair else []) ++ rest)) q.0 ∙ omega arith in
            omega (arith, moves, q.1)
        | inr q ↦
            let moves : steps ((if ltb c n then pair else []) ++ rest) ≡ steps rest = ap (λ (b : Bool). steps ((if b then pair else []) ++ rest)) q.0 in
            omega (arith, moves, q.1)
      ]

  parents_steps : (t : Topology) (at : ℕ → ℕ) (n : ℕ) (own work : Piece) (join : Op) (p : ℕ) → steps (combine_moves {Mem = Mem} {Msg = Msg} at (joined_at t) n own work join p) ≡ 3 * last_of t n p
  parents_steps I at n own work join zero = omega arith
  parents_steps D at n own work join zero = omega arith
  parents_steps T at n own work join zero = omega arith
  parents_steps I at n own work join (suc p) =
      steps-append (join_moves {Mem = Mem} {Msg = Msg} at n own work join p (joined_at I p)) (combine_moves {Mem = Mem} {Msg = Msg} at (joined_at I) n own work join p)
      ∙ omega (arith, parents_steps I at n own work join p, child_steps at n own work join p (suc p) [])
  parents_steps D at n own work join (suc p) =
      steps-append (join_moves {Mem = Mem} {Msg = Msg} at n own work join p (joined_at D p)) (combine_moves {Mem = Mem} {Msg = Msg} at (joined_at D) n own work join p)
      ∙ omega (arith, parents_steps D at n own work join p, child_steps at n own work join p (suc p) [])
  parents_steps T at n own work join (suc p) =
      steps-append (join_moves {Mem = Mem} {Msg = Msg} at n own work join p (joined_at T p)) (combine_moves {Mem = Mem} {Msg = Msg} at (joined_at T) n own work join p)
      ∙ omega (arith, parents_steps T at n own work join p, child_steps at n own work join p (suc (2 * p)) (suc (suc (2 * p)) ∷ []), child_steps at n own work join p (suc (suc (2 * p))) [])

  pub combine_steps : (t : Topology) (at : ℕ → ℕ) (n : ℕ) (own work : Piece) (join : Op) → steps (combine_moves {Mem = Mem} {Msg = Msg} at (joined_at t) n own work join n) ≡ 3 * (n - 1)
  combine_steps I at n own work join = parents_steps I at n own work join n ∙ omega arith
  combine_steps D at n own work join = parents_steps D at n own work join n ∙ omega arith
  combine_steps T at n own work join = parents_steps T at n own work join n ∙ omega arith
