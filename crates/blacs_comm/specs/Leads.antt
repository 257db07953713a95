-- The memories of the ranks as a function of the rank, and what a round makes of them.
use Rattle.std.specs.Prelude.{◌≡◌, ℕ, zero, suc, ◌==◌, ◌<◌, List, [], ◌∷◌, if◌then◌else◌}
use Rattle.rank_run.specs.declared.round.Event.{Event}
use Rattle.rank_run.specs.Memory.{Memory}
use Rattle.rank_run.specs.Rounds.{after_events, MayRun}

module _ {Mem : Type 0} where
  -- the memories of the first n ranks
  abbrev pub memories : ℕ → (ℕ → Mem) → List Mem
  memories zero f = []
  memories (suc n) f = f 0 ∷ memories n (λ r. f (suc r))

  -- the memories with this one at a rank
  abbrev pub with_memory : (ℕ → Mem) → ℕ → Mem → ℕ → Mem
  with_memory f r x q = if q == r then x else f q

module _ {Mem Op Piece Msg : Type 0} where
  -- from the memories f of n ranks the events may be run in list order, and leave the memories g
  pub record Leads (m : Memory Mem Op Piece Msg) (n : ℕ) (es : List (Event Mem Op Piece Msg)) (f g : ℕ → Mem) : Type 0 where
    pub may : MayRun m (memories n f) es
    pub after : after_events m (memories n f) es ≡ memories n g

  -- wherever a round leads to memories that are ready, the longer round leads to the effect on them
  abbrev pub Extends : Memory Mem Op Piece Msg → List (Event Mem Op Piece Msg) → List (Event Mem Op Piece Msg) → (ℕ → (ℕ → Mem) → Type 0) → ((ℕ → Mem) → ℕ → Mem) → Type 0
  Extends m es es' Ready effect = (n : ℕ) (f g : ℕ → Mem) → Leads m n es f g → Ready n g → Leads m n es' f (effect g)

  -- the same where the effect is a relation
  abbrev pub ExtendsBy : Memory Mem Op Piece Msg → List (Event Mem Op Piece Msg) → List (Event Mem Op Piece Msg) → (ℕ → (ℕ → Mem) → Type 0) → ((ℕ → Mem) → (ℕ → Mem) → Type 0) → Type 0
  ExtendsBy m es es' Ready Effect = (n : ℕ) (f g : ℕ → Mem) → Leads m n es f g → Ready n g → (h : ℕ → Mem) × Leads m n es' f h × Effect g h

  -- the ranks are there, and the piece of the one can be written into that of the other
  pub record CanMove (m : Memory Mem Op Piece Msg) (from : ℕ) (a : Piece) (to : ℕ) (b : Piece) (n : ℕ) (g : ℕ → Mem) : Type 0 where
    pub from_in : from < n
    pub to_in : to < n
    pub can_read : m.can_read (g from) a
    pub can_write : m.can_write (g to) b (m.read (g from) a)

  abbrev pub moved : Memory Mem Op Piece Msg → ℕ → Piece → ℕ → Piece → (ℕ → Mem) → ℕ → Mem
  moved m from a to b g = with_memory g to (m.written (g to) b (m.read (g from) a))

  pub record CanWork (m : Memory Mem Op Piece Msg) (rank : ℕ) (op : Op) (n : ℕ) (g : ℕ → Mem) : Type 0 where
    pub rank_in : rank < n
    pub can_apply : m.can_apply (g rank) op

  abbrev pub worked : Memory Mem Op Piece Msg → ℕ → Op → (ℕ → Mem) → ℕ → Mem
  worked m rank op g = with_memory g rank (m.applied (g rank) op)
