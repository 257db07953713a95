-- The moves of broadcasts and combines.
use Rattle.std.specs.Prelude.{◌≡◌, ◌≢◌, ℕ, zero, suc, ◌-◌, ◌*◌, ◌==◌, ◌<◌, ◌&&◌, ◌||◌, not, Bool, true, false, List, [], ◌∷◌, ◌++◌, if◌then◌else◌, ltb}
use Rattle.std.specs.List.{All}
use Rattle.rank_run.specs.declared.round.Event.{Event}
use Rattle.rank_run.specs.declared.round.Event.TheVariants.{Local, Move}
use Rattle.rank_run.specs.Memory.{Memory}
use Rattle.blacs_comm.specs.Leads.{ExtendsBy}
use Rattle.blacs_comm.specs.declared.topology.Topology.{Topology}
use Rattle.blacs_comm.specs.declared.topology.Topology.TheVariants.{I, D, T}

module _ {Mem Op Piece Msg : Type 0} where
  -- the moves to the positions 1 to k
  abbrev pub broadcast_moves : (ℕ → ℕ) → (ℕ → ℕ) → Piece → Piece → ℕ → List (Event Mem Op Piece Msg)
  broadcast_moves at up source work zero = []
  broadcast_moves at up source work (suc k) =
      broadcast_moves at up source work k ++ Move (at (up (suc k))) (at (suc k)) (if up (suc k) == 0 then source else work) work ∷ []

-- whether a rank is one of the first n members, other than the root
abbrev pub is_other : (ℕ → ℕ) → ℕ → ℕ → ℕ → Bool
is_other member root zero r = false
is_other member root (suc j) r = (not (j == root) && member j == r) || is_other member root j r

module _ {Mem Op Piece Msg : Type 0} where
  -- each other member holds the root's message in `work`
  abbrev pub broadcast_to : Memory Mem Op Piece Msg → (ℕ → ℕ) → ℕ → ℕ → Piece → Piece → (ℕ → Mem) → ℕ → Mem
  broadcast_to m member count root source work g r =
      if is_other member root count r then m.written (g r) work (m.read (g (member root)) source) else g r

  pub record CanBroadcast (m : Memory Mem Op Piece Msg) (member : ℕ → ℕ) (count : ℕ) (root : ℕ) (source work : Piece) (n : ℕ) (g : ℕ → Mem) : Type 0 where
    pub within : (j : ℕ) → j < count → member j < n
    pub can_read : m.can_read (g (member root)) source
    pub can_write : (j : ℕ) → j < count → j ≢ root → m.can_write (g (member j)) work (m.read (g (member root)) source)

-- the positions whose messages a position joins, in order
abbrev pub joined_at : Topology → ℕ → List ℕ
joined_at I p = suc p ∷ []
joined_at D p = suc p ∷ []
joined_at T p = suc (2 * p) ∷ suc (suc (2 * p)) ∷ []

module _ {Mem Op Piece Msg : Type 0} where
  -- each of these positions that is below n sends to p, which joins what it gets
  abbrev pub join_moves : (ℕ → ℕ) → ℕ → Piece → Piece → Op → ℕ → List ℕ → List (Event Mem Op Piece Msg)
  join_moves at n own work join p [] = []
  join_moves at n own work join p (c ∷ cs) =
      (if ltb c n then Move (at c) (at p) own work ∷ Local (at p) join ∷ [] else []) ++ join_moves at n own work join p cs

  -- the joins of the positions below p, the last one first
  abbrev pub combine_moves : (ℕ → ℕ) → (ℕ → List ℕ) → ℕ → Piece → Piece → Op → ℕ → List (Event Mem Op Piece Msg)
  combine_moves at from n own work join zero = []
  combine_moves at from n own work join (suc p) = join_moves at n own work join p (from p) ++ combine_moves at from n own work join p

module _ {Msg : Type 0} where
  -- the fold of the values 0 to k
  abbrev pub folded : (Msg → Msg → Msg) → (ℕ → Msg) → ℕ → Msg
  folded op v zero = v 0
  folded op v (suc k) = op (folded op v k) (v (suc k))

module _ {Mem : Type 0} where
  pub record AreFit (member : ℕ → ℕ) (count : ℕ) (fit : Mem → Bool) (n : ℕ) (g : ℕ → Mem) : Type 0 where
    pub within : (j : ℕ) → j < count → member j < n
    pub fit_each : (j : ℕ) → j < count → fit (g (member j)) ≡ true

module _ {Mem Op Piece Msg : Type 0} where
  -- a message is written in and joined
  abbrev pub absorbed : Memory Mem Op Piece Msg → Piece → Op → Mem → Msg → Mem
  absorbed m work join x w = m.applied (m.written x work w) join

  abbrev pub all_absorbed : Memory Mem Op Piece Msg → Piece → Op → Mem → List Msg → Mem
  all_absorbed m work join x [] = x
  all_absorbed m work join x (w ∷ ws) = all_absorbed m work join (absorbed m work join x w) ws

  -- joins of good messages, one after the other, make y of the memory x
  pub record AreJoined (m : Memory Mem Op Piece Msg) (work : Piece) (join : Op) (good : Msg → Bool) (x y : Mem) : Type 0 where
    pub messages : List Msg
    pub good_each : All (λ w. good w ≡ true) messages
    pub after : y ≡ all_absorbed m work join x messages

  -- `join` folds `work` into `own` by an operation that is associative and commutative on good messages, wherever a memory is fit
  pub record IsJoin (m : Memory Mem Op Piece Msg) (own work : Piece) (join : Op) (op : Msg → Msg → Msg) (fit : Mem → Bool) (good : Msg → Bool) : Type 0 where
    pub can_read : (x : Mem) → fit x ≡ true → m.can_read x own
    pub reads_good : (x : Mem) → fit x ≡ true → good (m.read x own) ≡ true
    pub can_write : (x : Mem) (w : Msg) → fit x ≡ true → good w ≡ true → m.can_write x work w
    pub can_join : (x : Mem) (w : Msg) → fit x ≡ true → good w ≡ true → m.can_apply (m.written x work w) join
    pub stays_fit : (x : Mem) (w : Msg) → fit x ≡ true → good w ≡ true → fit (absorbed m work join x w) ≡ true
    pub value : (x : Mem) (w : Msg) → fit x ≡ true → good w ≡ true → m.read (absorbed m work join x w) own ≡ op (m.read x own) w
    pub stays_good : (a b : Msg) → good a ≡ true → good b ≡ true → good (op a b) ≡ true
    pub assoc : (a b c : Msg) → good a ≡ true → good b ≡ true → good c ≡ true → op (op a b) c ≡ op a (op b c)
    pub comm : (a b : Msg) → good a ≡ true → good b ≡ true → op a b ≡ op b a

  -- what a piece holds stays as it is when a message is joined
  abbrev pub KeepsPiece : Memory Mem Op Piece Msg → Piece → Op → (Mem → Bool) → (Msg → Bool) → Piece → Type 0
  KeepsPiece m work join fit good piece =
      (x : Mem) (w : Msg) → fit x ≡ true → good w ≡ true → m.read (absorbed m work join x w) piece ≡ m.read x piece

  -- the root holds the fold over all members, in member order; each member is as joins of good messages leave it, so what no join changes it holds as before, and no other rank has changed
  pub record IsCombined (m : Memory Mem Op Piece Msg) (member : ℕ → ℕ) (count root : ℕ) (own work : Piece) (join : Op) (op : Msg → Msg → Msg) (fit : Mem → Bool) (good : Msg → Bool) (g h : ℕ → Mem) : Type 0 where
    pub total : m.read (h (member root)) own ≡ folded op (λ j. m.read (g (member j)) own) (count - 1)
    pub fit_each : (j : ℕ) → j < count → fit (h (member j)) ≡ true
    pub joined : (j : ℕ) → j < count → AreJoined m work join good (g (member j)) (h (member j))
    pub kept : (piece : Piece) → KeepsPiece m work join fit good piece → (j : ℕ) → j < count → m.read (h (member j)) piece ≡ m.read (g (member j)) piece
    pub rest : (r : ℕ) → ((j : ℕ) → j < count → r ≢ member j) → h r ≡ g r

  abbrev pub Combines : Memory Mem Op Piece Msg → List (Event Mem Op Piece Msg) → List (Event Mem Op Piece Msg) → (ℕ → ℕ) → ℕ → ℕ → Piece → Piece → Op → Type 0
  Combines m es es' member count root own work join =
      (op : Msg → Msg → Msg) (fit : Mem → Bool) (good : Msg → Bool) → IsJoin m own work join op fit good →
      ExtendsBy m es es' (AreFit member count fit) (IsCombined m member count root own work join op fit good)

  -- a good message can be written into `own` as well
  abbrev pub CanSpread : Memory Mem Op Piece Msg → Piece → (Mem → Bool) → (Msg → Bool) → Type 0
  CanSpread m own fit good = (x : Mem) (w : Msg) → fit x ≡ true → good w ≡ true → m.can_write x own w

  -- nor when a message is written into `own`
  abbrev pub KeepsPieceOn : Memory Mem Op Piece Msg → Piece → (Mem → Bool) → (Msg → Bool) → Piece → Type 0
  KeepsPieceOn m own fit good piece = (x : Mem) (w : Msg) → fit x ≡ true → good w ≡ true → m.read (m.written x own w) piece ≡ m.read x piece

  -- each member holds the fold over all members, in member order: the root after its joins, each other member written into its `own` after its joins; what no join and no write into `own` changes it holds as before, and no other rank has changed
  pub record IsCombinedAll (m : Memory Mem Op Piece Msg) (member : ℕ → ℕ) (count root : ℕ) (own work : Piece) (join : Op) (op : Msg → Msg → Msg) (fit : Mem → Bool) (good : Msg → Bool) (g h : ℕ → Mem) : Type 0 where
    pub total : (j : ℕ) → j < count → m.read (h (member j)) own ≡ folded op (λ j. m.read (g (member j)) own) (count - 1)
    pub joined : AreJoined m work join good (g (member root)) (h (member root))
    pub written : (j : ℕ) → j < count → j ≢ root → (x : Mem) × AreJoined m work join good (g (member j)) x × (h (member j) ≡ m.written x own (folded op (λ i. m.read (g (member i)) own) (count - 1)))
    pub kept : (piece : Piece) → KeepsPiece m work join fit good piece → KeepsPieceOn m own fit good piece → (j : ℕ) → j < count → m.read (h (member j)) piece ≡ m.read (g (member j)) piece
    pub rest : (r : ℕ) → ((j : ℕ) → j < count → r ≢ member j) → h r ≡ g r

  abbrev pub CombinesAll : Memory Mem Op Piece Msg → List (Event Mem Op Piece Msg) → List (Event Mem Op Piece Msg) → (ℕ → ℕ) → ℕ → ℕ → Piece → Piece → Op → Type 0
  CombinesAll m es es' member count root own work join =
      (op : Msg → Msg → Msg) (fit : Mem → Bool) (good : Msg → Bool) → IsJoin m own work join op fit good → CanSpread m own fit good →
      ExtendsBy m es es' (AreFit member count fit) (IsCombinedAll m member count root own work join op fit good)

  -- the moves of a broadcast from `own` to `own`, where the result is for all members
  abbrev pub sharing_moves : Bool → (ℕ → ℕ) → (ℕ → ℕ) → Piece → ℕ → List (Event Mem Op Piece Msg)
  sharing_moves false at up own k = []
  sharing_moves true at up own k = broadcast_moves at up own own k
