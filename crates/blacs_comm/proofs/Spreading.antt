-- What a combine and a broadcast of its result do.
use Rattle.std.proofs.Common.{◌≡◌, ◌≢◌, ◌⊎◌, ℕ, ◌-◌, ◌<◌, List, [], length, get_or, refl, sym, ◌∙◌, ap, subst, inl, inr, if◌then◌else◌, Bool, true, false, MatchBool}
use Rattle.std.proofs.lemmas.Bool.Decides.{eqb_tells}
use Rattle.rank_run.specs.declared.round.Event.{Event}
use Rattle.rank_run.specs.Memory.{Memory, ReadsBack}
use Rattle.rank_run.specs.Rounds.{MayRun, after_events}
use Rattle.blacs_comm.specs.Leads.{memories, Extends}
use Rattle.blacs_comm.specs.Moves.{broadcast_to, CanBroadcast, folded, AreJoined, AreFit, IsJoin, CanSpread, Combines, CombinesAll}
use Rattle.blacs_comm.specs.Positions.{AreDistinct}
use Rattle.blacs_comm.proofs.Leading.{may_of_extends_by, after_of_extends_by}
use Rattle.blacs_comm.proofs.Places.{other_tells, members_apart}

-- the first of two facts, where the test is true
pub for_all : (b : Bool) (P Q : Type 0) → b ≡ true → P → MatchBool b P Q
for_all true P Q is p = p
for_all false P Q is p = let wrong : false ≡ true = is in absurd (cc)

module _ {Mem Op Piece Msg : Type 0} (m : Memory Mem Op Piece Msg) where
  -- another member after a broadcast, the root, and a rank that is no member
  pub at_other : ReadsBack m → (member : ℕ → ℕ) (count : ℕ) (root : ℕ) (source work : Piece) (g : ℕ → Mem) (j : ℕ) → j < count → j ≢ root → broadcast_to m member count root source work g (member j) ≡ m.written (g (member j)) work (m.read (g (member root)) source)
  at_other back member count root source work g j lt ne =
      elim (other_tells member root count (member j)) [
        | inl p ↦ ap (λ (b : Bool). if b then m.written (g (member j)) work (m.read (g (member root)) source) else g (member j)) p.0
        | inr p ↦ absurd (p.1 j lt ne refl)
      ]

  pub at_rest : (member : ℕ → ℕ) (count : ℕ) (root : ℕ) (source work : Piece) (g : ℕ → Mem) (r : ℕ) → ((j : ℕ) → j < count → j ≢ root → member j ≢ r) → broadcast_to m member count root source work g r ≡ g r
  at_rest member count root source work g r out =
      elim (other_tells member root count r) [
        | inl p ↦ absurd (out p.1 p.2 p.3 p.4)
        | inr p ↦ ap (λ (b : Bool). if b then m.written (g r) work (m.read (g (member root)) source) else g r) p.0
      ]

  pub combines_all : ReadsBack m → (es es1 es' : List (Event Mem Op Piece Msg)) (member : ℕ → ℕ) (count : ℕ) (root : ℕ) (own work : Piece) (join : Op) → root < count → AreDistinct member count →
      Combines m es es1 member count root own work join → Extends m es1 es' (CanBroadcast m member count root own own) (broadcast_to m member count root own own) → CombinesAll m es es' member count root own work join
  combines_all back es es1 es' member count root own work join lt apart one two op fit good rule spread n f g l fits =
      let done = one op fit good rule n f g l fits in
      let h = done.0 in
      let w = m.read (h (member root)) own in
      let here = done.2.fit_each root lt in
      let can : (j : ℕ) → j < count → m.can_write (h (member j)) own w = λ j k. spread (h (member j)) w (done.2.fit_each j k) (rule.reads_good (h (member root)) here) in (
        broadcast_to m member count root own own h,
        two n f h done.1 (record { within = fits.within; can_read = rule.can_read (h (member root)) here; can_write = λ j k ne. can j k }),
        record {
          total = λ j k. elim (eqb_tells j root) [
            | inl e ↦
                ap (λ (q : ℕ). m.read (broadcast_to m member count root own own h (member q)) own) e.1
                ∙ (ap (λ (x : Mem). m.read x own) (at_rest member count root own own h (member root) (λ i li ne. members_apart member count i root apart li lt ne)) ∙ done.2.total)
            | inr e ↦ ap (λ (x : Mem). m.read x own) (at_other back member count root own own h j k e.1) ∙ (back.same (h (member j)) own w (can j k) ∙ done.2.total)
          ];
          joined =
              subst (λ (y : Mem). AreJoined m work join good (g (member root)) y)
              (sym (at_rest member count root own own h (member root) (λ i li ne. members_apart member count i root apart li lt ne))) (done.2.joined root lt);
          written = λ j k ne. (
            h (member j),
            done.2.joined j k,
            at_other back member count root own own h j k ne ∙ ap (λ (v : Msg). m.written (h (member j)) own v) done.2.total,
          );
          kept = λ piece keeps still j k. elim (eqb_tells j root) [
            | inl e ↦
                ap (λ (q : ℕ). m.read (broadcast_to m member count root own own h (member q)) piece) e.1
                ∙ (ap (λ (x : Mem). m.read x piece) (at_rest member count root own own h (member root) (λ i li ne. members_apart member count i root apart li lt ne))
                ∙ (done.2.kept piece keeps root lt ∙ ap (λ (q : ℕ). m.read (g (member q)) piece) (sym e.1)))
            | inr e ↦
                ap (λ (x : Mem). m.read x piece) (at_other back member count root own own h j k e.1)
                ∙ (still (h (member j)) w (done.2.fit_each j k) (rule.reads_good (h (member root)) here) ∙ done.2.kept piece keeps j k)
          ];
          rest = λ r out. at_rest member count root own own h r (λ i li ne e. out i li (sym e)) ∙ done.2.rest r out;
        },
      )

  -- a round that was built from none by a combine may be run from memories that are fit
  pub may_of_combine : (to_all : Bool) (es es' : List (Event Mem Op Piece Msg)) (member : ℕ → ℕ) (count root : ℕ) (own work : Piece) (join : Op) (op : Msg → Msg → Msg) (fit : Mem → Bool) (good : Msg → Bool) (d : Mem) (mems : List Mem) (n : ℕ) →
      IsJoin m own work join op fit good → CanSpread m own fit good →
      MatchBool to_all (CombinesAll m es es' member count root own work join) (Combines m es es' member count root own work join) →
      es ≡ [] → length mems ≡ n → AreFit member count fit n (λ r. get_or mems r d) → MayRun m mems es'
  may_of_combine true es es' member count root own work join op fit good d mems n rule spread led none size fits =
      may_of_extends_by m es es' _ _ d mems n (led op fit good rule spread) none size fits
  may_of_combine false es es' member count root own work join op fit good d mems n rule spread led none size fits =
      may_of_extends_by m es es' _ _ d mems n (led op fit good rule) none size fits

  -- and what its events leave has the fold in `own` of the root, or of each member
  pub total_of_combine : (to_all : Bool) (es es' : List (Event Mem Op Piece Msg)) (member : ℕ → ℕ) (count root : ℕ) (own work : Piece) (join : Op) (op : Msg → Msg → Msg) (fit : Mem → Bool) (good : Msg → Bool) (d : Mem) (mems : List Mem) (n : ℕ) →
      IsJoin m own work join op fit good → CanSpread m own fit good →
      MatchBool to_all (CombinesAll m es es' member count root own work join) (Combines m es es' member count root own work join) →
      es ≡ [] → length mems ≡ n → AreFit member count fit n (λ r. get_or mems r d) →
      (h : ℕ → Mem) × (after_events m mems es' ≡ memories n h) × ((j : ℕ) → j < count → (to_all ≡ true) ⊎ (j ≡ root) → m.read (h (member j)) own ≡ folded op (λ i. m.read (get_or mems (member i) d) own) (count - 1))
  total_of_combine true es es' member count root own work join op fit good d mems n rule spread led none size fits =
      let done = after_of_extends_by m es es' _ _ d mems n (led op fit good rule spread) none size fits in
      (done.0, done.1, λ j lt who. done.2.total j lt)
  total_of_combine false es es' member count root own work join op fit good d mems n rule spread led none size fits =
      let done = after_of_extends_by m es es' _ _ d mems n (led op fit good rule) none size fits in (
        done.0,
        done.1,
        λ j lt who. elim who [
          | inl all ↦ let wrong : false ≡ true = all in absurd (cc)
          | inr is ↦ ap (λ (q : ℕ). m.read (done.0 (member q)) own) is ∙ done.2.total
        ],
      )
