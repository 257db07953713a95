-- How a recovery begins, and what its commit leaves.
use Rattle.std.proofs.Common.{◌≡◌, ℕ, zero, suc, ◌<◌, ◌==◌, Bool, true, false, if◌then◌else◌, nat_lt, List, [], ◌∷◌, length, refl, sym, ◌∙◌, ap, arith}
use Rattle.std.proofs.lemmas.Bool.{and_from, lt-ltb}
use Rattle.rank_machine.specs.declared.slot.Slot.{Slot}
use Rattle.rank_machine.specs.declared.record.Rec.TheVariants as r
use Rattle.rank_machine.specs.Setting.{Setting, all_below, some_below, ranks}
use Rattle.rank_machine.specs.State.{State}
use Rattle.rank_machine.specs.Effect.{after, replay}
use Rattle.rank_machine.specs.Legal.{some_lost, IsCommit}
use Rattle.recovery_laws.specs.Healed.{HoldAlike, FallsBack, IsSensible, IsLast, AreRebuilt}
use Rattle.recovery_laws.proofs.Alike.{law-alike, commit-again}
use Rattle.recovery_laws.proofs.Recovered.{rebuilt-alike}
use Rattle.recovery_laws.proofs.FallingBack.{goes-on, kept-restored}
use Rattle.recovery_rounds.specs.Rows.{IsHealing, IsAllHealed, spawn_records}

all-below : (n : ℕ) (f : ℕ → Bool) → ((i : ℕ) → i < n → f i ≡ true) → all_below n f ≡ true
all-below zero f h = refl
all-below (suc n) f h = and_from (all_below n f) (f n) (all-below n f (λ i lt. h i (omega arith))) (h n (omega arith))

-- ---- the beginning
-- spawns change nothing but which ranks are live
record AreSpawned (s : Setting) (st now : State) (rs : List ℕ) : Type 0 where
  tiles : (replay s now (spawn_records rs)).tiles ≡ now.tiles
  links : (replay s now (spawn_records rs)).links ≡ now.links
  lost : (replay s now (spawn_records rs)).lost ≡ now.lost
  back : FallsBack st (replay s now (spawn_records rs))

spawned : (s : Setting) (st now : State) (rs : List ℕ) → FallsBack st now → AreSpawned s st now rs
spawned s st now [] back = record { tiles = refl; links = refl; lost = refl; back = back }
spawned s st now (a ∷ rs) back =
    let rest = spawned s st (after s now (r.Spawn a)) rs
    (record {
      kept = back.kept;
      gone = back.gone;
      dead = λ b x h. back.dead b x (dead_before (b == a) (now.live b) h);
      mark = back.mark;
      committed = back.committed;
    }) in
    record { tiles = rest.tiles; links = rest.links; lost = rest.lost; back = rest.back }
  where
    dead_before : (c live : Bool) → (if c then true else live) ≡ false → live ≡ false
    dead_before true live h = absurd (cc)
    dead_before false live h = h

-- after a restore and the spawns of the lost ranks a recovery may begin
pub healing-begins : (s : Setting) (st now : State) (rs : List ℕ) → IsSensible s → IsLast s st → FallsBack st now → some_lost s now ≡ true → 0 < s.capacity
    → ((a : ℕ) → (replay s (after s now r.Restore) (spawn_records rs)).live a ≡ nat_lt a (ranks s)) → IsHealing s st (replay s (after s now r.Restore) (spawn_records rs))
healing-begins s st now rs sensible last back some room live =
    let x = after s now r.Restore in
    let restored : FallsBack st x = goes-on st now s r.Restore refl tt back in
    let up = spawned s st x rs restored in
    record {
      sensible = sensible;
      known = last;
      back = up.back;
      live = live;
      quiet = record { live = λ a h. live a ∙ lt-ltb a (ranks s) h; links = λ a b. ap (λ l. l a b) up.links; some = room };
      some = ap (λ l. some_below (ranks s) l) up.lost ∙ some;
      kept = λ a slot h not_lost kind. ap (λ t. t a slot) up.tiles ∙ kept-restored st now s a slot back (sym (ap (λ l. l a) up.lost) ∙ not_lost);
    }

-- ---- the end
module _ (s : Setting) (st now : State) (healing : IsHealing s st now) (healed : IsAllHealed s st now) where
  rebuilt : AreRebuilt s st.mark st now
  rebuilt = record {
    data_strips = λ line row group col live hr hg hc. (healed.rows line row group live hr hg).data_strips col hc;
    code_strips = λ line row group c live hr hg hc. (healed.rows line row group live hr hg).code_strips c hc;
    low_strips = λ line row group c live hr hg hc low. (healed.rows line row group live hr hg).low_strips c hc low;
    open_strips = λ line row group c live hr hg hc opened. (healed.rows line row group live hr hg).open_strips c hc opened;
    lists = λ line place live h. (healed.lists line live).same place h;
  }

  alike : HoldAlike s st.mark st now
  alike = rebuilt-alike s st.mark st now healing.sensible healing.known.mark rebuilt

  -- the healed commit is legal
  pub commit-legal : IsCommit s now st.mark true
  commit-legal = record {
    live = all-below (ranks s) now.live healing.quiet.live;
    empty = all-below (ranks s) (λ a. all_below (ranks s) (λ b. length (now.links a b) == 0)) (λ a h. all-below (ranks s) (λ b. length (now.links a b) == 0) (λ b k. ap (λ l. length l == 0) (healing.quiet.links a b)));
    loss = healing.some;
    next = sym healing.back.mark;
    law = law-alike s st now st.mark healing.sensible alike healing.known.rest.law;
  }

  -- and leaves on every rank exactly what the last commit left
  pub commit-leaves : (rank : ℕ) (slot : Slot) → (after s now (r.Commit st.mark true)).tiles rank slot ≡ st.tiles rank slot
  commit-leaves rank slot = commit-again s st now rank slot alike healing.known.rest

  -- so it leads back to the state of the last commit, but that ranks were spawned
  pub commit-returns : after s now (r.Commit st.mark true) ≡ record st { spawned = now.spawned }
  commit-returns = λ i. record {
    live = λ rank. (healing.live rank ∙ sym (healing.known.rest.live rank)) i;
    tiles = λ rank slot. commit-leaves rank slot i;
    saved = λ rank slot. sym (healing.known.rest.saved rank slot) i;
    fresh = λ rank slot. sym (healing.known.rest.fresh rank slot) i;
    links = λ from to. (healing.quiet.links from to ∙ sym (healing.known.rest.links from to)) i;
    mark = st.mark;
    lost = λ rank. sym (healing.known.rest.lost rank) i;
    spawned = now.spawned;
    taken = sym healing.known.rest.taken i;
    committed = healing.back.committed i;
  }
