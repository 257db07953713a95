-- How a recovery begins, what losses in its midst leave, what its commit leaves, and where the words are on the way.
use Rattle.std.proofs.Common.{◌≡◌, ◌+◌, ◌≤◌, ◌==◌, ℕ, Bool, true, false, Option, None, List, [], ◌∷◌, refl, ap, sym, ⊎_elim, arith}
use Rattle.std.specs.Prelude.{if◌then◌else◌}
use Rattle.std.proofs.lemmas.Bool.{cases_Bool}
use Rattle.rank_machine.specs.declared.slot.Slot.{Slot}
use Rattle.rank_machine.specs.declared.slot.Tile.{Tile}
use Rattle.rank_machine.specs.declared.mark.Mark.{Mark}
use Rattle.rank_machine.specs.declared.record.Rec.TheVariants as r
use Rattle.rank_machine.specs.Setting.{Setting}
use Rattle.rank_machine.specs.State.{State, same_slot}
use Rattle.rank_machine.specs.Effect.{after, replay, is_live}
use Rattle.rank_machine.specs.Held.{size_of}
use Rattle.run_laws.specs.LastCommit.{IsRest}
use Rattle.run_laws.specs.Traces.{AllHold}
use Rattle.run_laws.proofs.Words.{hold-no_more}
use Rattle.phases.specs.Words.{live_tile}
use Rattle.recovery_laws.specs.Healed.{FallsBack}
use Rattle.recovery_laws.proofs.FallingBack.{kept-restored, gone-restored}
use Rattle.recovery_rounds.specs.Mending.{brought}
use Rattle.recovery_rounds.specs.Rows.{spawn_records}
use Rattle.recovery_words.specs.Roomy.{IsRoomy}

-- what ranks held at the last commit leaves room
same-roomy : (s : Setting) (last now : State) → ((rank : ℕ) (slot : Slot) → size_of (now.tiles rank slot) ≤ size_of (last.tiles rank slot)) → ((rank : ℕ) (slot : Slot) → now.saved rank slot ≡ None) → IsRoomy s last now
same-roomy s last now h saved = record { fits = λ rank slot. omega (arith, h rank slot); saved = saved }

restored-roomy : (s : Setting) (last now : State) → FallsBack last now → IsRoomy s last (after s now r.Restore)
restored-roomy s last now back =
    same-roomy s last (after s now r.Restore)
    (λ rank slot.
    ⊎_elim
    (λ (lost : now.lost rank ≡ true). let none : size_of ((after s now r.Restore).tiles rank slot) ≡ 0 = ap size_of (gone-restored last now s rank slot back lost) in omega (arith, none))
    (λ (kept : now.lost rank ≡ false). let same : size_of ((after s now r.Restore).tiles rank slot) ≡ size_of (last.tiles rank slot) = ap size_of (kept-restored last now s rank slot back kept) in omega (arith, same))
    (cases_Bool (now.lost rank)))
    (λ rank slot. refl)

spawned-roomy : (s : Setting) (last now : State) (lost : List ℕ) → IsRoomy s last now → IsRoomy s last (replay s now (spawn_records lost))
spawned-roomy s last now [] h = h
spawned-roomy s last now (rank ∷ lost) h = spawned-roomy s last (after s now (r.Spawn rank)) lost (record { fits = h.fits; saved = h.saved })

pub begins-roomy : (s : Setting) (last now : State) (lost : List ℕ) → FallsBack last now → IsRoomy s last (replay s (after s now r.Restore) (spawn_records lost))
begins-roomy s last now lost back = spawned-roomy s last (after s now r.Restore) lost (restored-roomy s last now back)

-- ---- losses
size_left : (lost : Bool) (t : Option Tile) → size_of (if lost then None else t) ≤ size_of t
size_left true t = omega arith
size_left false t = omega arith

none_left : (lost : Bool) (t : Option Tile) → t ≡ None → (if lost then None else t) ≡ None
none_left true t e = refl
none_left false t e = e

pub loss-roomy : (s : Setting) (last now : State) (lost : ℕ) → IsRoomy s last now → IsRoomy s last (after s now (r.Lose lost))
loss-roomy s last now lost h =
    record {
      fits = λ rank slot. (let left = size_left (rank == lost) (now.tiles rank slot) in omega (arith, left, h.fits rank slot));
      saved = λ rank slot. none_left (rank == lost) (now.saved rank slot) (h.saved rank slot);
    }

-- ---- the commit
size_committed : (live : Bool) (t u : Option Tile) → size_of (if live then t else None) + 0 ≤ size_of t + size_of u
size_committed true t u = omega arith
size_committed false t u = omega arith

-- under the same mark it leaves what is live, and nothing is saved then
pub commit-holds : (s : Setting) (now : State) (mark : Mark) → now.mark ≡ mark → AllHold s now → AllHold s (after s now (r.Commit mark true))
commit-holds s now mark e h rank lt =
    hold-no_more now (after s now (r.Commit mark true)) rank s (sym e) (λ slot. size_committed (is_live s mark rank slot) (now.tiles rank slot) (now.saved rank slot)) (h rank lt)

-- ---- where the words are
pub no_words-elsewhere : (s : Setting) (last now : State) → IsRest s last → IsRoomy s last now → (rank : ℕ) (slot : Slot) → is_live s last.mark rank slot ≡ false → same_slot slot brought ≡ false → size_of (now.tiles rank slot) ≡ 0
no_words-elsewhere s last now rest roomy rank slot dead other =
    let none : size_of (last.tiles rank slot) ≡ 0 = ap size_of (rest.nothing_else rank slot dead) in
    let no_room : (if same_slot slot brought then live_tile s last.mark s.jobs else 0) ≡ 0 = ap (λ b. if b then live_tile s last.mark s.jobs else 0) other in
    omega (arith, roomy.fits rank slot, none, no_room)
