-- A journal with one more record.
use Rattle.std.proofs.Common.{◌≡◌, List, [], ◌∷◌, ◌++◌, refl}
use Rattle.rank_machine.specs.declared.record.Rec.{Rec}
use Rattle.rank_machine.specs.Setting.{Setting}
use Rattle.rank_machine.specs.State.{State, opened}
use Rattle.rank_machine.specs.Effect.{after, replay, state_after}
use Rattle.rank_machine.specs.Legal.{IsLegalRec, IsLegalFrom, IsLegal}

pub replay-push : (s : Setting) (st : State) (journal : List Rec) (x : Rec) → replay s st (journal ++ x ∷ []) ≡ after s (replay s st journal) x
replay-push s st [] x = refl
replay-push s st (y ∷ ys) x = replay-push s (after s st y) ys x

-- the state after one more record
pub state_after-push : (s : Setting) (journal : List Rec) (x : Rec) → state_after s (journal ++ x ∷ []) ≡ after s (state_after s journal) x
state_after-push s journal x = replay-push s (opened s) journal x

pub IsLegalFrom-push : (s : Setting) (st : State) (journal : List Rec) (x : Rec) → IsLegalFrom s st journal → IsLegalRec s (replay s st journal) x → IsLegalFrom s st (journal ++ x ∷ [])
IsLegalFrom-push s st [] x legal next = (next, tt)
IsLegalFrom-push s st (y ∷ ys) x legal next = (legal.0, IsLegalFrom-push s (after s st y) ys x legal.1 next)

-- a legal journal and a record that is legal in the state after it
pub IsLegal-push : (s : Setting) (journal : List Rec) (x : Rec) → IsLegal s journal → IsLegalRec s (state_after s journal) x → IsLegal s (journal ++ x ∷ [])
IsLegal-push s journal x legal next = IsLegalFrom-push s (opened s) journal x legal next
