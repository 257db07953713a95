-- One journal after another.
use Rattle.std.proofs.Common.{◌≡◌, List, [], ◌∷◌, ◌++◌, refl}
use Rattle.rank_machine.specs.declared.record.Rec.{Rec}
use Rattle.rank_machine.specs.Setting.{Setting}
use Rattle.rank_machine.specs.State.{State}
use Rattle.rank_machine.specs.Effect.{after, replay}
use Rattle.rank_machine.specs.Legal.{IsLegalFrom}

pub replay-append : (s : Setting) (st : State) (xs ys : List Rec) → replay s st (xs ++ ys) ≡ replay s (replay s st xs) ys
replay-append s st [] ys = refl
replay-append s st (x ∷ xs) ys = replay-append s (after s st x) xs ys

pub IsLegalFrom-append : (s : Setting) (st : State) (xs ys : List Rec) → IsLegalFrom s st xs → IsLegalFrom s (replay s st xs) ys → IsLegalFrom s st (xs ++ ys)
IsLegalFrom-append s st [] ys legal next = next
IsLegalFrom-append s st (x ∷ xs) ys legal next = (legal.0, IsLegalFrom-append s (after s st x) xs ys legal.1 next)
