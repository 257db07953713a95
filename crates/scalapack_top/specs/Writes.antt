-- What is written, and what became of it.
use Rattle.std.specs.Prelude.{◌≡◌, ℕ, Bool, true, false, List, [], ◌∷◌, Option, MatchBool}
use Rattle.io_edge.specs.Sink.{Kept, PutTold, PutCause}
use Rattle.scalapack_top.specs.declared.status.Status.{Status}
use Rattle.scalapack_top.specs.declared.status.Status.TheVariants as status

-- the bytes for the three sinks
pub record Output : Type 0 where
  pub out : List ℕ
  pub err : List ℕ
  pub journal : List ℕ

-- one put of the bytes; a put of no bytes isn't made
abbrev pub Puts : {S : Type 0} → (S → Option Kept) → (S → ℕ) → S → S → List ℕ → Bool → Type 0
Puts told faults old new [] ok = (new ≡ old) × (ok ≡ true)
Puts told faults old new (b ∷ bs) ok = PutTold (b ∷ bs) ok (told old) (told new) × PutCause (faults old) (faults new) ok

-- one put of the bytes where the puts before went well, and else nothing
abbrev pub PutsIf : {S : Type 0} → (S → Option Kept) → (S → ℕ) → S → S → List ℕ → Bool → Bool → Type 0
PutsIf told faults old new bytes going ok = MatchBool going (Puts told faults old new bytes ok) ((new ≡ old) × (ok ≡ false))

-- the status after the writes
abbrev pub written : Status → Bool → Status
written answer true = answer
written answer false = status.WriteFault

-- the puts of an output in order: out, err and journal, and nothing after one that failed
pub record AllPut {O E J : Type 0} (o-told : O → Option Kept) (o-faults : O → ℕ) (e-told : E → Option Kept) (e-faults : E → ℕ) (j-told : J → Option Kept) (j-faults : J → ℕ)
    (o o' : O) (e e' : E) (j j' : J) (output : Output) (ok : Bool) : Type 0 where
  pub first : Bool
  pub second : Bool
  pub out : Puts o-told o-faults o o' output.out first
  pub err : PutsIf e-told e-faults e e' output.err first second
  pub journal : PutsIf j-told j-faults j j' output.journal second ok
