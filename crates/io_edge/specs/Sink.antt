-- What a sink that tells its bytes keeps, and what a put does to any sink.
use Rattle.std.specs.Prelude.{◌≡◌, ℕ, ◌+◌, ◌≤◌, Bool, true, false, ◌||◌, nat_lt, List, ◌++◌, length, take, Option, Some, None}
use Rattle.io_edge.specs.Causes.{counted, Rose, is_planned}

-- what a sink that tells keeps: its bytes so far, the number of its puts so far, the numbers of the puts that are to fail, and how many bytes still fit
pub record Kept : Type 0 where
  pub bytes : List ℕ
  pub calls : ℕ
  pub planned : List ℕ
  pub left : ℕ

-- whether the next put fails: it is planned to, or there are more bytes than fit
abbrev pub put_fails : Kept → List ℕ → Bool
put_fails kept bytes = is_planned kept.planned kept.calls || nat_lt kept.left (length bytes)

-- the first n of the bytes were appended, and lowered what still fits; the call was counted, and the plan stays
pub record AppendsFirst (n : ℕ) (bytes : List ℕ) (old new : Kept) : Type 0 where
  pub bytes_are : new.bytes ≡ old.bytes ++ take n bytes
  pub enough : n ≤ length bytes
  pub left_is : new.left + n ≡ old.left
  pub calls_is : new.calls ≡ counted old.calls
  pub planned_is : new.planned ≡ old.planned

-- a put of the bytes that went well or not: a prefix was appended, all of them where it went well, and it failed exactly where it had to
pub record Put (bytes : List ℕ) (ok : Bool) (old new : Kept) : Type 0 where
  pub count : ℕ
  pub appends : AppendsFirst count bytes old new
  pub whole : ok ≡ true → count ≡ length bytes
  pub fails : put_fails old bytes ≡ true → ok ≡ false
  pub goes : put_fails old bytes ≡ false → ok ≡ true

-- the same where the sink tells; a sink that tells goes on telling, and one that doesn't begins at no call
abbrev pub PutTold : List ℕ → Bool → Option Kept → Option Kept → Type 0
PutTold bytes ok None None = Unit {0}
PutTold bytes ok (Some old) (Some new) = Put bytes ok old new
PutTold bytes ok None (Some new) = ⊥
PutTold bytes ok (Some old) None = ⊥

-- the count of a sink before and after a put: it doesn't fall, and a failure has raised it
pub record PutCause (before now : ℕ) (ok : Bool) : Type 0 where
  pub never_falls : before ≤ now
  pub failed : ok ≡ false → Rose before now
