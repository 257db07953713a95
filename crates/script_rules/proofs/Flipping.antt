-- Whether all pending flips of a name pass a test, command by command.
use Rattle.std.proofs.Common.{◌≡◌, ◌&&◌, ℕ, Bool, true, false, List, [], ◌∷◌, ◌++◌, refl, sym, ap, ◌∙◌}
use Rattle.std.specs.Prelude.{if◌then◌else◌, nat_lt}
use Rattle.std.specs.List.{list_all}
use Rattle.std.specs.Str.{bytes_eq}
use Rattle.run_data.specs.declared.command.Command.{Command}
use Rattle.run_data.specs.declared.command.Command.TheVariants as c
use Rattle.run_data.specs.declared.flips.Flip.{Flip}
use Rattle.run_data.specs.Script.{Numbered}
use Rattle.run_data.specs.Flips.{pending_after, pending_from}
use Rattle.script_rules.specs.Flipping.{all_after, all_from}

and_assoc : (a b c : Bool) → ((a && b) && c) ≡ (a && (b && c))
and_assoc true b c = refl
and_assoc false b c = refl

all_push : (test : Flip → Bool) (xs : List Flip) (x : Flip) → list_all test (xs ++ x ∷ []) ≡ (list_all test xs && test x)
all_push test [] x = last (test x)
  where
    last : (b : Bool) → (b && true) ≡ (true && b)
    last true = refl
    last false = refl
all_push test (y ∷ ys) x = ap (λ b. test y && b) (all_push test ys x) ∙ sym (and_assoc (test y) (list_all test ys) (test x))

-- one command more
pub all-after : (line : ℕ) (command : Command) (name : List ℕ) (test : Flip → Bool) (before : List Flip) → list_all test (pending_after line command name before) ≡ all_after line command name test (list_all test before)
all-after line (c.Flip flipped i j x) name test before = by_name (bytes_eq flipped name)
  where
    by_name : (b : Bool) → list_all test (if b then before ++ record { line = line; row = i; column = j; error = x } ∷ [] else before) ≡ (if b then list_all test before && test (record { line = line; row = i; column = j; error = x }) else list_all test before)
    by_name true = all_push test before (record { line = line; row = i; column = j; error = x })
    by_name false = refl
all-after line (c.Pverify verified) name test before = by_name (bytes_eq verified name)
  where
    by_name : (b : Bool) → list_all test (if b then [] else before) ≡ (if b then true else list_all test before)
    by_name true = refl
    by_name false = refl
all-after line (c.Discard dropped) name test before = by_name (bytes_eq dropped name)
  where
    by_name : (b : Bool) → list_all test (if b then [] else before) ≡ (if b then true else list_all test before)
    by_name true = refl
    by_name false = refl
all-after line (c.Grid made p q f) name test before = refl
all-after line (c.Matrix made grid m n mb nb rsrc csrc file) name test before = refl
all-after line (c.Pgemm transa transb m n k alpha a ia ja b ib jb beta x ic jc) name test before = refl
all-after line (c.Ptrsm side uplo transa diag m n alpha a ia ja b ib jb) name test before = refl
all-after line (c.Pgetrf m n a ia ja v) name test before = refl
all-after line (c.Pgetrs trans n nrhs a ia ja v b ib jb) name test before = refl
all-after line (c.Pgemr2d m n a ia ja b ib jb ctxt) name test before = refl
all-after line (c.Print printed) name test before = refl
all-after line (c.Pivots list) name test before = refl
all-after line (c.Topology kind) name test before = refl
all-after line (c.Links n) name test before = refl
all-after line (c.Order numbers) name test before = refl
all-after line (c.Lose at rank) name test before = refl
all-after line (c.Spares n) name test before = refl
all-after line (c.Field n) name test before = refl
all-after line (c.Ptran m n alpha a ia ja beta x ic jc) name test before = refl
all-after line (c.Pgetri n a ia ja v b ib jb) name test before = refl

-- all commands
pub all-from : (ns : List Numbered) (line : ℕ) (name : List ℕ) (test : Flip → Bool) (before : List Flip) → list_all test (pending_from ns line name before) ≡ all_from ns line name test (list_all test before)
all-from [] line name test before = refl
all-from (n ∷ ns) line name test before =
    all-from ns line name test (next (nat_lt n.line line)) ∙ ap (all_from ns line name test) (step (nat_lt n.line line))
  where
    next : Bool → List Flip
    next b = if b then pending_after n.line n.command name before else before

    step : (b : Bool) → list_all test (next b) ≡ (if b then all_after n.line n.command name test (list_all test before) else list_all test before)
    step true = all-after n.line n.command name test before
    step false = refl
