-- How many flips are pending, command by command.
use Rattle.std.proofs.Common.{◌≡◌, ℕ, ◌+◌, Bool, true, false, List, [], ◌∷◌, ◌++◌, length, refl, ap, ◌∙◌, arith}
use Rattle.std.specs.Prelude.{if◌then◌else◌, nat_lt}
use Rattle.std.specs.Str.{bytes_eq}
use Rattle.run_data.specs.declared.command.Command.{Command}
use Rattle.run_data.specs.declared.command.Command.TheVariants as c
use Rattle.run_data.specs.declared.flips.Flip.{Flip}
use Rattle.run_data.specs.Script.{Numbered}
use Rattle.run_data.specs.Flips.{pending_after, pending_from}
use Rattle.script_bounds.specs.Flipping.{count_after, count_from}

length_push : (xs : List Flip) (x : Flip) → length (xs ++ x ∷ []) ≡ length xs + 1
length_push [] x = refl
length_push (y ∷ ys) x = omega (arith, length_push ys x)

pub count-after : (line : ℕ) (d : Command) (name : List ℕ) (flips : List Flip) → length (pending_after line d name flips) ≡ count_after d name (length flips)
count-after line (c.Flip flipped i j x) name flips = by_name (bytes_eq flipped name)
  where
    by_name : (b : Bool) → length (if b then flips ++ record { line = line; row = i; column = j; error = x } ∷ [] else flips) ≡ (if b then length flips + 1 else length flips)
    by_name true = length_push flips (record { line = line; row = i; column = j; error = x })
    by_name false = refl
count-after line (c.Pverify verified) name flips = by_name (bytes_eq verified name)
  where
    by_name : (b : Bool) → length (if b then [] else flips) ≡ (if b then 0 else length flips)
    by_name true = refl
    by_name false = refl
count-after line (c.Discard dropped) name flips = by_name (bytes_eq dropped name)
  where
    by_name : (b : Bool) → length (if b then [] else flips) ≡ (if b then 0 else length flips)
    by_name true = refl
    by_name false = refl
count-after line (c.Grid made p q f) name flips = refl
count-after line (c.Matrix made grid m n mb nb rsrc csrc file) name flips = refl
count-after line (c.Pgemm transa transb m n k alpha a ia ja b ib jb beta x ic jc) name flips = refl
count-after line (c.Ptrsm side uplo transa diag m n alpha a ia ja b ib jb) name flips = refl
count-after line (c.Pgetrf m n a ia ja v) name flips = refl
count-after line (c.Pgetrs trans n nrhs a ia ja v b ib jb) name flips = refl
count-after line (c.Pgemr2d m n a ia ja b ib jb ctxt) name flips = refl
count-after line (c.Print printed) name flips = refl
count-after line (c.Pivots list) name flips = refl
count-after line (c.Topology kind) name flips = refl
count-after line (c.Links n) name flips = refl
count-after line (c.Order numbers) name flips = refl
count-after line (c.Lose at rank) name flips = refl
count-after line (c.Spares n) name flips = refl
count-after line (c.Field n) name flips = refl
count-after line (c.Ptran m n alpha a ia ja beta x ic jc) name flips = refl
count-after line (c.Pgetri n a ia ja v b ib jb) name flips = refl

pub count-from : (ns : List Numbered) (line : ℕ) (name : List ℕ) (flips : List Flip) → length (pending_from ns line name flips) ≡ count_from ns line name (length flips)
count-from [] line name flips = refl
count-from (n ∷ ns) line name flips = count-from ns line name (next (nat_lt n.line line)) ∙ ap (count_from ns line name) (step (nat_lt n.line line))
  where
    next : Bool → List Flip
    next b = if b then pending_after n.line n.command name flips else flips

    step : (b : Bool) → length (next b) ≡ (if b then count_after n.command name (length flips) else length flips)
    step true = count-after n.line n.command name flips
    step false = refl
