-- The bound of a script with losses, computed.
use Rattle.std.proofs.Common.{◌≡◌, List, [], ◌∷◌, Some, Option, refl}
use Rattle.std.specs.Prelude.{codes}
use Rattle.run_data.specs.declared.command.Command.{Command}
use Rattle.run_data.specs.declared.command.Command.TheVariants as c
use Rattle.run_data.specs.Script.{commands_of}
use Rattle.script_bounds.specs.Bounds.{plain_bound, phase_steps, recovery_steps, losses, bound}

-- grid g 2 3 2 / matrix A g 256 256 16 16 0 1 a / matrix B g 256 4 16 16 0 0 b / links 1 / order 3 1 4 1 5 9 2 6 / pgetrf 256 256 A 1 1 V
-- / pgetrs N 256 4 A 1 1 V B 1 1 / pivots V / print A / print B / lose 1000 0 / lose 30000 7 / lose 60000 4
abbrev pub factorization : List (Option Command)
factorization =
    Some (c.Grid (codes "g") 2 3 2)
    ∷ Some (c.Matrix (codes "A") (codes "g") 256 256 16 16 0 1 (codes "a"))
    ∷ Some (c.Matrix (codes "B") (codes "g") 256 4 16 16 0 0 (codes "b"))
    ∷ Some (c.Links 1)
    ∷ Some (c.Order (3 ∷ 1 ∷ 4 ∷ 1 ∷ 5 ∷ 9 ∷ 2 ∷ 6 ∷ []))
    ∷ Some (c.Pgetrf 256 256 (codes "A") 1 1 (codes "V"))
    ∷ Some (c.Pgetrs (codes "N") 256 4 (codes "A") 1 1 (codes "V") (codes "B") 1 1)
    ∷ Some (c.Pivots (codes "V"))
    ∷ Some (c.Print (codes "A"))
    ∷ Some (c.Print (codes "B"))
    ∷ Some (c.Lose 1000 0)
    ∷ Some (c.Lose 30000 7)
    ∷ Some (c.Lose 60000 4) ∷ []

pub factorization-bound : bound (commands_of factorization) ≡ 129537
unfolding bound plain_bound phase_steps recovery_steps losses
factorization-bound = refl

-- grid g 2 2 2 / matrix A g 6 6 2 2 0 0 a / matrix B g 6 5 2 2 0 0 b / matrix C g 5 6 2 2 0 0 c / ptran 6 5 2 C 1 1 1 B 1 1 / ptrsm L L T U 6 5 1 A 1 1 B 1 1
-- / ptrsm R U N N 5 6 1 A 1 1 C 1 1 / pgetrf 6 6 A 1 1 V / pgetrs T 6 5 A 1 1 V B 1 1 / matrix D g 6 6 2 3 0 0 d / pgetri 6 A 1 1 V D 1 1
-- / flip B 1 1 3 / flip B 2 1 3 / pverify B / lose 5 0
abbrev pub turned_forms : List (Option Command)
turned_forms =
    Some (c.Grid (codes "g") 2 2 2)
    ∷ Some (c.Matrix (codes "A") (codes "g") 6 6 2 2 0 0 (codes "a"))
    ∷ Some (c.Matrix (codes "B") (codes "g") 6 5 2 2 0 0 (codes "b"))
    ∷ Some (c.Matrix (codes "C") (codes "g") 5 6 2 2 0 0 (codes "c"))
    ∷ Some (c.Ptran 6 5 2 (codes "C") 1 1 1 (codes "B") 1 1)
    ∷ Some (c.Ptrsm (codes "L") (codes "L") (codes "T") (codes "U") 6 5 1 (codes "A") 1 1 (codes "B") 1 1)
    ∷ Some (c.Ptrsm (codes "R") (codes "U") (codes "N") (codes "N") 5 6 1 (codes "A") 1 1 (codes "C") 1 1)
    ∷ Some (c.Pgetrf 6 6 (codes "A") 1 1 (codes "V"))
    ∷ Some (c.Pgetrs (codes "T") 6 5 (codes "A") 1 1 (codes "V") (codes "B") 1 1)
    ∷ Some (c.Matrix (codes "D") (codes "g") 6 6 2 3 0 0 (codes "d"))
    ∷ Some (c.Pgetri 6 (codes "A") 1 1 (codes "V") (codes "D") 1 1)
    ∷ Some (c.Flip (codes "B") 1 1 3)
    ∷ Some (c.Flip (codes "B") 2 1 3)
    ∷ Some (c.Pverify (codes "B"))
    ∷ Some (c.Lose 5 0) ∷ []

pub turned_forms-bound : bound (commands_of turned_forms) ≡ 6037
unfolding bound plain_bound phase_steps recovery_steps losses
turned_forms-bound = refl
