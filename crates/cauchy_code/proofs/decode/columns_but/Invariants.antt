use Rattle.std.proofs.Common.{◌≡◌, ◌++◌, drop}
use Rattle.cauchy_code.specs.Solving.{lost_but}
use Rattle.cauchy_code.proofs.decode.columns_but.Given as goal

abbrev pub invariant-loop-is_lost : goal.invariant-loop-is_lost
invariant-loop-is_lost l =
    record {
      place : l.col ≡ l.is_lost-index;
      so_far : l.columns.items ++ lost_but l.which l.col (drop l.is_lost-index l.lost) ≡ lost_but l.which 0 l.lost;
    }
