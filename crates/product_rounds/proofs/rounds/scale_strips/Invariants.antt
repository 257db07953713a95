use Rattle.std.proofs.Common.{◌≡◌, ◌++◌}
use Rattle.round_laws.specs.Turns.{each_below}
use Rattle.product_rounds.specs.Rounds.{scale_column}
use Rattle.product_rounds.proofs.rounds.scale_strips.Given as goal

abbrev pub invariant-loop-col : goal.invariant-loop-col
invariant-loop-col g l = l.round ≡ l.initial.round ++ each_below l.col (scale_column l.x)
