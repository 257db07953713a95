use Rattle.std.proofs.Common.{◌≡◌, ◌++◌}
use Rattle.round_laws.specs.Turns.{each_below}
use Rattle.recovery_code.specs.Spots.{spot_seen, help_by}
use Rattle.recovery_code.proofs.mending.gain_helpers.Given as goal

abbrev pub invariant-loop-col : goal.invariant-loop-col
invariant-loop-col g l = l.round ≡ l.initial.round ++ each_below l.col (help_by (spot_seen l.place) l.which l.helping l.coefs)
