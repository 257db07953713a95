use Rattle.std.proofs.Common.{◌≡◌, drop}
use Rattle.std.specs.Ordering.{nat_cmp}
use Rattle.std.specs.FinMap as map
use Rattle.run_data.specs.Files.{pairs_of}
use Rattle.run_data.proofs.files.find.Given as goal

abbrev pub invariant-loop-entry : goal.invariant-loop-entry
invariant-loop-entry l = map.find nat_cmp l.line (pairs_of (drop l.entry-index l.entries)) ≡ map.find nat_cmp l.line (pairs_of l.entries)
