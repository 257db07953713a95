use Rattle.std.proofs.Common.{◌≡◌, ◌≤◌, suc, drop, length}
use Rattle.run_data.specs.Script.{commands_from, commands_of}
use Rattle.run_data.specs.Flips.{pending}
use Rattle.script_bounds.specs.Flipping.{count_from}
use Rattle.script_bounds.proofs.flips.pending_flips.Given as goal

abbrev pub invariant-loop-i : goal.invariant-loop-i
invariant-loop-i l =
    (count_from (commands_from (suc l.i) (drop l.i l.lines)) l.line l.name l.flips ≡ length (pending (commands_of l.script) l.line l.name)) × (l.flips ≤ l.i)
