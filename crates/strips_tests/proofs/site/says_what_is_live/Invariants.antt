use Rattle.std.proofs.Common.{◌≡◌}
use Rattle.strips_tests.proofs.site.says_what_is_live.Given as goal

abbrev pub invariant-loop-mark : goal.invariant-loop-mark
invariant-loop-mark g l = l.site.script ≡ l.initial.site.script
