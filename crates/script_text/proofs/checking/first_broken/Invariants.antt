use Rattle.script_text.proofs.Places.{IsChecked}
use Rattle.script_text.proofs.checking.first_broken.Given as goal

abbrev pub invariant-loop-place : goal.invariant-loop-place
invariant-loop-place l = IsChecked l.told l.script l.place l.counts
