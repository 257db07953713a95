use Rattle.pblas.proofs.Loop.{IsUpTo}
use Rattle.pblas.proofs.products.pgemm.Given as goal

abbrev pub invariant-loop-group : goal.invariant-loop-group
invariant-loop-group g l = IsUpTo l.script l.initial.world.files l.done l.group l.world l.site l.out
