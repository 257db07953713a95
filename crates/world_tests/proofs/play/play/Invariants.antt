use Rattle.std.proofs.Common.{◌≡◌, true, drop}
use Rattle.block_world.specs.World.{setting_in}
use Rattle.world_tests.specs.Play.{may_play}
use Rattle.world_tests.proofs.play.play.Given as goal

abbrev pub invariant-loop-i : goal.invariant-loop-i
invariant-loop-i l = record {
  setting : setting_in l.world ≡ setting_in l.fn.world;
  legal : may_play (setting_in l.fn.world) l.world.journal (drop l.i l.records) ≡ true;
}
