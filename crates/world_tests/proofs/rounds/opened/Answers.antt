use Rattle.std.proofs.Common.{sym}
use Rattle.world_tests.proofs.rounds.opened.Goals as goal

pub open-requires : goal.open-requires
open-requires g c = record { sound = c.requires.sound; losses = sym c.requires.losses }
