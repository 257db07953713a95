use Rattle.std.proofs.Common.{sym, ap, subst, All}
use Rattle.rank_run.specs.Parts.{IsWithin}
use Rattle.rank_machine.specs.Setting.{ranks}
use Rattle.rank_machine.specs.Legal.{IsLegalFrom}
use Rattle.rank_slots.specs.Stands.{records_of}
use Rattle.block_world.specs.World.{setting_in, state_of}
use Rattle.world_tests.proofs.rounds.run_of.Goals as goal

pub opened-world-requires : goal.opened-world-requires
opened-world-requires g c = record { sound = c.requires.sound; losses = c.requires.losses }

pub run-requires : goal.run-requires
run-requires g c =
    let e = c.opened-world.ensures in
    let es = c.args.round.now in
    record {
      links = λ from to. ap (λ w. (state_of w).links from to) e;
      ranks = subst (λ w. All (IsWithin (ranks (setting_in w))) es) (sym e) c.requires.ranks;
      legal = subst (λ w. IsLegalFrom (setting_in w) (state_of w) (records_of es)) (sym e) c.requires.legal;
    }
