use Rattle.rank_machine.specs.declared.record.Rec.TheVariants.{Take}
use Rattle.world_tests.proofs.FedStrips.{look_after}
use Rattle.world_tests.proofs.fed_strips.run_and_look.Goals as goal

pub look-requires : goal.look-requires
look-requires c =
    look_after c.args.world.now c.run.new.self c.args.round.now c.new-order.result c.run.new.order c.in_ok-run.field-0 (Take c.args.rank c.args.slot) c.in-Whole.is c.in_ok-run.ensures c.requires.look
