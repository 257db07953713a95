use Rattle.std.proofs.Common.{subst, List}
use Rattle.rank_run.specs.Action.{Action}
use Rattle.rank_machine.specs.declared.slot.Piece.{Piece}
use Rattle.rank_machine.specs.declared.kernel.Kernel.{Kernel}
use Rattle.block_world.specs.Rounds.{IsRoundOf}
use Rattle.world_heal.proofs.RowSteps.{grid-on}
use Rattle.world_heal.proofs.ListSteps.{list-row_few, list-ranks, list-allowed, list-mended, list-hit}
use Rattle.world_heal.proofs.lists.mend_list.Goals as goal

pub copies-requires : goal.copies-requires
copies-requires g c =
    let w = c.args.world.now in
    let on = grid-on w c.args.table.now c.args.asked.now.factors c.layout_at.result c.requires.table c.layout_at.ensures.value in
    record { grid = c.layout_at.ensures.sound.grid; few_lost = list-row_few w c.args.asked.now.line c.args.asked.now.factors c.layout_at.result.grid c.requires.mending c.requires.live c.requires.factors on }

pub run-requires : goal.run-requires
run-requires g c =
    let w = c.args.world.now in
    let on = grid-on w c.args.table.now c.args.asked.now.factors c.layout_at.result c.requires.table c.layout_at.ensures.value in
    record {
      links = c.requires.mending.healing.quiet.links;
      ranks = list-ranks w c.args.asked.now.line c.args.asked.now.factors c.layout_at.result.grid c.in_ok-round.round c.requires.mending c.requires.live c.requires.factors on c.in_ok-round.ensures;
      legal = list-allowed w c.args.asked.now.line c.args.asked.now.factors c.layout_at.result.grid c.in_ok-round.round c.requires.mending c.requires.live c.requires.factors on c.in_ok-round.ensures;
    }

pub returns-in-Whole : goal.returns-in-Whole
returns-in-Whole g c =
    let w = c.args.world.now in
    let w' = c.run.new.self in
    let on = grid-on w c.args.table.now c.args.asked.now.factors c.layout_at.result c.requires.table c.layout_at.ensures.value in
    list-mended w c.args.asked.now.line c.args.asked.now.factors c.layout_at.result.grid c.in_ok-round.round c.requires.mending c.requires.live c.requires.factors on c.in_ok-round.ensures w' c.args.order.now c.run.new.order
    (subst (λ e. (ts : List (Action Kernel Piece)) × IsRoundOf w w' c.in_ok-round.round c.args.order.now c.run.new.order e ts) c.in-Whole.is c.in_ok-run.ensures)

pub returns : goal.returns
returns g c =
    let w = c.args.world.now in
    let w' = c.run.new.self in
    let on = grid-on w c.args.table.now c.args.asked.now.factors c.layout_at.result c.requires.table c.layout_at.ensures.value in
    list-hit w c.args.asked.now.line c.args.asked.now.factors c.layout_at.result.grid c.in_ok-round.round c.requires.mending c.requires.live c.requires.factors on c.in_ok-round.ensures w' c.args.order.now c.run.new.order
    (subst (λ e. (ts : List (Action Kernel Piece)) × IsRoundOf w w' c.in_ok-round.round c.args.order.now c.run.new.order e ts) c.in-Hit.is c.in_ok-run.ensures)
