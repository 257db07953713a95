use Rattle.std.proofs.Common.{◌∙◌, ◌-◌, ◌^◌, min, ap, subst}
use Rattle.rank_run.specs.Machine.{machine}
use Rattle.rank_slots.specs.Cells.{AreOrdered, words_of_cells}
use Rattle.block_world.specs.Ranks.{cells_at}
use Rattle.block_world.specs.Rounds.{AreWordsHeld}
use Rattle.block_world.specs.Replay.{view_of}
use Rattle.block_world.specs.World.{setting_in, state_of}
use Rattle.block_world.proofs.Words.{words_held}
use Rattle.block_world.proofs.world.World.words_held.Goals as goal

pub returns : goal.returns
returns g c =
    let w = c.self.inside in
    let now = view_of w.script.now w.files.now w.keeper in
    let i = c.self.invariant in
    let rank = c.args.rank in
    let ordered = subst (λ ms. AreOrdered (cells_at ms rank)) c.deref.ensures.value c.words_on.ensures.ordered in (
      words_of_cells (cells_at w.mems.items rank),
      subst (λ v. AreWordsHeld (state_of v) rank (words_of_cells (cells_at w.mems.items rank))) c.self.view_is (words_held (setting_in now) i.table (machine w.mems.items w.links) (state_of now) rank i.stands ordered),
      c.words_on.ensures.count ∙ ap (λ ms. min (words_of_cells (cells_at ms rank)) (2 ^ 64 - 1)) c.deref.ensures.value,
    )
