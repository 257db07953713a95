use Rattle.std.proofs.Common.{◌∙◌}
use Rattle.rank_machine.specs.declared.slot.Tile.TheVariants.{Words}
use Rattle.rank_slots.specs.Rank.{with_tile}
use Rattle.memory_tests.specs.Example.{data_slot, work_slot}
use Rattle.memory_tests.proofs.memory.upper_rank.Goals as goal

pub returns : goal.returns
returns g c =
    let none = c.empty-mem.ensures in
    let strip = c.put_words.ensures ∙ (λ n. with_tile (none n) data_slot (Words (c.square.ensures n))) in
    c.put_words-2.ensures ∙ (λ n. with_tile (strip n) (work_slot 1) (Words (c.square-2.ensures n)))
