use Rattle.std.proofs.Common.{[], ◌∷◌, ◌∙◌}
use Rattle.rank_machine.specs.declared.slot.Tile.TheVariants.{Words, Index}
use Rattle.rank_slots.specs.Rank.{with_tile}
use Rattle.memory_tests.specs.Example.{data_slot, list_slot, sparse_slot, work_slot}
use Rattle.memory_tests.proofs.memory.rank.Goals as goal

pub returns : goal.returns
returns g c =
    let none = c.empty-mem.ensures in
    let strip = c.put_words.ensures ∙ (λ n. with_tile (none n) data_slot (Words (c.strip.ensures n))) in
    let square = c.put_words-2.ensures ∙ (λ n. with_tile (strip n) (work_slot 1) (Words (c.square.ensures n))) in
    let wide = c.put_words-3.ensures ∙ (λ n. with_tile (square n) (work_slot 5) (Words (c.wide.ensures n))) in
    let sparse = c.put_words-4.ensures ∙ (λ n. with_tile (wide n) sparse_slot (Words (c.sparse.ensures n))) in
    let pivots = c.put_number.ensures ∙ (λ n. with_tile (sparse n) list_slot (Index (1 ∷ []))) in
    let five = c.put_number-2.ensures ∙ (λ n. with_tile (pivots n) (work_slot 2) (Index (5 ∷ []))) in
    let three = c.put_number-3.ensures ∙ (λ n. with_tile (five n) (work_slot 3) (Index (3 ∷ []))) in
    c.put_number-4.ensures ∙ (λ n. with_tile (three n) (work_slot 4) (Index (2048 ∷ [])))
