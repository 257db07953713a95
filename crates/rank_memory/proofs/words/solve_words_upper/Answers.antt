use Rattle.rank_machine.specs.Effect.{area}
use Rattle.rank_slots.proofs.TestLaws.{diagonal_not_zero}
use Rattle.rank_memory.proofs.Areas.{within_at, solves_at}
use Rattle.rank_memory.proofs.words.solve_words_upper.Goals as goal

pub solve_upper-requires-clause-nonzero : goal.solve_upper-requires-clause-nonzero
solve_upper-requires-clause-nonzero g c = rw c.area_of.ensures (diagonal_not_zero c.args.block.now (area c.args.x c.args.block.now) c.args.unit c.requires.divisors)

pub solve_upper-requires-clause-dst_part : goal.solve_upper-requires-clause-dst_part
solve_upper-requires-clause-dst_part g c = within_at _ _ c.args.dst.now c.area_of-at.ensures c.requires.dst_in

pub solve_upper-requires-clause-block_part : goal.solve_upper-requires-clause-block_part
solve_upper-requires-clause-block_part g c = within_at _ _ c.args.block.now c.area_of.ensures c.requires.block_in

pub solve_upper-requires-clause-shape : goal.solve_upper-requires-clause-shape
solve_upper-requires-clause-shape g c = solves_at _ _ _ _ c.area_of-at.ensures c.area_of.ensures c.requires.shape

pub solve_upper-requires-clause-dst_words : goal.solve_upper-requires-clause-dst_words
solve_upper-requires-clause-dst_words g c = c.requires.dst_words

pub solve_upper-requires-clause-block_words : goal.solve_upper-requires-clause-block_words
solve_upper-requires-clause-block_words g c = c.requires.block_words
