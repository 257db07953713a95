use Rattle.std.proofs.Common.{◌∙◌}
use Rattle.run_data.specs.Parts.{part_of, with_copy}
use Rattle.rank_machine.specs.Effect.{area}
use Rattle.rank_slots.specs.Shapes.{from_corner}
use Rattle.rank_memory.proofs.reads.copy_from.Goals as goal

pub words_at-m-requires : goal.words_at-m-requires
words_at-m-requires c =
    c.requires.pair.from_held

pub copy_words-requires-clause-dst_in : goal.copy_words-requires-clause-dst_in
copy_words-requires-clause-dst_in c =
    rw c.area_of-at.ensures c.requires.pair.inside

pub copy_words-requires-clause-src_in : goal.copy_words-requires-clause-src_in
copy_words-requires-clause-src_in c =
    rw c.words_at-m.ensures c.requires.pair.from_inside

pub copy_words-requires-clause-shape : goal.copy_words-requires-clause-shape
copy_words-requires-clause-shape c =
    rw (c.area_of-at.ensures, c.words_at-m.ensures) c.requires.shape

pub returns : goal.returns
returns c =
    let at = c.area_of-at.ensures in
    let w = c.words_at-m.ensures in
    c.copy_words.ensures ∙ (λ n. with_copy c.args.dst.now (at n) (part_of (w n) (area c.args.from (w n))) (from_corner (at n)))
