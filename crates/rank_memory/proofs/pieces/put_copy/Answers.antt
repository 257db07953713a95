use Rattle.std.proofs.Common.{◌∙◌}
use Rattle.rank_slots.proofs.PieceLaws.{copied_part}
use Rattle.rank_memory.proofs.pieces.put_copy.Goals as goal

pub returns : goal.returns
returns c = c.put_part.ensures ∙ copied_part _ _ _ _ c.requires.dst_part c.requires.shape
