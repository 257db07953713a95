use Rattle.elimination.proofs.Pieces.{put_is}
use Rattle.elimination.proofs.columns.put_columns.Goals as goal

pub returns : goal.returns
returns c = put_is _ _ _ c.args.c0 c.args.c1 _ c.rows-2.result c.cols.result c.rows.ensures.value c.put_part.ensures
