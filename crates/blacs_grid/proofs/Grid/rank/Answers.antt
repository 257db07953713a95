use Rattle.blacs_grid.proofs.PlaceLaws.{row_of-rank_at, col_of-rank_at}
use Rattle.blacs_grid.proofs.Grid.rank.Goals as goal

pub returns-clause-at_row : goal.returns-clause-at_row
returns-clause-at_row c = rw c.width.ensures (row_of-rank_at c.args.self.now c.args.row c.args.col c.requires.col_in)

pub returns-clause-at_col : goal.returns-clause-at_col
returns-clause-at_col c = rw c.width.ensures (col_of-rank_at c.args.self.now c.args.row c.args.col c.requires.col_in)
