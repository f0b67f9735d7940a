use Rattle.shape_desk.proofs.RowTable.{row_is}
use Rattle.shape_desk.proofs.rows.row.Goals as goal

pub returns : goal.returns
returns c = row_is c.args.n c.requires
