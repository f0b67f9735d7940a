use Rattle.shape_picture.proofs.RowBytes.{bit_is}
use Rattle.shape_picture.proofs.rows.bit.Goals as goal

pub returns : goal.returns
returns c = bit_is c.args.c c.args.place c.requires
