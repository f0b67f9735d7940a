use Rattle.shape_adj.proofs.PictureRows.{object_rows}
use Rattle.shape_adj.proofs.places.ObjectRowNet.in_rows.Goals as goal

pub returns : goal.returns
returns g c = object_rows _ c.args.self.now.axes c.args.self.now.some c.args.self.now.few
