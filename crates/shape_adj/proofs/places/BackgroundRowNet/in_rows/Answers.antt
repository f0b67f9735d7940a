use Rattle.shape_adj.proofs.PictureRows.{background_rows}
use Rattle.shape_adj.proofs.places.BackgroundRowNet.in_rows.Goals as goal

pub returns : goal.returns
returns g c = background_rows _ c.args.self.now.axes c.args.self.now.some c.args.self.now.few
