use Rattle.std.proofs.Common.{refl}
use Rattle.shape_line.proofs.segment.Segment.grow.Goals as goal

pub returns-in-Low : goal.returns-in-Low
returns-in-Low c = (refl, c.low_crossing.ensures)

pub returns-in-High : goal.returns-in-High
returns-in-High c = (refl, c.high_crossing.ensures)
