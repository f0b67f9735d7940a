use Rattle.shape_plane.proofs.Holding.{extremes_more}
use Rattle.shape_plane.proofs.extreme.widened.Goals as goal

pub returns : goal.returns
returns c = λ f n i h l x. extremes_more f n i c.args.old c.args.next c.lesser.result c.greater.result h l x c.lesser.ensures.one c.lesser.ensures.first
    c.lesser.ensures.second c.greater.ensures.one c.greater.ensures.first c.greater.ensures.second
