use Rattle.std.proofs.Common.{map, rules}
use Rattle.shape_plane.proofs.Holding.{says_flat}
use Rattle.shape_plane.proofs.verdict.decide.Goals as goal

pub returns-clause-flat : goal.returns-clause-flat
returns-clause-flat g c = says_flat g.P.Point.DIM c.args.axis (map g.P.Point.coords c.args.points.now) c.verdict_of.result (search rules)
