use Rattle.std.proofs.Common.{◌∙◌}
use Rattle.shape_report.specs.LineOf.{line_of}
use Rattle.shape_report.proofs.Claims.{spelled}
use Rattle.shape_report.proofs.spell.spell.Goals as goal

pub returns : goal.returns
returns g c = c.put_line.ensures ∙ spelled g.P.Point.DIM (line_of g.P.Point.coords c.args.line.now) c.requires
