use Rattle.std.proofs.Common.{ap, sym, ◌∙◌}
use Rattle.shape_terms.specs.Points.{coordinate}
use Rattle.shape_terms.specs.Vectors.{unit}
use Rattle.shape_refute.proofs.Meet.{unit_same, unit_other}
use Rattle.shape_refute.proofs.refutation.unit_coordinate.Goals as goal

pub returns-then-k-axis-clause-value : goal.returns-then-k-axis-clause-value
returns-then-k-axis-clause-value c = sym (ap (λ k. coordinate (unit c.args.axis) k) c.if-k-axis.true ∙ unit_same c.args.axis)

pub returns-else-k-axis-clause-value : goal.returns-else-k-axis-clause-value
returns-else-k-axis-clause-value c = sym (unit_other c.args.axis c.args.k c.if-k-axis.false)
