use Rattle.std.proofs.Common.{subst}
use Rattle.std.specs.Prelude.{IfOk}
use Rattle.shape_terms.specs.Points.{sides_of}
use Rattle.measure_terms.specs.Feret.{AreFerets}
use Rattle.measure_terms.specs.Spacing.{spaced_distance}
use Rattle.measuring.specs.FeretsTold.{ferets_told}
use Rattle.measure_report.proofs.columns.ferets_by.Goals as goal

pub returns-clause-all : goal.returns-clause-all
returns-clause-all g c =
    let sides = sides_of (g.P.Point.coords c.args.sides.lengths) in
    subst (λ s. IfOk c.ferets.result (λ fs. AreFerets (spaced_distance s) sides c.args.labels.now c.args.count (ferets_told g.P.Point.DIM fs.items)))
    c.or_unit.ensures c.ferets.ensures.all
