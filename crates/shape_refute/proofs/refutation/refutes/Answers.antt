use Rattle.std.proofs.Common.{◌∙◌, sym, arith}
use Rattle.shape_refute.specs.Weights.{refutation_of}
use Rattle.shape_refute.proofs.Steps.{refutes_is}
use Rattle.shape_refute.proofs.refutation.refutes.Goals as goal

pub returns : goal.returns
returns g c =
    refutes_is g.P.Point.coords g.P.Point.DIM c.args.axis c.args.points.now (refutation_of c.args.r.now) c.meets.result g.met.P.Point.axes c.requires
    (c.are_places.ensures.0 c.if-not-are_places.false) (c.are_places-else-not-are_places.ensures.0 c.if-not-are_places-2.false)
    (rw c.DIM.ensures at (c.are_steps.ensures.0 c.if-not-are_steps.false))
    (omega (arith, c.total-weight.ensures, c.if-weight-lt1.false)) (sym c.total-weight.ensures ∙ c.if-weight-total.false ∙ c.total.ensures) c.meets.ensures
