use Rattle.std.proofs.Common.{◌≡◌, false, ap, subst, sym, ◌∙◌}
use Rattle.shape_terms.specs.Pictures.{at}
use Rattle.shape_terms.proofs.Boxes.{in_box_length}
use Rattle.std.proofs.lemmas.Bool.{and_parts}
use Rattle.judge_field.specs.FieldState.{IsLeastSquare}
use Rattle.judge_field.proofs.LeastTests.{least_by}
use Rattle.judge_field.proofs.least.is_least.Goals as goal

pub returns : goal.returns
returns g c =
    let X = c.args.scans.now in
    let p = g.P.Point.coords c.args.p in
    let q = g.P.Point.coords c.args.q in
    let axes = g.met.P.Point.axes c.args.q ∙ sym (g.met.P.Point.axes c.args.p) ∙ in_box_length X.sides p (and_parts _ _ c.requires).0 in
    let value : at X q ≡ false = ap (λ Y. at Y q) (sym c.grid.ensures) ∙ sym c.has.ensures ∙ c.if-has.false in
    let least = subst (IsLeastSquare X p) (sym c.from.ensures ∙ c.if-from-s.false) c.least.ensures in
    (λ t. least_by X p q c.args.s least (record { point = axes; value = value }) (c.is_distance.ensures.0 t), λ l. c.is_distance.ensures.1 l.distance)
