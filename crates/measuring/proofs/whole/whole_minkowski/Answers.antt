use Rattle.std.proofs.Common.{sym, ap, ◌∙◌, subst, arith}
use Rattle.std.proofs.lemmas.List.{get_or-map}
use Rattle.shape_terms.specs.Points.{sides_of}
use Rattle.shape_terms.specs.Parts.{Object}
use Rattle.measure_terms.specs.Minkowski.{IsMinkowski}
use Rattle.measuring.specs.MinkowskiTold.{told, all_told}
use Rattle.measuring.proofs.OneLabel.{whole_is}
use Rattle.measuring.proofs.whole.whole_minkowski.Goals as goal

pub returns : goal.returns
returns g c =
    let X = c.args.grid.now in
    let m = c.index.result.now in
    let all = c.in_ok-all.all.items in
    let same = get_or-map told all 0 m (told m) (omega (arith, c.in_ok-all.ensures.count)) ∙ ap told (sym c.index.ensures) in
    subst (IsMinkowski (Object X)) same
    (whole_is g.P.Point.DIM X c.is_picture.ensures.picture (sides_of (g.P.Point.coords c.sides.result.lengths)) (all_told all) (told m) c.sides.ensures.value
    c.in_ok-all.ensures.all)
