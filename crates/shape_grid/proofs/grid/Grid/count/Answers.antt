use Rattle.std.proofs.Common.{◌≡◌, length, rules, sym, ◌∙◌, subst}
use Rattle.shape_terms.specs.Points.{sides_of, box_count}
use Rattle.shape_terms.specs.Pictures.{Picture, object_points}
use Rattle.shape_terms.proofs.BoxLists.{object_count}
use Rattle.shape_grid.proofs.grid.Grid.count.Goals as goal

pub returns : goal.returns
returns g c =
    let X : Picture = record { sides = sides_of (g.P.Point.coords c.self.inside.sides.lengths); values = c.self.inside.values } in
    let e : length X.values ≡ box_count X.sides = search rules in
    subst (λ (Y : Picture). c.self.inside.objects ≡ length (object_points Y)) c.self.view_is (c.self.invariant.1 ∙ sym (object_count X e))
