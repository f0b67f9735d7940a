use Rattle.std.proofs.Common.{pos, map, ap, subst, sym, List, ℕ}
use Rattle.shape_terms.specs.Points.{AreSides}
use Rattle.shape_terms.specs.Pictures.{Picture}
use Rattle.shape_grid.proofs.SideLists.{sides_back}
use Rattle.shape_grid.proofs.grid.Grid.is_picture.Goals as goal

pub returns-clause-in_range : goal.returns-clause-in_range
returns-clause-in_range g c =
    let s = c.self.inside.sides in
    let M = g.P.Point.MAX_SIDE in
    let range = subst (AreSides M) (sym (sides_back M (g.P.Point.coords s.lengths) s.in_range)) s.in_range in
    subst (λ (l : List ℕ). AreSides M (map pos l)) (ap (λ (X : Picture). X.sides) c.self.view_is) range
