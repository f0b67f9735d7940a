use Rattle.std.proofs.Common.{◌≡◌, ◌%◌, length, subst, sym, ℕ}
use Rattle.std.specs.Prelude.{slice_get, Some}
use Rattle.shape_refute.specs.Terms.{flat_point}
use Rattle.shape_refute.proofs.SmallPoints.{small_at}
use Rattle.shape_line.proofs.ContourGrowing.{point_is, within}
use Rattle.shape_line.proofs.grow.point_on.Goals as goal

pub returns : goal.returns
returns c =
    let points = c.args.contour.now.points in
    let n = c.len-n.ensures in
    let i = c.args.i % length points in
    let s = subst (λ (n : ℕ). slice_get points (c.args.i % n) ≡ Some (flat_point c.point.result)) n.value c.point.ensures.value in
    let e = point_is points n.path i c.point.result s in
    record { value = sym e; small = small_at points i c.point.result n.path.inside (within points n.path c.args.i) e }
