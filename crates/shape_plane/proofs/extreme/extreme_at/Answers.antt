use Rattle.std.proofs.Common.{arith, subst, []}
use Rattle.std.specs.Prelude.{pos, ◌-ℤ◌}
use Rattle.std.proofs.lemmas.List.{length-map}
use Rattle.shape_terms.specs.FramedBox.{IsWithin}
use Rattle.shape_plane.proofs.Gaps.{point_read}
use Rattle.shape_plane.proofs.extreme.extreme_at.Goals as goal

pub value-requires-clause-within : goal.value-requires-clause-within
value-requires-clause-within g c =
    subst (IsWithin (pos 0) (g.P.Point.MAX_SIDE -ℤ pos 1))
    (point_read g.P.Point.coords c.args.points.now c.args.i c.index-points-i.result c.index-points-i.is c.requires.place)
    (c.requires.inside c.args.i [] (let l = c.requires.place in let e = length-map c.args.points.now g.P.Point.coords in omega (arith, l, e)))
