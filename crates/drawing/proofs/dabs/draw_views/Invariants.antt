use Rattle.std.proofs.Common.{◌≡◌, take}
use Rattle.std.specs.Prelude.{flat_map}
use Rattle.shape_terms.specs.Points.{sides_of, box_points}
use Rattle.drawing.specs.SolidSeen.{solid}
use Rattle.drawing.specs.Canvas.{laid_all}
use Rattle.drawing.specs.Dabs.{voxel_dabs}
use Rattle.drawing.proofs.dabs.draw_views.Given as goal

abbrev pub invariant-loop-i : goal.invariant-loop-i
invariant-loop-i l =
    let sides = sides_of (solid l.sides.lengths) in
    l.canvas ≡ laid_all l.initial.canvas (flat_map (voxel_dabs sides l.seen) (take l.i (box_points sides)))
