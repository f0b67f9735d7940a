use Rattle.std.proofs.Common.{◌≤◌, length, ap, ◌∙◌, arith}
use Rattle.std.specs.Prelude.{flat_map}
use Rattle.std.proofs.lemmas.List.{take_all}
use Rattle.shape_terms.specs.Points.{sides_of, box_points}
use Rattle.shape_terms.proofs.BoxLists.{length-box_points}
use Rattle.drawing.specs.SolidSeen.{solid}
use Rattle.drawing.specs.Canvas.{laid_all}
use Rattle.drawing.specs.Dabs.{voxel_dabs}
use Rattle.drawing.proofs.CanvasLaws.{next_dabs}
use Rattle.drawing.proofs.dabs.draw_views.Goals as goal

pub loop-i-preserved : goal.loop-i-preserved
loop-i-preserved c =
    let sides = sides_of (solid c.args.sides.lengths) in
    next_dabs (voxel_dabs sides c.args.seen.now) sides c.loop-i.i c.args.canvas.now c.loop-i.canvas _ (solid c.unraster.result) (omega arith) c.loop-i.invariant
    c.draw_voxel.ensures c.unraster.ensures.value

pub returns : goal.returns
returns c =
    let sides = sides_of (solid c.args.sides.lengths) in
    let all : length (box_points sides) ≤ c.loop-i.i = omega (arith, length-box_points sides) in
    c.loop-i.invariant ∙ ap (λ ps. laid_all c.args.canvas.now (flat_map (voxel_dabs sides c.args.seen.now) ps)) (take_all c.loop-i.i (box_points sides) all)
