use Rattle.std.proofs.Common.{ap, ◌∙◌, length, arith}
use Rattle.shape_terms.specs.Pictures.{Picture, blank, object_points}
use Rattle.shape_queue.specs.Keys.{has}
use Rattle.shape_queue.proofs.GoingSteps.{front_start, none_counted}
use Rattle.shape_thin.proofs.front.Front.new.Goals as goal

pub returns-clause-front : goal.returns-clause-front
returns-clause-front g c = λ state.
    front_start g.P.Point.DIM c.args.grid.now c.args.distances.values
    (has c.in_ok-keys.keys) state c.is_picture.ensures.picture c.requires c.in_ok-keys.ensures.none
    _ (c.in_ok-reached.ensures ∙ ap blank c.sides-sides.ensures.value) _ c.in_ok-keys.ensures.distances _ c.count.ensures _ c.first_rank-passed.ensures

pub returns-clause-room : goal.returns-clause-room
returns-clause-room g c =
    let e = ap (λ (Y : Picture). length (object_points Y)) (c.in_ok-reached.ensures ∙ ap blank c.sides-sides.ensures.value) in
    let z = none_counted c.args.grid.now.sides in
    omega (arith, e, z, c.count.ensures)
