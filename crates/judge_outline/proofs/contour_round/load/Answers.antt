use Rattle.std.proofs.Common.{◌≡◌, ◌+◌, ◌%◌, ◌∙◌, ap, length}
use Rattle.std.specs.Prelude.{slice_get, Some}
use Rattle.shape_crack.specs.Terms.{point_of}
use Rattle.judge_outline.proofs.RoundParts.{put_more}
use Rattle.judge_outline.proofs.contour_round.load.Goals as goal

pub loop-i-preserved : goal.loop-i-preserved
loop-i-preserved c =
    let points = c.args.contour.now.points in
    let i = c.loop-i.i in
    let put = c.push_reserved.ensures in
    let there : slice_get points (i % length points) ≡ Some (point_of c.point.result) = rw (c.len-n.ensures.value) at c.point.ensures.value in
    record {
      points = put_more point_of points i c.loop-i.round.items c.push_reserved.new.self.items c.point.result put.items c.loop-i.invariant.points there;
      count = put.len ∙ ap (λ k. k + 1) c.loop-i.invariant.count;
      capacity = put.capacity ∙ c.loop-i.invariant.capacity;
    }
