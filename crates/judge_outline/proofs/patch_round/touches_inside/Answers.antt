use Rattle.std.proofs.Common.{length, ap, sym, subst, arith}
use Rattle.std.specs.Prelude.{IsTrue}
use Rattle.shape_terms.specs.Points.{sides_of, in_box, box_count, raster_point}
use Rattle.shape_terms.specs.Adjacency.{near_point}
use Rattle.shape_terms.proofs.NeighbourNumbers.{near_listed_once}
use Rattle.judge_outline.specs.Terms.{point_of}
use Rattle.judge_outline.proofs.Rounds.{mask_here, touch_set}
use Rattle.judge_outline.proofs.patch_round.touches_inside.Goals as goal

pub mask-requires-clause-filled : goal.mask-requires-clause-filled
mask-requires-clause-filled c = omega (arith, ap length c.values.ensures, c.is_picture.ensures.picture.filled, ap box_count c.requires.box_)

pub mask-requires-clause-inner : goal.mask-requires-clause-inner
mask-requires-clause-inner c =
    let sides = sides_of (point_of c.args.near.now.sides.lengths) in
    λ k l. subst (λ p. IsTrue (in_box sides (near_point p k))) (sym c.raster.ensures.back) (c.requires.inner k l)

pub returns : goal.returns
returns c =
    let sides = sides_of (point_of c.args.near.now.sides.lengths) in
    let p = point_of c.args.p in
    let mask = mask_here sides c.args.recent.now c.values.result.now (raster_point sides c.raster.result) p c.mask.result c.requires.box_ c.values.ensures
    c.raster.ensures.back c.mask.ensures in
    touch_set c.args.recent.now p c.mask.result (near_listed_once p) mask (omega arith)
