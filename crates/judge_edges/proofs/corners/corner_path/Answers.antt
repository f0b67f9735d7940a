use Rattle.std.proofs.Common.{arith, ap, map}
use Rattle.shape_terms.proofs.Tracing.{reached_crack}
use Rattle.shape_crack.specs.Terms.{point_of, crack_of}
use Rattle.shape_crack.proofs.CrackValues.{cracks_equal, cracks_differ}
use Rattle.shape_crack.proofs.Rounds.{few_steps}
use Rattle.judge_edges.proofs.CornerRounds.{cornered_first, cornered_more, corners_path, corners_from}
use Rattle.shape_terms.proofs.Boxes.{few_pixels}
use Rattle.judge_edges.proofs.corners.corner_path.Goals as goal

pub advance-requires-in-loop-start : goal.advance-requires-in-loop-start
advance-requires-in-loop-start c = reached_crack c.args.grid.now c.is_picture.ensures.picture.axes (crack_of c.args.start) (crack_of c.loop-start.c)
    c.loop-start.steps c.requires c.loop-start.invariant.reached

pub overflow_add-steps : goal.overflow_add-steps
overflow_add-steps c =
    let away = cracks_differ c.loop-start.c c.args.start c.ne.result c.ne.ensures c.loop-start-test.true in
    let l = few_steps c.args.grid.now c.is_picture.ensures.picture.axes
    (few_pixels c.args.grid.now.sides c.is_picture.ensures.picture.axes c.is_picture.ensures.in_range) (crack_of c.args.start) (crack_of c.loop-start.c)
    c.loop-start.steps c.requires c.loop-start.invariant.reached away in
    omega arith

pub loop-start-smaller : goal.loop-start-smaller
loop-start-smaller c =
    let away = cracks_differ c.loop-start.c c.args.start c.ne.result c.ne.ensures c.loop-start-test.true in
    let l = few_steps c.args.grid.now c.is_picture.ensures.picture.axes
    (few_pixels c.args.grid.now.sides c.is_picture.ensures.picture.axes c.is_picture.ensures.in_range) (crack_of c.args.start) (crack_of c.loop-start.c)
    c.loop-start.steps c.requires c.loop-start.invariant.reached away in
    omega arith

pub loop-start-init : goal.loop-start-init
loop-start-init c = rw (c.in_ok-c.ensures.next, c.in_ok-c.ensures.corners, c.new-corners.ensures.items) (cornered_first c.args.grid.now (crack_of c.args.start))

pub loop-start-preserved : goal.loop-start-preserved
loop-start-preserved c =
    let away = cracks_differ c.loop-start.c c.args.start c.ne.result c.ne.ensures c.loop-start-test.true in
    rw (c.in_ok-c-2.ensures.next, c.in_ok-c-2.ensures.corners)
    (cornered_more c.args.grid.now c.is_picture.ensures.picture.axes (crack_of c.args.start) (crack_of c.loop-start.c) c.loop-start.steps
    (map point_of c.loop-start.corners.items) c.requires c.loop-start.invariant away)

pub invariant_of-result : goal.invariant_of-result
invariant_of-result c =
    let same = ap crack_of (cracks_equal c.loop-start.c c.args.start c.ne.result c.ne.ensures c.loop-start-test.false) in
    corners_path c.args.grid.now c.is_picture.ensures.picture.axes c.is_picture.ensures.in_range
    (few_pixels c.args.grid.now.sides c.is_picture.ensures.picture.axes c.is_picture.ensures.in_range) (crack_of c.args.start) (crack_of c.loop-start.c)
    c.requires same c.loop-start.steps (map point_of c.loop-start.corners.items) c.loop-start.invariant

pub returns : goal.returns
returns c =
    let same = ap crack_of (cracks_equal c.loop-start.c c.args.start c.ne.result c.ne.ensures c.loop-start-test.false) in
    corners_from c.args.grid.now c.is_picture.ensures.picture.axes c.is_picture.ensures.in_range
    (few_pixels c.args.grid.now.sides c.is_picture.ensures.picture.axes c.is_picture.ensures.in_range) (crack_of c.args.start) (crack_of c.loop-start.c)
    c.requires same c.loop-start.steps (map point_of c.loop-start.corners.items) c.loop-start.invariant
