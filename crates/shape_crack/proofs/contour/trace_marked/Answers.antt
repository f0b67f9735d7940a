use Rattle.std.proofs.Common.{arith, ◌∙◌, refl, ap, map}
use Rattle.shape_terms.proofs.Tracing.{reached_crack, traced_more}
use Rattle.shape_terms.proofs.Marking.{marking_first, marking_more}
use Rattle.shape_crack.specs.declared.contour.TheConstants.{GREATEST_SIDE}
use Rattle.shape_crack.specs.Terms.{point_of, crack_of}
use Rattle.shape_crack.specs.MarkBits.{is_marked}
use Rattle.shape_crack.proofs.CrackValues.{cracks_equal, cracks_differ}
use Rattle.shape_crack.proofs.Rounds.{few_steps, traced_first, filled, contour_from, path_from, cycle_marked}
use Rattle.shape_terms.proofs.Boxes.{few_pixels}
use Rattle.shape_crack.proofs.contour.trace_marked.Goals as goal

pub advance-requires-in-loop-c : goal.advance-requires-in-loop-c
advance-requires-in-loop-c c = reached_crack c.args.grid.now c.is_picture.ensures.picture.axes (crack_of c.args.start) (crack_of c.loop-c.c) c.loop-c.steps
    c.requires.crack c.loop-c.invariant.tracing.reached

pub overflow_add-steps : goal.overflow_add-steps
overflow_add-steps c =
    let away = cracks_differ c.loop-c.c c.args.start c.ne.result c.ne.ensures c.loop-c-test.true in
    let l = few_steps c.args.grid.now c.is_picture.ensures.picture.axes
    (few_pixels c.args.grid.now.sides c.is_picture.ensures.picture.axes c.is_picture.ensures.in_range) (crack_of c.args.start) (crack_of c.loop-c.c)
    c.loop-c.steps c.requires.crack c.loop-c.invariant.tracing.reached away in
    omega arith

pub loop-c-smaller : goal.loop-c-smaller
loop-c-smaller c =
    let away = cracks_differ c.loop-c.c c.args.start c.ne.result c.ne.ensures c.loop-c-test.true in
    let l = few_steps c.args.grid.now c.is_picture.ensures.picture.axes
    (few_pixels c.args.grid.now.sides c.is_picture.ensures.picture.axes c.is_picture.ensures.in_range) (crack_of c.args.start) (crack_of c.loop-c.c)
    c.loop-c.steps c.requires.crack c.loop-c.invariant.tracing.reached away in
    omega arith

pub loop-c-init : goal.loop-c-init
loop-c-init c =
    let old = is_marked c.args.marks.now in
    let new = is_marked c.pass.new.marks in
    record {
      tracing = rw (c.in_ok-c.ensures.next, c.in_ok-c.ensures.points, c.new-points.ensures.items) (traced_first c.args.grid.now (crack_of c.args.start));
      marking = rw c.in_ok-c.ensures.next (marking_first c.args.grid.now (crack_of c.args.start) old new c.pass.ensures.passed);
      room = c.pass.ensures.room;
    }

pub pass-requires-in-loop-c-clause-crack : goal.pass-requires-in-loop-c-clause-crack
pass-requires-in-loop-c-clause-crack c = reached_crack c.args.grid.now c.is_picture.ensures.picture.axes (crack_of c.args.start) (crack_of c.loop-c.c)
    c.loop-c.steps c.requires.crack c.loop-c.invariant.tracing.reached

pub loop-c-preserved : goal.loop-c-preserved
loop-c-preserved c =
    let X = c.args.grid.now in
    let axes = c.is_picture.ensures.picture.axes in
    let away = cracks_differ c.loop-c.c c.args.start c.ne.result c.ne.ensures c.loop-c-test.true in
    let old = is_marked c.args.marks.now in
    let mid = is_marked c.loop-c.marks in
    let new = is_marked c.pass-in-loop-c.new.marks in
    record {
      tracing =
          rw (c.in_ok-c-2.ensures.next, c.in_ok-c-2.ensures.points)
          (traced_more X axes (crack_of c.args.start) (crack_of c.loop-c.c) c.loop-c.steps (map point_of c.loop-c.points.items) c.requires.crack
          c.loop-c.invariant.tracing away);
      marking =
          rw c.in_ok-c-2.ensures.next
          (marking_more X axes (crack_of c.args.start) (crack_of c.loop-c.c) c.loop-c.steps old mid new c.requires.crack c.loop-c.invariant.marking away
          c.pass-in-loop-c.ensures.passed);
      room = c.pass-in-loop-c.ensures.room ∙ c.loop-c.invariant.room;
    }

pub invariant_of-result : goal.invariant_of-result
invariant_of-result c =
    let same = ap crack_of (cracks_equal c.loop-c.c c.args.start c.ne.result c.ne.ensures c.loop-c-test.false) in
    let points = c.in_ok-fill.ensures ∙ filled c.args.grid.now (crack_of c.args.start) (crack_of c.loop-c.c) c.loop-c.steps c.loop-c.points.items c.args.start.p
    c.loop-c.invariant.tracing refl in
    path_from c.args.grid.now c.is_picture.ensures.picture.axes (crack_of c.args.start) (crack_of c.loop-c.c) c.loop-c.steps c.requires.crack
    c.loop-c.invariant.tracing.reached same GREATEST_SIDE c.is_picture.ensures.in_range (omega arith) (map point_of c.fill.new.points.items) points

pub returns-clause-contour : goal.returns-clause-contour
returns-clause-contour c =
    let same = ap crack_of (cracks_equal c.loop-c.c c.args.start c.ne.result c.ne.ensures c.loop-c-test.false) in
    let points = c.in_ok-fill.ensures ∙ filled c.args.grid.now (crack_of c.args.start) (crack_of c.loop-c.c) c.loop-c.steps c.loop-c.points.items c.args.start.p
    c.loop-c.invariant.tracing refl in
    contour_from c.args.grid.now c.is_picture.ensures.picture.axes (crack_of c.args.start) (crack_of c.loop-c.c) c.loop-c.steps c.requires.crack
    c.loop-c.invariant.tracing.reached same (map point_of c.fill.new.points.items) points

pub returns-clause-marked : goal.returns-clause-marked
returns-clause-marked c =
    let same = ap crack_of (cracks_equal c.loop-c.c c.args.start c.ne.result c.ne.ensures c.loop-c-test.false) in
    cycle_marked c.args.grid.now c.is_picture.ensures.picture.axes (crack_of c.args.start) (crack_of c.loop-c.c) c.loop-c.steps c.requires.crack
    c.loop-c.invariant.tracing.reached same
    (is_marked c.args.marks.now) (is_marked c.loop-c.marks) c.loop-c.invariant.marking
