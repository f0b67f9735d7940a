use Rattle.std.proofs.Common.{◌-◌, ◌<◌, ap, sym, ◌∙◌, subst, arith}
use Rattle.shape_terms.specs.Points.{box_count, raster_point}
use Rattle.judge_outline.specs.Terms.{point_of}
use Rattle.judge_outline.specs.PlaneState.{PlaneState, Counts}
use Rattle.judge_outline.proofs.ObjectWalk.{taken_up_to, next_left, all_taken}
use Rattle.judge_outline.proofs.PlaneSteps.{step_cursor, first_is, first_none, equal_test}
use Rattle.judge_outline.proofs.plane_judge.PlaneJudge.is_first.Goals as goal

pub unraster-requires : goal.unraster-requires
unraster-requires c = omega (arith, c.in-Some.ensures.below, ap box_count c.self.invariant.left_box, ap box_count c.sides.ensures.value)

pub invariant_of-self : goal.invariant_of-self
invariant_of-self c =
    let i = c.self.inside in
    let k = c.self.invariant in
    let n : Counts = record { begun = i.begun; exposed = i.exposed; start = i.start; declared = i.declared; cursor = i.cursor; refused = i.refused } in
    let f = c.in-Some.ensures in
    let begun : 0 < i.begun = subst (λ (s : PlaneState). 0 < s.standing.begun) (sym c.self.view_is) c.requires in
    record {
      solid = k.solid;
      near_box = k.near_box;
      left_box = k.left_box;
      are_left = k.are_left;
      recent_box = k.recent_box;
      are_recent = k.are_recent;
      taken_box = k.taken_box;
      marks_box = k.marks_box;
      unmarked = k.unmarked;
      taken_fits = k.taken_fits;
      fits = k.fits;
      axis = k.axis;
      step = step_cursor i.grid n i.plane i.taken.points i.touching.items k.step c.in-Some.i
          (taken_up_to i.grid (i.begun - 1) i.taken.points i.left k.left_box (k.are_left begun) i.cursor k.step.below c.in-Some.i f.below f.next);
    }

pub returns-in-Some-clause-answer : goal.returns-in-Some-clause-answer
returns-in-Some-clause-answer c =
    let i = c.self.inside in
    let k = c.self.invariant in
    let n = c.in-Some.i in
    let f = c.in-Some.ensures in
    let begun : 0 < i.begun = subst (λ (s : PlaneState). 0 < s.standing.begun) (sym c.self.view_is) c.requires in
    let h = k.are_left begun in
    let is = c.unraster.ensures.value ∙ ap (λ s. raster_point s n) c.sides.ensures.value in
    rw (← c.self.view_is) (first_is i.grid (i.begun - 1) i.taken.points n (point_of c.args.p) c.eq.result (point_of c.unraster.result)
    (taken_up_to i.grid (i.begun - 1) i.taken.points i.left k.left_box h i.cursor k.step.below n f.below f.next)
    (next_left i.grid (i.begun - 1) i.taken.points i.left k.left_box h i.cursor k.step.below n f.next)
    (omega (arith, f.below, ap box_count k.left_box)) is (equal_test c.unraster.result c.args.p c.eq.result c.eq.ensures))

pub returns-in-None-clause-answer : goal.returns-in-None-clause-answer
returns-in-None-clause-answer c =
    let i = c.self.inside in
    let k = c.self.invariant in
    let begun : 0 < i.begun = subst (λ (s : PlaneState). 0 < s.standing.begun) (sym c.self.view_is) c.requires in
    let all = all_taken i.grid (i.begun - 1) i.taken.points i.left k.left_box (k.are_left begun) i.cursor k.step.below c.in-None.ensures.next in
    rw (← c.self.view_is) ((λ f. cc), λ h. absurd (first_none i.grid (i.begun - 1) i.taken.points (point_of c.args.p) all h))
