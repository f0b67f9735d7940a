use Rattle.std.proofs.Common.{◌≡◌, ◌+◌, ◌-◌, ◌<◌, [], length, drop, ap, sym, ◌∙◌, subst, arith}
use Rattle.shape_terms.specs.Pictures.{object_points}
use Rattle.report_terms.specs.FaceFacts.{face_axis}
use Rattle.judge_outline.specs.Listings.{Listing}
use Rattle.judge_outline.specs.Exposure.{exposed_at, AreLeft, AreMarked}
use Rattle.judge_outline.specs.PlaneState.{Counts, AreInStep}
use Rattle.judge_outline.proofs.LeftPoints.{left_all}
use Rattle.judge_outline.proofs.PlaneSteps.{step_face}
use Rattle.judge_outline.proofs.plane_judge.PlaneJudge.begin.Goals as goal

pub unmark-requires-clause-box_ : goal.unmark-requires-clause-box_
unmark-requires-clause-box_ c = c.self.invariant.recent_box ∙ sym c.self.invariant.taken_box

pub unmark-requires-clause-marked : goal.unmark-requires-clause-marked
unmark-requires-clause-marked c = c.self.invariant.are_recent

pub invariant_of-self : goal.invariant_of-self
invariant_of-self c =
    let i = c.self.inside in
    let k = c.self.invariant in
    let n : Counts = record { begun = i.begun; exposed = i.exposed; start = i.start; declared = i.declared; cursor = i.cursor; refused = i.refused } in
    let m : Counts = record { begun = i.begun + 1; exposed = c.count-self-inside.result; start = 0; declared = 0; cursor = 0; refused = 0 } in
    let few : i.begun < 6 = (let f = k.step.faces in omega (arith, f, c.if-face-eq-FACES.false)) in
    let same : i.begun ≡ i.begun + 1 - 1 = omega arith in
    let points = c.expose_all.ensures.points ∙ ap (exposed_at i.grid) same in
    let empty = ap (λ (l : Listing). l.points) c.clear.ensures in
    let step = step_face i.grid n i.plane i.taken.points i.touching.items k.step c.count-self-inside.result few (c.count-self-inside.ensures ∙ ap length points)
    in
    record {
      solid = k.solid;
      near_box = k.near_box;
      left_box = c.expose_all.ensures.box_;
      are_left = λ l. subst (λ ps. AreLeft (exposed_at i.grid (i.begun + 1 - 1)) ps c.expose_all.new.exposed) (sym empty)
          (left_all (exposed_at i.grid (i.begun + 1 - 1)) c.expose_all.new.exposed points);
      recent_box = c.unmark.ensures.box_ ∙ k.taken_box;
      are_recent = subst (λ ps. AreMarked ps c.unmark.new.recent) (sym (ap (drop 0) empty)) c.unmark.ensures.none;
      taken_box = ap (λ (l : Listing). l.sides) c.clear.ensures ∙ k.taken_box;
      marks_box = k.marks_box;
      unmarked = k.unmarked;
      taken_fits = subst (λ (l : Listing). length (object_points i.grid) < l.room) (sym c.clear.ensures) k.taken_fits;
      fits = (let r = k.fits in omega (arith, r, c.clear-2.ensures.capacity));
      axis = λ l. (let a : c.args.axis ≡ c.axis_of.result = omega (arith, c.if-axis-axis_of.false) in a ∙ c.axis_of.ensures.value ∙ ap face_axis same);
      step = subst (λ ps. AreInStep i.grid m ps c.clear-2.new.self.items) (sym empty)
          (subst (λ ns. AreInStep i.grid m [] ns) (sym c.clear-2.ensures.items) step);
    }
