use Rattle.std.proofs.Common.{◌≡◌, ◌-◌, ◌<◌, ◌≤◌, true, false, [], length, take, subst, refl, ap, sym, ◌∙◌, arith}
use Rattle.std.specs.Prelude.{ℤ}
use Rattle.std.proofs.Math.Facts.{to_z-of_z}
use Rattle.shape_terms.specs.Naive.{Naive as Plane, IsProper}
use Rattle.report_terms.specs.FaceLines.{PatchIsFull, open_exposed}
use Rattle.judge_outline.specs.PlaneState.{PlaneState, Counts}
use Rattle.judge_outline.proofs.Marking.{marked_begun}
use Rattle.judge_outline.proofs.PlaneSteps.{step_patch, patch_yes, patch_many, patch_improper, plane_begun, drop_whole}
use Rattle.judge_outline.proofs.plane_judge.PlaneJudge.begin_patch.Goals as goal
use Rattle.judge_outline.proofs.plane_judge.PlaneJudge.begin_patch.Goals.{then-points-self-via-then-points-self}
use Rattle.judge_outline.proofs.plane_judge.PlaneJudge.begin_patch.Goals.{then-points-self-via-else-points-self+then-not-is_proper}

pub returns-then-points-self-clause-answer : goal.returns-then-points-self-clause-answer
returns-then-points-self-clause-answer c =
    let i = c.self.inside in
    let n : Counts = record { begun = i.begun; exposed = i.exposed; start = i.start; declared = i.declared; cursor = i.cursor; refused = i.refused } in
    let k = c.self.invariant.step in
    let begun : 0 < i.begun = omega (arith, c.if-self-eq0.false) in
    let other : Plane = record { a = take 3 c.args.a; mu = c.args.mu } in
    elim c.then-points-self.branch [
      | then-points-self-via-then-points-self w ↦
          let many : i.exposed - length i.taken.points < c.args.points = omega (arith, w.if-points-self.true, c.len-start.ensures.value) in
          rw (← c.self.view_is) ((λ f. cc), λ h. absurd (patch_many i.grid n i.plane i.taken.points i.touching.items k begun c.args.points other many h))
      | then-points-self-via-else-points-self+then-not-is_proper w ↦
          let same = to_z-of_z c.ranges.mu in
          let none : IsProper i.plane.axis other → ⊥ = λ h. (
          let t = w.is_proper.ensures.1 (subst (λ mu. IsProper i.plane.axis (record { a = take 3 c.args.a; mu = mu })) (sym same) h) in
          let f : true ≡ false = sym t ∙ w.if-not-is_proper.true in
          cc) in
          rw (← c.self.view_is) (
            (λ f. cc),
            λ h. absurd
                (patch_improper i.grid n i.plane i.taken.points i.touching.items k begun c.args.points i.plane.axis other (c.self.invariant.axis begun) none h),
          )
    ]

pub returns-clause-answer : goal.returns-clause-answer
returns-clause-answer c =
    let i = c.self.inside in
    let n : Counts = record { begun = i.begun; exposed = i.exposed; start = i.start; declared = i.declared; cursor = i.cursor; refused = i.refused } in
    let begun : 0 < i.begun = omega (arith, c.if-self-eq0.false) in
    let other : Plane = record { a = take 3 c.args.a; mu = c.args.mu } in
    let full = subst (λ (s : PlaneState). PatchIsFull (open_exposed s.picture s.standing) s.standing) (sym c.self.view_is)
    (c.is_patch_full.ensures.0 c.if-not-is_patch_full.false) in
    let left : c.args.points ≤ i.exposed - length i.taken.points = omega (arith, c.if-points-self.false, c.len-start.ensures.value) in
    let proper : IsProper i.plane.axis other = subst (λ mu. IsProper i.plane.axis (record { a = take 3 c.args.a; mu = mu })) (to_z-of_z c.ranges.mu)
    (c.is_proper.ensures.0 c.if-not-is_proper.false) in
    rw (← c.self.view_is) (
      (λ t. patch_yes i.grid n i.plane i.taken.points i.touching.items c.self.invariant.step begun c.args.points i.plane.axis other full
          c.if-points-eq0.false left (c.self.invariant.axis begun) proper),
      λ h. refl,
    )

pub returns-clause-next : goal.returns-clause-next
returns-clause-next c =
    let i = c.self.inside in
    let same = to_z-of_z c.ranges.mu in
    let some : 0 < c.args.points = omega (arith, c.if-points-eq0.false) in
    let none = drop_whole c.len-start.result i.taken.points c.len-start.ensures.value in
    let plane = plane_begun c.args.points (record { a = c.args.a; mu = _; axis = i.plane.axis }) some
    ∙ ap (λ (mu : ℤ). record { a = take 3 c.args.a; mu = mu }) same in
    rw (← c.self.view_is)
    (λ j. record { begun = i.begun; taken = i.taken.points; patch = record { declared = c.args.points; plane = plane j; points = none j; refused = [] } })

pub unmark-requires-clause-box_ : goal.unmark-requires-clause-box_
unmark-requires-clause-box_ c = c.self.invariant.recent_box ∙ sym c.self.invariant.taken_box

pub unmark-requires-clause-marked : goal.unmark-requires-clause-marked
unmark-requires-clause-marked c = c.self.invariant.are_recent

pub invariant_of-self : goal.invariant_of-self
invariant_of-self c =
    let i = c.self.inside in
    let k = c.self.invariant in
    let n : Counts = record { begun = i.begun; exposed = i.exposed; start = i.start; declared = i.declared; cursor = i.cursor; refused = i.refused } in
    record {
      solid = k.solid;
      near_box = k.near_box;
      left_box = k.left_box;
      are_left = k.are_left;
      recent_box = c.unmark.ensures.box_ ∙ k.taken_box;
      are_recent = marked_begun c.unmark.new.recent i.taken.points c.len-start.result c.len-start.ensures.value c.unmark.ensures.none;
      taken_box = k.taken_box;
      marks_box = k.marks_box;
      unmarked = k.unmarked;
      taken_fits = k.taken_fits;
      fits = k.fits;
      axis = k.axis;
      step = step_patch i.grid n i.plane i.taken.points i.touching.items k.step c.len-start.result c.args.points c.len-start.ensures.value c.if-points-eq0.false
          (omega (arith, c.if-points-self.false));
    }
