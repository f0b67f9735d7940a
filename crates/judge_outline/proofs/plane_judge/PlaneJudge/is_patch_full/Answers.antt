use Rattle.std.proofs.Common.{◌≡◌, length, drop, subst, sym, arith}
use Rattle.judge_outline.specs.PlaneState.{PlaneState, Counts}
use Rattle.judge_outline.proofs.PlaneSteps.{full_test}
use Rattle.judge_outline.proofs.plane_judge.PlaneJudge.is_patch_full.Goals as goal

pub overflow_cast-result : goal.overflow_cast-result
overflow_cast-result c = let f = c.self.invariant.step.few in omega (arith, f, c.is_picture.ensures.few, c.len.ensures)

pub returns-then-has_points : goal.returns-then-has_points
returns-then-has_points c =
    let i = c.self.inside in
    let n : Counts = record { begun = i.begun; exposed = i.exposed; start = i.start; declared = i.declared; cursor = i.cursor; refused = i.refused } in
    let all : length (drop i.start i.taken.points) ≡ i.declared = subst (λ (s : PlaneState). length s.standing.patch.points ≡ s.standing.patch.declared)
    (sym c.self.view_is) (c.has_points.ensures.0 c.if-has_points.true) in
    rw (← c.self.view_is) (full_test i.grid n i.plane i.taken.points i.touching.items c.self.invariant.step c.len.result (omega (arith, c.len.ensures)) all)
