use Rattle.std.proofs.Common.{ap, arith}
use Rattle.shape_terms.specs.Points.{box_count}
use Rattle.judge_outline.specs.PlaneState.{Counts}
use Rattle.judge_outline.proofs.PlaneSteps.{points_test, few_declared}
use Rattle.judge_outline.proofs.plane_judge.PlaneJudge.has_points.Goals as goal

pub overflow_add-result : goal.overflow_add-result
overflow_add-result c =
    let i = c.self.inside in
    let n : Counts = record { begun = i.begun; exposed = i.exposed; start = i.start; declared = i.declared; cursor = i.cursor; refused = i.refused } in
    let k = c.self.invariant.step in
    let f = few_declared i.grid n i.taken.points i.touching.items k in
    let d = k.declared in
    omega (arith, f, d, c.len.ensures.small, ap box_count c.self.invariant.taken_box)

pub returns : goal.returns
returns c =
    let i = c.self.inside in
    rw (← c.self.view_is) (points_test c.len.result i.start i.declared i.taken.points c.len.ensures.value c.self.invariant.step.start)
