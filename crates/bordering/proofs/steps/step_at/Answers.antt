use Rattle.std.proofs.Common.{◌<◌, length, ◌∙◌, arith}
use Rattle.measure_terms.specs.Lengths.{step}
use Rattle.bordering.proofs.Reading.{point_read, next_read}
use Rattle.bordering.proofs.steps.step_at.Goals as goal

pub returns : goal.returns
returns c =
    let ps = c.args.points.now in
    let some : 0 < length ps = omega arith in
    let p = point_read ps c.args.i _ c.requires in
    let q = next_read ps c.args.i _ some in
    c.step.ensures ∙ (λ j. step (p j) (q j))
