use Rattle.text_terms.specs.Fields.{count}
use Rattle.text_terms.specs.Weights.{step}
use Rattle.shape_refute.specs.Shown.{shift_of}
use Rattle.report_text.proofs.Standing.{stands_both}
use Rattle.report_text.proofs.front_why.short_step_share.Goals as goal

pub returns-clause-stands : goal.returns-clause-stands
returns-clause-stands c =
    let w = c.in_ok-weight in
    let s = c.in_ok-step in
    rw c.from.ensures
    (stands_both c.args.bytes.now c.args.at w.weight.end s.step.end 7 5 (count.words w.weight.value) ((step c.args.dim).words (shift_of s.step.value))
    w.ensures.stands s.ensures.stands)
