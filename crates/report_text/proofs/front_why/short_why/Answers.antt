use Rattle.std.proofs.Common.{◌++◌}
use Rattle.text_terms.specs.Forms.{counted}
use Rattle.text_terms.specs.Weights.{share, step_share}
use Rattle.report_text.proofs.Standing.{stands_both}
use Rattle.report_text.proofs.front_why.short_why.Goals as goal

pub returns-clause-stands : goal.returns-clause-stands
returns-clause-stands c =
    let bytes = c.args.bytes.now in
    let low = c.in_ok-low in
    let high = c.in_ok-high in
    let steps = c.in_ok-steps in
    let words = (counted 4 share).words in
    let step_words = (counted 4 (step_share c.args.dim)).words in
    let behind = stands_both bytes low.low.end high.high.end steps.steps.end 58 50 (words high.high.value) (step_words steps.steps.value) high.ensures.stands
    steps.ensures.stands in
    stands_both bytes c.args.at low.low.end steps.steps.end 58 108 (words low.low.value) (words high.high.value ++ step_words steps.steps.value)
    low.ensures.stands behind
