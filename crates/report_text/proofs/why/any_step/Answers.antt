use Rattle.std.proofs.Common.{◌∷◌, ap, sym, subst, ◌∙◌, arith}
use Rattle.text_terms.specs.Weights.{step}
use Rattle.shape_refute.specs.Shown.{shift_of}
use Rattle.report_text.specs.Reading.{ReadsForm}
use Rattle.report_text.proofs.Steps.{four_bytes}
use Rattle.report_text.proofs.why.any_step.Goals as goal

pub returns-in-117-2 : goal.returns-in-117-2
returns-in-117-2 c =
    let new = c.next_word.new.self in
    let is = c.in_ok-next_word.ensures ∙ ap (λ w. w ∷ new) (four_bytes 117 112 c.in_ok-next_word.field-0.now (omega arith) (omega arith) (omega arith)) in
    subst (λ ws. ReadsForm shift_of (step 3) ws new c.step_along.result) (sym is) (c.step_along.ensures new)
