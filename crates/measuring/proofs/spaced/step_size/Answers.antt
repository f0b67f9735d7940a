use Rattle.std.proofs.Common.{◌*◌, ap, ◌∙◌}
use Rattle.measure_terms.specs.Rounding.{root}
use Rattle.measure_terms.specs.Shares as Terms
use Rattle.measuring.specs.Spaced.{spacing_told}
use Rattle.measuring.proofs.Gathered.{size_is}
use Rattle.measuring.proofs.ShareBounds.{root_long}
use Rattle.measuring.proofs.spaced.step_size.Goals as goal

pub returns-clause-value : goal.returns-clause-value
returns-clause-value c =
    c.root.ensures.value ∙ ap (λ n. root (100000000 * n)) (c.dot.ensures.value ∙ (λ i. Terms.dot (c.spaced_step-step.ensures i) (c.spaced_step-step.ensures i)))
    ∙ size_is (spacing_told c.args.spacing) c.args.class

pub returns-clause-long : goal.returns-clause-long
returns-clause-long c = root_long c.dot.result c.root.result c.root.ensures.nearest
