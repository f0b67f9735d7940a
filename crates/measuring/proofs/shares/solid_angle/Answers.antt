use Rattle.std.proofs.Common.{◌/◌, ◌^◌, sym, ap, ◌∙◌}
use Rattle.measure_terms.specs.Shares.{reach}
use Rattle.measuring.proofs.Gathered.{angle_is}
use Rattle.measuring.proofs.shares.solid_angle.Goals as goal

pub returns-clause-value : goal.returns-clause-value
returns-clause-value c =
    c.quotient.ensures ∙ ap (λ r. 10 ^ 26 / reach c.args.a c.args.b / r) c.root.ensures.value ∙ sym (angle_is c.args.a c.args.b)
