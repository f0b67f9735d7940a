use Rattle.std.proofs.Common.{ap, ◌∙◌}
use Rattle.measuring.specs.Lines.{with_line}
use Rattle.measuring.proofs.bounds.put_lines.Goals as goal

pub returns-clause-ends : goal.returns-clause-ends
returns-clause-ends c = c.in_ok-put_line-2.ensures.ends ∙ ap (λ ps. with_line ps c.args.lower) c.in_ok-put_line.ensures.ends
