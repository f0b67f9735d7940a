use Rattle.std.proofs.Common.{sym, ◌∙◌, arith}
use Rattle.shape_grid.proofs.SpanSteps.{set_on, set_off, clear_on, clear_off}
use Rattle.shape_grid.proofs.stretches.masked.Goals as goal

pub returns-then-kind-clause-set : goal.returns-then-kind-clause-set
returns-then-kind-clause-set c = λ b l h. set_on c.args.word c.args.span b l h ∙ sym c.if-kind.true

pub returns-then-kind-clause-left : goal.returns-then-kind-clause-left
returns-then-kind-clause-left c = λ b l h. set_off c.args.word c.args.span b l h

pub returns-else-kind-clause-set : goal.returns-else-kind-clause-set
returns-else-kind-clause-set c = λ b l h. clear_on c.args.word c.args.span b l (omega arith) h ∙ sym c.if-kind.false

pub returns-else-kind-clause-left : goal.returns-else-kind-clause-left
returns-else-kind-clause-left c = λ b l h. clear_off c.args.word c.args.span b l (omega arith) h
