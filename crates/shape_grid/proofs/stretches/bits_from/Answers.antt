use Rattle.std.proofs.Common.{arith}
use Rattle.shape_grid.proofs.SpanSteps.{bits_on, bits_off}
use Rattle.shape_grid.proofs.stretches.bits_from.Goals as goal

pub returns-then-k-lt64-clause-before : goal.returns-then-k-lt64-clause-before
returns-then-k-lt64-clause-before c = λ b l. bits_off c.args.k b (omega arith) l

pub returns-then-k-lt64-clause-on : goal.returns-then-k-lt64-clause-on
returns-then-k-lt64-clause-on c = λ b l m. bits_on c.args.k b (omega arith) l m
