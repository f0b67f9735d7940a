use Rattle.std.proofs.Common.{arith}
use Rattle.shape_envelope.proofs.LineNumbers.{line_inside}
use Rattle.shape_envelope.proofs.axis.line_start.Goals as goal

pub overflow_add-result : goal.overflow_add-result
overflow_add-result c =
    let below = line_inside c.args.before c.args.side c.args.behind c.args.t 0 c.requires.line (omega arith) in
    omega (arith, below)
