use Rattle.std.proofs.Common.{arith}
use Rattle.measuring.specs.Spaced.{spacing_told}
use Rattle.measuring.proofs.Pairs.{less_better}
use Rattle.measuring.proofs.farthest.with_pair.Goals as goal

pub returns-then-square-best : goal.returns-then-square-best
returns-then-square-best c =
    let e = c.square_between-square.ensures in
    less_better (spacing_told c.args.spacing) c.args.p c.args.q c.args.best (omega (arith, e))
