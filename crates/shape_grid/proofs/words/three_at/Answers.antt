use Rattle.std.proofs.Common.{◌/◌, arith}
use Rattle.shape_grid.proofs.WordSteps.{three_near, three_far}
use Rattle.shape_grid.proofs.words.three_at.Goals as goal

pub returns-then-i-lt62 : goal.returns-then-i-lt62
returns-then-i-lt62 c = rw c.low_three.ensures (three_near c.args.words.now c.args.i (omega arith))

pub returns : goal.returns
returns c =
    let t = c.type_inv.words (c.args.i / 64) in
    rw c.low_three-2.ensures (three_far c.args.words.now c.args.i (omega arith) (omega arith))
