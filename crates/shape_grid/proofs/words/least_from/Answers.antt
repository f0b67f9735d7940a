use Rattle.std.proofs.Common.{◌/◌, arith}
use Rattle.shape_grid.proofs.WordSteps.{rest_empty, rest_least}
use Rattle.shape_grid.proofs.words.least_from.Goals as goal

pub returns-then-rest-ne0 : goal.returns-then-rest-ne0
returns-then-rest-ne0 c =
    let t = c.type_inv.words (c.args.from / 64) in
    rest_least c.args.words.now c.args.from (omega arith) (omega arith)

pub loop-w-init : goal.loop-w-init
loop-w-init c = rest_empty c.args.words.now c.args.from (omega arith)
