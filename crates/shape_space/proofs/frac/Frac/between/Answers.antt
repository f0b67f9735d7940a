use Rattle.std.proofs.Common.{arith}
use Rattle.std.proofs.lemmas.Int.{ints}
use Rattle.shape_space.proofs.Between.{above, below}
use Rattle.shape_space.proofs.frac.Frac.between.Goals as goal

pub returns-clause-above : goal.returns-clause-above
returns-clause-above c = above c.args.lo.now.num _ _ c.args.lo.now.den c.args.hi.now.num c.args.hi.now.den (omega (arith, ints)) (omega (arith, ints))
    c.requires.less

pub returns-clause-below : goal.returns-clause-below
returns-clause-below c = below _ c.args.hi.now.den c.args.hi.now.num _ c.args.lo.now.num c.args.lo.now.den (omega (arith, ints)) (omega (arith, ints))
    c.requires.less
