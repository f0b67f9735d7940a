use Rattle.std.proofs.Common.{◌+◌, ◌<◌, arith}
use Rattle.std.proofs.Math.Facts.{Fits-le}
use Rattle.shape_desk.proofs.FirstLf.{first_lf, no_lf}
use Rattle.shape_desk.proofs.line.find_lf.Goals as goal

pub overflow_add-result : goal.overflow_add-result
overflow_add-result c =
    let l : c.args.from + c.in-Some.k < c.args.to =
    (first_lf c.args.bytes.now c.args.from c.args.to c.in-Some.k c.requires.order c.requires.within c.requires.none c.in-Some.ensures).0 in
    Fits-le (omega arith) c.ranges.to

pub returns-in-Some : goal.returns-in-Some
returns-in-Some c = first_lf c.args.bytes.now c.args.from c.args.to c.in-Some.k c.requires.order c.requires.within c.requires.none c.in-Some.ensures

pub returns-in-None : goal.returns-in-None
returns-in-None c = no_lf c.args.bytes.now c.args.from c.args.to c.requires.order c.requires.within c.requires.none c.in-None.ensures
