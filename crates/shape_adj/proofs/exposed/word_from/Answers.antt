use Rattle.std.proofs.Common.{◌<◌, ◌%◌, arith}
use Rattle.shape_adj.proofs.WordsFrom.{from_two}
use Rattle.shape_adj.proofs.exposed.word_from.Goals as goal

pub returns : goal.returns
returns c =
    let m : 0 < c.args.i % 64 = (let n = c.if-i-eq0.false in omega (arith, n)) in
    from_two c.args.values.now c.args.i c.word_at.result c.word_at-2.result c.word_at.ensures m c.word_at-2.ensures
