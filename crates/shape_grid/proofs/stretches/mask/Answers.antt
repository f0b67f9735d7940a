use Rattle.std.proofs.Common.{arith}
use Rattle.shape_grid.proofs.SpanSteps.{mask_of}
use Rattle.shape_grid.proofs.stretches.mask.Goals as goal

pub returns : goal.returns
returns c =
    mask_of c.args.w c.args.from c.args.until c.first_bit.result c.end_bit.result c.bits_from.result c.bits_from-2.result c.requires.first c.requires.last
    c.first_bit.ensures.here c.first_bit.ensures.behind c.end_bit.ensures.here c.end_bit.ensures.before (omega arith)
    c.bits_from.ensures.before c.bits_from.ensures.on c.bits_from-2.ensures.before c.bits_from-2.ensures.on
