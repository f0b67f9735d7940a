use Rattle.std.proofs.Common.{arith}
use Rattle.shape_grid.proofs.SpanSteps.{first_word, first_end, next_word, next_end, span_all}
use Rattle.shape_grid.proofs.stretches.span_end.Goals as goal

pub returns-then-rest-ne0 : goal.returns-then-rest-ne0
returns-then-rest-ne0 c =
    first_end c.args.words.now c.args.kind c.args.from c.other.result c.other.ensures (omega arith) c.if-rest-ne0.true c.args.until c.lesser.result
    c.requires.ordered c.lesser.ensures.first c.lesser.ensures.second

pub loop-w-init : goal.loop-w-init
loop-w-init c = first_word c.args.words.now c.args.kind c.args.from c.other.result c.other.ensures (omega arith) c.if-rest-ne0.false

pub returns-then-found-ne0 : goal.returns-then-found-ne0
returns-then-found-ne0 c =
    next_end c.args.words.now c.args.kind c.args.from c.loop-w.w c.other-found.result c.other-found.ensures (omega arith) c.loop-w.invariant c.args.until
    c.lesser-then-found-ne0.result c.if-found-ne0.true c.requires.ordered (omega arith) c.lesser-then-found-ne0.ensures.first
    c.lesser-then-found-ne0.ensures.second

pub loop-w-preserved : goal.loop-w-preserved
loop-w-preserved c =
    next_word c.args.words.now c.args.kind c.args.from c.loop-w.w c.other-found.result c.other-found.ensures (omega arith) c.loop-w.invariant
    c.if-found-ne0.false

pub returns : goal.returns
returns c = span_all c.args.words.now c.args.kind c.args.from c.args.until c.requires.ordered (λ i a b. c.loop-w.invariant i a (omega arith))
