use Rattle.std.proofs.Common.{arith}
use Rattle.shape_grid.proofs.SpanSteps.{word_before, last_start, span_whole}
use Rattle.shape_grid.proofs.stretches.span_start.Goals as goal

pub loop-start-init : goal.loop-start-init
loop-start-init c = record { within = omega arith; all = λ i a b. absurd (omega arith) }

pub other-requires : goal.other-requires
other-requires c = omega arith

pub returns-then-rest-ne0 : goal.returns-then-rest-ne0
returns-then-rest-ne0 c =
    last_start c.args.words.now c.loop-start.start c.args.until c.other.result (omega arith) c.other.ensures c.loop-start.invariant.all c.args.from
    c.less_at_least.result c.requires.ordered c.loop-start.invariant.within c.if-rest-ne0.true c.less_at_least.ensures.less c.less_at_least.ensures.least

pub loop-start-preserved : goal.loop-start-preserved
loop-start-preserved c = record {
  within = omega arith;
  all = word_before c.args.words.now c.loop-start.start c.args.until c.other.result (omega arith) c.other.ensures c.loop-start.invariant.all
      c.if-rest-ne0.false;
}

pub returns : goal.returns
returns c =
    span_whole c.args.words.now c.args.from c.args.until c.loop-start.start c.requires.ordered (omega arith) c.loop-start.invariant.all
