use Rattle.std.proofs.Common.{sym, ◌∙◌}
use Rattle.shape_desk.proofs.Numbers.{run_more, run_ends}
use Rattle.shape_desk.proofs.number.longer_run.Goals as goal

pub returns-then-not-is_ascii_digit-clause-len : goal.returns-then-not-is_ascii_digit-clause-len
returns-then-not-is_ascii_digit-clause-len c =
    (run_ends c.args.bytes.now c.loop-i.i c.loop-i.value c.loop-i-test.true (sym c.is_ascii_digit.ensures.value ∙ c.if-not-is_ascii_digit.true)
    c.loop-i.invariant).0

pub returns-then-not-is_ascii_digit-clause-value : goal.returns-then-not-is_ascii_digit-clause-value
returns-then-not-is_ascii_digit-clause-value c =
    (run_ends c.args.bytes.now c.loop-i.i c.loop-i.value c.loop-i-test.true (sym c.is_ascii_digit.ensures.value ∙ c.if-not-is_ascii_digit.true)
    c.loop-i.invariant).1

pub loop-i-preserved : goal.loop-i-preserved
loop-i-preserved c =
    run_more c.args.bytes.now c.loop-i.i c.loop-i.value c.next_value-value.result c.loop-i-test.true
    (sym c.is_ascii_digit.ensures.value ∙ c.if-not-is_ascii_digit.false) c.next_value-value.ensures.next c.next_value-value.ensures.great c.loop-i.invariant
