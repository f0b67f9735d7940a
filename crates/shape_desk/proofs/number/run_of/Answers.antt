use Rattle.std.proofs.Common.{◌<◌, length, sym, ◌∙◌, arith}
use Rattle.shape_desk.proofs.Numbers.{run_more, run_ends, run_begun}
use Rattle.shape_desk.proofs.number.run_of.Goals as goal

pub returns-then-not-is_ascii_digit-clause-len : goal.returns-then-not-is_ascii_digit-clause-len
returns-then-not-is_ascii_digit-clause-len c =
    let l : c.loop-i.i < length c.args.bytes.now = omega arith in
    (run_ends c.args.bytes.now c.loop-i.i c.loop-i.value l (sym c.is_ascii_digit.ensures.value ∙ c.if-not-is_ascii_digit.true) c.loop-i.invariant).0

pub returns-then-not-is_ascii_digit-clause-value : goal.returns-then-not-is_ascii_digit-clause-value
returns-then-not-is_ascii_digit-clause-value c =
    let l : c.loop-i.i < length c.args.bytes.now = omega arith in
    (run_ends c.args.bytes.now c.loop-i.i c.loop-i.value l (sym c.is_ascii_digit.ensures.value ∙ c.if-not-is_ascii_digit.true) c.loop-i.invariant).1

pub loop-i-preserved : goal.loop-i-preserved
loop-i-preserved c =
    let l : c.loop-i.i < length c.args.bytes.now = omega arith in
    run_more c.args.bytes.now c.loop-i.i c.loop-i.value c.next_value-value.result l (sym c.is_ascii_digit.ensures.value ∙ c.if-not-is_ascii_digit.false)
    c.next_value-value.ensures.next c.next_value-value.ensures.great c.loop-i.invariant

pub loop-i-init : goal.loop-i-init
loop-i-init c = rw c.from-value.ensures (run_begun c.args.bytes.now c.requires)
