use Rattle.std.proofs.Common.{◌≡◌, ◌+◌, ◌-◌, ◌<◌, ◌≤◌, length, get_or, arith}
use Rattle.shape_desk.proofs.ShortDigits.{first_digit, digit_more, below_million}
use Rattle.shape_desk.proofs.short.short_run.Goals as goal

pub loop-len-init : goal.loop-len-init
loop-len-init c =
    let bytes = c.args.bytes.now in
    let d = get_or bytes 0 0 - 48 in
    let same : get_or bytes 0 0 ≡ 48 + d = omega (arith, c.requires.low) in
    rw (c.from.ensures, c.from-2.ensures)
    (first_digit bytes d (omega (arith, c.requires.room)) same (omega (arith, c.requires.high)) (omega (arith, c.requires.low)))

pub loop-len-preserved : goal.loop-len-preserved
loop-len-preserved c =
    let bytes = c.args.bytes.now in
    let l = c.loop-len in
    let d = c.digit_value-digit.result in
    let few : d ≤ 9 = omega (arith, c.if-digit-gt9.false) in
    let same : get_or bytes l.len 0 ≡ 48 + d = c.digit_value-digit.ensures few in
    let inside : l.len < length bytes = omega (arith, c.requires.room, c.loop-len-test.true) in
    let fits = below_million l.len l.value (omega (arith, c.loop-len-test.true)) l.invariant.small in
    rw c.with_digit-value.ensures (digit_more bytes l.len l.value d inside same (omega (arith, few)) fits l.invariant)
