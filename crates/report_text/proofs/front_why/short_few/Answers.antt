use Rattle.std.proofs.Common.{◌≡◌, ◌+◌, ◌-◌, ◌<◌, length, get_or, arith}
use Rattle.report_text.proofs.ShortLists.{digit_stands}
use Rattle.report_text.proofs.front_why.short_few.Goals as goal

pub returns-clause-stands : goal.returns-clause-stands
returns-clause-stands c =
    let bytes = c.args.bytes.now in
    let d = get_or bytes (c.args.at + 1) 0 in
    let inside : c.args.at + 1 < length bytes = omega arith in
    let few : d - 48 < 10 = omega arith in
    let same : d ≡ 48 + (d - 48) = omega arith in
    rw c.from.ensures (digit_stands bytes c.args.at (d - 48) inside few c.if-bytes-at-ne32.false same)
