use Rattle.std.proofs.Common.{◌≡◌, ◌+◌, ◌-◌, ◌<◌, length, take, drop, arith}
use Rattle.std.proofs.lemmas.List.{take_all, length-drop}
use Rattle.report_text.proofs.Standing.{number_stands}
use Rattle.report_text.proofs.front.short_count.Goals as goal

pub returns-in-Some-clause-stands : goal.returns-in-Some-clause-stands
returns-in-Some-clause-stands c =
    let bytes = c.args.bytes.now in
    let behind = drop (c.args.at + 1) bytes in
    let all : take (length bytes - (c.args.at + 1)) behind ≡ behind =
    take_all (length bytes - (c.args.at + 1)) behind (omega (arith, length-drop (c.args.at + 1) bytes)) in
    let inside : c.args.at < length bytes = omega arith in
    number_stands bytes c.args.at c.in-Some.short.len c.in-Some.short.value inside c.if-bytes-at-ne32.false (rw all at c.in-Some.ensures)
