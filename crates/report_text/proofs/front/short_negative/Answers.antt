use Rattle.std.proofs.Common.{◌≡◌, ◌+◌, ◌-◌, ◌<◌, suc, negsuc, length, take, drop, subst, to_z, of_z, arith, rules}
use Rattle.std.specs.Int.{w64}
use Rattle.std.proofs.lemmas.List.{take_all, length-drop}
use Rattle.shape_desk.specs.Number.{IsShortNumber}
use Rattle.report_text.proofs.Standing.{negative_stands}
use Rattle.report_text.proofs.front.short_negative.Goals as goal

pub returns-then-short-gt0-clause-stands : goal.returns-then-short-gt0-clause-stands
returns-then-short-gt0-clause-stands c =
    let bytes = c.args.bytes.now in
    let n = c.in-Some.short.value in
    let behind = drop (c.args.at + 2) bytes in
    let all : take (length bytes - (c.args.at + 2)) behind ≡ behind =
    take_all (length bytes - (c.args.at + 2)) behind (omega (arith, length-drop (c.args.at + 2) bytes)) in
    let inside : c.args.at + 1 < length bytes = omega arith in
    let same : n ≡ suc (n - 1) = omega arith in
    let short : IsShortNumber behind c.in-Some.short.len n = rw all at c.in-Some.ensures in
    let e : to_z w64 (of_z w64 c.negative.result) ≡ negsuc (n - 1) = search rules in
    rw e
    (negative_stands bytes c.args.at c.in-Some.short.len (suc (n - 1)) inside c.if-bytes-at-ne32.false c.if-bytes-at-ne45.false
    (subst (λ k. IsShortNumber behind c.in-Some.short.len k) same short))

pub returns-then-short-gt0-clause-narrow : goal.returns-then-short-gt0-clause-narrow
returns-then-short-gt0-clause-narrow c =
    let n = c.in-Some.short.value in
    let e : to_z w64 (of_z w64 c.negative.result) ≡ negsuc (n - 1) = search rules in
    rw e (record { sfits = omega (arith, c.in-Some.ensures.fits) })
