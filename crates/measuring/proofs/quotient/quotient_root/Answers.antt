use Rattle.std.proofs.Common.{refl, ◌+◌, ◌*◌, ◌/◌, ◌^◌, arith}
use Rattle.measure_terms.proofs.RootFound.{quotient_root_from_whole}
use Rattle.measuring.proofs.Roots.{small_whole, half}
use Rattle.measuring.proofs.quotient.quotient_root.Goals as goal

pub returns-clause-nearest : goal.returns-clause-nearest
returns-clause-nearest c =
    let w = c.isqrt-whole.result in
    quotient_root_from_whole c.args.square c.args.by (4000000 * c.args.square / c.args.by) w ((w + 1) / 2) c.requires.some refl c.isqrt-whole.ensures.square_le
    c.isqrt-whole.ensures.next_square_gt refl

pub returns-clause-small : goal.returns-clause-small
returns-clause-small c =
    let w = c.isqrt-whole.result in
    let l = c.requires.small in
    half w (2 ^ 51) (2 ^ 52) (small_whole (4000000 * c.args.square) c.args.by w (2 ^ 51) c.isqrt-whole.ensures.square_le (omega (arith, l))) (omega arith)

pub returns-clause-root : goal.returns-clause-root
returns-clause-root c = λ l.
    let w = c.isqrt-whole.result in
    half w (2 ^ 39) (2 ^ 40) (small_whole (4000000 * c.args.square) c.args.by w (2 ^ 39) c.isqrt-whole.ensures.square_le (omega (arith, l))) (omega arith)
