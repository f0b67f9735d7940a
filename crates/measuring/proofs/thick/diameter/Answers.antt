use Rattle.std.proofs.Common.{refl, ◌+◌, ◌*◌, ◌/◌, arith}
use Rattle.measure_terms.proofs.RootFound.{root_is, root_from_whole}
use Rattle.measuring.proofs.thick.diameter.Goals as goal

pub returns-clause-value : goal.returns-clause-value
returns-clause-value c =
    let w = c.isqrt-whole.result in
    let s = 4 * c.args.square in
    root_is s ((w + 1) / 2)
    (root_from_whole s w ((w + 1) / 2) (omega (arith, c.isqrt-whole.ensures.square_le)) (omega (arith, c.isqrt-whole.ensures.next_square_gt)) refl)
