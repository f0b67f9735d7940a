use Rattle.std.proofs.Common.{refl, ◌+◌, ◌/◌}
use Rattle.measure_terms.proofs.RootFound.{root_is, root_from_whole}
use Rattle.measuring.proofs.round.root.Goals as goal

pub returns-clause-value : goal.returns-clause-value
returns-clause-value c =
    let w = c.isqrt-whole.result in
    root_is c.args.square ((w + 1) / 2)
    (root_from_whole c.args.square w ((w + 1) / 2) c.isqrt-whole.ensures.square_le c.isqrt-whole.ensures.next_square_gt refl)

pub returns-clause-nearest : goal.returns-clause-nearest
returns-clause-nearest c =
    let w = c.isqrt-whole.result in
    root_from_whole c.args.square w ((w + 1) / 2) c.isqrt-whole.ensures.square_le c.isqrt-whole.ensures.next_square_gt refl
