use Rattle.std.proofs.Common.{arith}
use Rattle.std.proofs.lemmas.Nat.{pow_pos}
use Rattle.shape_adj.proofs.MaskBits.{one_bit, left_before, left_behind}
use Rattle.shape_adj.proofs.near.without_centre.Goals as goal

pub overflow_sub-below : goal.overflow_sub-below
overflow_sub-below c =
    let e = one_bit c.args.half (omega arith) in
    let p = pow_pos c.args.half in
    omega arith

pub returns-clause-before : goal.returns-clause-before
returns-clause-before c = λ k l. rw (one_bit c.args.half (omega arith)) (left_before c.args.cube c.args.half (omega arith) k l)

pub returns-clause-behind : goal.returns-clause-behind
returns-clause-behind c = λ k l. rw (one_bit c.args.half (omega arith)) (left_behind c.args.cube c.args.half (omega arith) k (omega arith) l)
