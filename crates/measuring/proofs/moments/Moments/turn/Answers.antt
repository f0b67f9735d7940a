use Rattle.std.proofs.Common.{rules, FitsSigned, w32}
use Rattle.std.specs.Int.{w128}
use Rattle.std.proofs.lemmas.Int.{to_z-of_z}
use Rattle.measuring.specs.MomentsTold.{moments_told}
use Rattle.measuring.proofs.Parts.{turned}
use Rattle.measuring.proofs.moments.Moments.turn.Goals as goal

pub returns : goal.returns
returns c =
    let a = c.matrix-matrix.result in
    let f : FitsSigned w32 c.signed.result = search rules in
    let fy : FitsSigned w128 a.double_y = search rules in
    let down = simp to_z-of_z at c.signed.ensures.down in
    let up = simp to_z-of_z at c.signed.ensures.up in
    rw (to_z-of_z w32 c.signed.result f)
    (turned (moments_told c.args.self.now) a c.matrix-matrix.ensures c.part.result c.part-2.result c.signed.result
    (λ e. (let t = c.is_round.ensures.1 e in let f = c.if-is_round.false in cc))
    c.part.ensures.rounded c.part-2.ensures.rounded c.signed.ensures.size down up)
