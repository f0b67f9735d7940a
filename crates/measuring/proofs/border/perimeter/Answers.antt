use Rattle.std.proofs.Common.{pos, ◌∙◌, arith}
use Rattle.std.proofs.lemmas.Int.{ints}
use Rattle.measure_terms.specs.Hulls.{vertex, end}
use Rattle.measure_terms.specs.Polygons.{side_length}
use Rattle.measuring.specs.Corners.{corners}
use Rattle.measuring.proofs.Summing.{next_sum}
use Rattle.measuring.proofs.border.perimeter.Goals as goal

pub loop-i-preserved : goal.loop-i-preserved
loop-i-preserved c =
    let h = corners c.args.round.now in
    let inv = c.loop-i.invariant in
    let d = c.side_length-sum.ensures.value ∙ (λ i. side_length (c.vertex.ensures.is i) (c.end.ensures.is i)) in
    let small = c.side_length-sum.ensures.small in
    let old = inv.small in
    record {
      value = next_sum (λ k. side_length (vertex h k) (end h k)) c.loop-i.i _ _ (pos c.side_length-sum.result) inv.value
          (omega (arith, ints, small, old)) d;
      small = omega (arith, small, old);
    }
