use Rattle.std.proofs.Common.{◌∙◌, arith}
use Rattle.std.proofs.lemmas.Int.{ints}
use Rattle.measure_terms.specs.Hulls.{vertex, end}
use Rattle.measure_terms.specs.Polygons.{side_area}
use Rattle.measuring.specs.Corners.{corners}
use Rattle.measuring.proofs.Summing.{next_sum}
use Rattle.measuring.proofs.area.double_area.Goals as goal

pub loop-i-preserved : goal.loop-i-preserved
loop-i-preserved c =
    let h = corners c.args.round.now in
    let inv = c.loop-i.invariant in
    let d = c.side_area-area.ensures.value ∙ (λ i. side_area (c.vertex.ensures.is i) (c.end.ensures.is i)) in
    let small = c.side_area-area.ensures.small in
    let old = inv.small in
    record {
      value = next_sum (λ k. side_area (vertex h k) (end h k)) c.loop-i.i _ _ c.side_area-area.result inv.value (omega (arith, ints, small, old)) d;
      small = omega (arith, ints, small, old);
    }
