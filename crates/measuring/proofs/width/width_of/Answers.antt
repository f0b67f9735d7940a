use Rattle.std.proofs.Common.{rules, sym, subst, ◌∙◌, arith, FitsSigned, w64}
use Rattle.std.proofs.lemmas.Int.{to_z-of_z}
use Rattle.std.proofs.lemmas.List.{length-map}
use Rattle.measure_terms.specs.Widths.{IsReach}
use Rattle.measuring.specs.Corners.{corner, corners}
use Rattle.measuring.proofs.width.width_of.Goals as goal

pub returns-clause-is : goal.returns-clause-is
returns-clause-is c =
    let h = corners c.args.round.now in
    let l = c.requires.i in
    let all = length-map c.args.round.now corner in
    let turned : FitsSigned w64 c.turn_to.result = search rules in
    let long : FitsSigned w64 c.length_of.result = search rules in
    record {
      side = omega (arith, l, all);
      squared = to_z-of_z w64 c.length_of.result long ∙ c.length_of.ensures.value;
      far = c.farthest.result;
      reach = subst (λ n. IsReach h c.args.i n c.farthest.result) (sym all) c.farthest.ensures;
      across = to_z-of_z w64 c.turn_to.result turned ∙ c.turn_to.ensures.value;
    }
