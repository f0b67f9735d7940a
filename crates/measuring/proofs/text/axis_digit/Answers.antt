use Rattle.std.proofs.Common.{◌≡◌, ◌+◌, ◌-◌, ◌/◌, ◌%◌, ◌<◌, ap, sym, ◌∙◌, arith, length, rules, FitsSigned, w32, drop}
use Rattle.std.specs.Prelude.{nat_abs}
use Rattle.std.proofs.lemmas.Int.{to_z-of_z}
use Rattle.std.proofs.lemmas.List.{length-map}
use Rattle.shape_terms.specs.Points.{sides_of, coordinate, raster_point}
use Rattle.measuring.proofs.PointFacts.{side_is}
use Rattle.measuring.proofs.TextSteps.{digit_step, digit_last}
use Rattle.measuring.proofs.text.axis_digit.Goals as goal

pub loop-j-preserved : goal.loop-j-preserved
loop-j-preserved g c =
    let n = g.P.Point.coords c.args.sides.lengths in
    let ns = sides_of n in
    let j = c.loop-j.j in
    let k = c.args.k in
    let f : FitsSigned w32 c.side.result = search rules in
    let axes = g.met.P.Point.axes c.args.sides.lengths in
    let m : k < length ns = omega (arith, length-map n nat_abs, axes, c.requires) in
    let side = ap nat_abs (to_z-of_z w32 c.side.result f ∙ c.side.ensures.value) ∙ sym (side_is n j) in
    ap (λ s. coordinate (raster_point (drop (j + 1) ns) (c.loop-j.left / s)) (k - (j + 1))) side ∙ sym (digit_step ns j k c.loop-j.left c.loop-j-test.true m)
    ∙ c.loop-j.invariant

pub returns : goal.returns
returns g c =
    let n = g.P.Point.coords c.args.sides.lengths in
    let ns = sides_of n in
    let k = c.args.k in
    let left = c.loop-j.left in
    let f : FitsSigned w32 c.side-2.result = search rules in
    let axes = g.met.P.Point.axes c.args.sides.lengths in
    let m : k < length ns = omega (arith, length-map n nat_abs, axes, c.requires) in
    let e : c.loop-j.j ≡ k = omega arith in
    let side = ap nat_abs (to_z-of_z w32 c.side-2.result f ∙ c.side-2.ensures.value) ∙ sym (side_is n k) in
    ap (λ s. left % s) side
    ∙ ap nat_abs (sym (digit_last ns k left m) ∙ sym (ap (λ j. coordinate (raster_point (drop j ns) left) (k - j)) e) ∙ c.loop-j.invariant)
