use Rattle.std.proofs.Common.{pos, ap, sym, subst, ◌∙◌, arith}
use Rattle.std.proofs.lemmas.Int.{ints}
use Rattle.std.proofs.lemmas.List.{length-map}
use Rattle.measure_terms.specs.Widths.{IsLeastSide}
use Rattle.measure_terms.proofs.AreaSigns.{area_sign}
use Rattle.measure_terms.proofs.Hulled.{hull_lengths}
use Rattle.measuring.specs.Corners.{corner, corners, IsOf}
use Rattle.measuring.specs.Narrower.{width_told}
use Rattle.measuring.proofs.Sized.{across_sign, length_sign, whole, above_zero}
use Rattle.measuring.proofs.size.size_of_polygon.Goals as goal

pub least_width-width-requires-clause-lengths : goal.least_width-width-requires-clause-lengths
least_width-width-requires-clause-lengths c =
    let h = corners c.args.round.now in
    let many = c.requires.many in
    let all = length-map c.args.round.now corner in
    hull_lengths (IsOf h) h (omega (arith, many, all)) c.requires.convex

pub with_width-requires-clause-side : goal.with_width-requires-clause-side
with_width-requires-clause-side c =
    let l = c.least_width-width.ensures.least.is.side in
    let all = length-map c.args.round.now corner in
    omega (arith, l, all)

pub with_width-requires-clause-left : goal.with_width-requires-clause-left
with_width-requires-clause-left c = (let h = corners c.args.round.now in area_sign (IsOf h) h c.requires.convex)

pub with_width-requires-clause-length : goal.with_width-requires-clause-length
with_width-requires-clause-length c =
    let h = corners c.args.round.now in
    let many = c.requires.many in
    let all = length-map c.args.round.now corner in
    let w = c.least_width-width.result in
    above_zero w.length (length_sign h (width_told w) (hull_lengths (IsOf h) h (omega (arith, many, all)) c.requires.convex)
    c.least_width-width.ensures.least.is)

pub returns : goal.returns
returns c =
    let h = corners c.args.round.now in
    let many = c.requires.many in
    let all = length-map c.args.round.now corner in
    let w = c.least_width-width.result in
    let o = c.least_width-width.ensures.least in
    let z = c.with_width.ensures in
    let l = length_sign h (width_told w) (hull_lengths (IsOf h) h (omega (arith, many, all)) c.requires.convex) o.is in
    record {
      width = width_told w;
      size = record {
        double_area = z.double_area;
        perimeter = z.perimeter;
        least = subst (λ n. IsLeastSide h n (width_told w)) (sym all) o;
        across = ap pos z.across ∙ whole w.across (across_sign h (width_told w) c.requires.convex o.is);
        length = ap pos z.length ∙ whole w.length (omega (arith, ints, l));
        min_feret = z.min_feret;
        dx = z.dx;
        dy = z.dy;
      };
    }
