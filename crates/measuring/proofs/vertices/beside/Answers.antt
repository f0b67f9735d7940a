use Rattle.std.proofs.Common.{inl, inr, ap, sym, ◌∙◌, subst, arith, rules, FitsSigned, w32}
use Rattle.std.proofs.lemmas.Int.{to_z-of_z}
use Rattle.std.specs.Prelude.{IsTrue, slice_set}
use Rattle.shape_terms.specs.Points.{Point, sides_of, in_box, raster_point}
use Rattle.shape_terms.proofs.Boxes.{raster_point_in}
use Rattle.measuring.specs.Corners.{corner}
use Rattle.measuring.proofs.SiteNumbers.{axes_of, beside_point, beside_once}
use Rattle.measuring.proofs.vertices.beside.Goals as goal

pub unraster-p-requires : goal.unraster-p-requires
unraster-p-requires g c = c.requires.site.below

pub with-right-requires : goal.with-right-requires
with-right-requires g c = elim g.met.P.Point.two_or_three [ inl e ↦ omega (arith, e) | inr e ↦ omega (arith, e) ]

pub with-q-requires : goal.with-q-requires
with-q-requires g c = elim g.met.P.Point.two_or_three [ inl e ↦ omega (arith, e) | inr e ↦ omega (arith, e) ]

pub raster-number-requires : goal.raster-number-requires
raster-number-requires g c =
    let ns = g.P.Point.coords c.args.sides.lengths in
    let sides = sides_of ns in
    let v = c.args.v in
    let o = c.requires.other in
    let axes = axes_of ns (g.met.P.Point.two_or_three) (g.met.P.Point.axes c.args.sides.lengths) in
    let f : FitsSigned w32 v.x = search rules in
    let h : FitsSigned w32 v.y = search rules in
    let x = to_z-of_z w32 v.x f in
    let y = to_z-of_z w32 v.y h in
    let right = c.with-right.ensures ∙ (λ i. slice_set (c.unraster-p.ensures.value i) 0 (x i)) in
    let e = c.with-q.ensures ∙ (λ i. slice_set (right i) 1 (y i)) ∙ beside_point sides c.args.site o.0 (corner v) axes c.requires.site o.1 in
    subst (λ (t : Point). IsTrue (in_box sides t)) (sym e) (raster_point_in sides o.0.number o.1.is.below)

pub returns : goal.returns
returns g c = λ q b.
    let ns = g.P.Point.coords c.args.sides.lengths in
    let sides = sides_of ns in
    let v = c.args.v in
    let axes = axes_of ns (g.met.P.Point.two_or_three) (g.met.P.Point.axes c.args.sides.lengths) in
    let f : FitsSigned w32 v.x = search rules in
    let h : FitsSigned w32 v.y = search rules in
    let x = to_z-of_z w32 v.x f in
    let y = to_z-of_z w32 v.y h in
    let right = c.with-right.ensures ∙ (λ i. slice_set (c.unraster-p.ensures.value i) 0 (x i)) in
    let e = c.with-q.ensures ∙ (λ i. slice_set (right i) 1 (y i)) ∙ beside_point sides c.args.site q (corner v) axes c.requires.site b in
    beside_once sides c.args.site c.site_of.result q (corner v) axes b c.site_of.ensures.site
    (ap (raster_point sides) c.site_of.ensures.number ∙ c.raster-number.ensures.back ∙ e)
