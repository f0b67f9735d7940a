use Rattle.std.proofs.Common.{◌≡◌, ◌∙◌, ap, sym, subst, true, ℕ, nat_eq, IsTrue}
use Rattle.std.proofs.lemmas.Bool.{eq-eqb, eqb-true}
use Rattle.shape_terms.specs.Points.{sides_of, in_box, raster_point, raster_number}
use Rattle.shape_terms.proofs.Boxes.{raster_point_in, raster_number-raster_point}
use Rattle.judge_field.proofs.judge.has_number.Goals as goal

equal : (a b : ℕ) → IsTrue (nat_eq a b) → a ≡ b
equal a b t = eqb-true a b t

equal_back : (a b : ℕ) → a ≡ b → IsTrue (nat_eq a b)
equal_back a b e = eq-eqb a b e

pub returns-then-inside : goal.returns-then-inside
returns-then-inside g c =
    let sides = sides_of (g.P.Point.coords c.args.sides.now.lengths) in
    let p = g.P.Point.coords c.args.p in (
      λ t. sym c.raster.ensures.back ∙ ap (raster_point sides) (equal c.raster.result c.args.i t),
      λ e. equal_back c.raster.result c.args.i
          (c.raster.ensures.value ∙ (ap (raster_number sides) e ∙ raster_number-raster_point sides c.args.i c.requires)),
    )

pub returns-else-inside : goal.returns-else-inside
returns-else-inside g c =
    let sides = sides_of (g.P.Point.coords c.args.sides.now.lengths) in (
      λ t. absurd (let f = c.if-inside.false in cc),
      λ e. c.inside.ensures ∙ subst (λ q. IsTrue (in_box sides q)) (sym e) (raster_point_in sides c.args.i c.requires),
    )
