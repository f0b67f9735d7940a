use Rattle.std.proofs.Common.{◌≡◌, ◌≤◌, ◌∙◌, length, arith, subst, sym}
use Rattle.std.specs.Prelude.{IsTrue}
use Rattle.std.proofs.lemmas.Bool.{and_parts}
use Rattle.shape_terms.specs.Points.{in_box}
use Rattle.shape_terms.specs.Pictures.{at, object_points}
use Rattle.report_terms.specs.Lines.{IsLineOf}
use Rattle.report_text.specs.Telling.{Tells}
use Rattle.shape_analyse.specs.Growing.{aim_of, IsGrowing, IsTextOf, near_line}
use Rattle.shape_analyse.proofs.Growth.{tells_line, next_point, none_left, all_get, growing_more}
use Rattle.shape_analyse.proofs.begin.tell_nears.Goals as goal

pub point-requires : goal.point-requires
point-requires g c =
    let next = next_point (object_points c.args.grid.now) _ c.loop-p.i (g.P.Point.coords c.in-Some.p) (c.loop-p.invariant.2 ∙ c.in-Some.ensures.steps) in
    omega (arith, next.2, c.requires.features.many)

pub tell_near-requires-clause-inside : goal.tell_near-requires-clause-inside
tell_near-requires-clause-inside g c =
    let X = c.args.grid.now in
    let p = g.P.Point.coords c.in-Some.p in
    let next = next_point (object_points X) _ c.loop-p.i p (c.loop-p.invariant.2 ∙ c.in-Some.ensures.steps) in
    let object = all_get (λ q. IsTrue (at X q)) (object_points X) c.loop-p.i p c.objects-p-items.ensures.object next.0 in
    subst (λ sides. IsTrue (in_box sides p)) (sym c.sides-sides.ensures.value) (and_parts _ _ object).0

pub loop-p-preserved : goal.loop-p-preserved
loop-p-preserved g c =
    let X = c.args.grid.now in
    let p = g.P.Point.coords c.in-Some.p in
    let q = g.P.Point.coords c.point.result in
    let next = next_point (object_points X) _ c.loop-p.i p (c.loop-p.invariant.2 ∙ c.in-Some.ensures.steps) in
    let three : length X.sides ≤ 3 = omega (arith, c.requires.axes, c.requires.few) in
    let fields = subst (λ d. IsLineOf d (near_line p q)) (sym c.requires.axes) c.tell_near.ensures.fields in
    let least = c.requires.features.least c.loop-p.i p q next.0 c.point.ensures.item in (
      tt,
      tt,
      next.1,
      omega (arith, next.2),
      λ shelf name by begun start.
          tells_line (near_line p q) c.tell_near.ensures.told
          (λ lines so. growing_more (aim_of X shelf name by) c.loop-p.i lines p q _ so three fields next.0 least)
          (c.loop-p.invariant.4 shelf name by begun start),
    )

pub returns : goal.returns
returns g c =
    let points = object_points c.args.grid.now in
    let all : c.loop-p.i ≡ length points = none_left points c.loop-p.i c.loop-p.invariant.3 (c.loop-p.invariant.2 ∙ c.in-None.ensures.steps.0) in
    λ shelf name by begun start.
    subst (λ n. Tells (IsTextOf (IsGrowing (aim_of c.args.grid.now shelf name by) n)) begun c.loop-p.page (g.D.Desk.state c.loop-p.desk)) all
    (c.loop-p.invariant.4 shelf name by begun start)
