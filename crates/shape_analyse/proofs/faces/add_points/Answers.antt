use Rattle.std.proofs.Common.{[], ◌∷◌, rules, length, subst, arith, ◌≡◌, ◌++◌}
use Rattle.report_terms.specs.Lines.{Line, IsLineOf}
use Rattle.shape_analyse.specs.Growing.{IsTextOf}
use Rattle.shape_analyse.specs.Facing.{IsFacing, points_found, at_patch}
use Rattle.shape_analyse.proofs.Growth.{text_more, text_behind}
use Rattle.shape_analyse.proofs.FaceGrowth.{patch_point}
use Rattle.shape_analyse.proofs.faces.add_points.Goals as goal

pub loop-j-preserved : goal.loop-j-preserved
loop-j-preserved c =
    let p = c.point.result in
    let fields : IsLineOf 3 (Line.On (p.x ∷ p.y ∷ p.z ∷ [])) = search rules in
    λ X f found left before are h.
    let i = c.loop-j.invariant X f found left before are h in
    text_more _ _ _ i.lines _ i.is (text_behind before _ _ c.in_ok-add.ensures.ok)
    (patch_point X f found left c.args.patch.now.found are i.lines c.loop-j.j (p.x ∷ p.y ∷ p.z ∷ []) i.so c.point.ensures fields)

pub returns : goal.returns
returns c =
    let x = c.args.patch.now.found in
    let all : c.loop-j.j ≡ length x.patch.points = omega (arith, c.loop-j.auto.j-end, c.len-j-end.ensures, c.loop-j-test.false) in
    λ X f found left before are h.
    subst (λ j. IsTextOf (IsFacing X (at_patch f (points_found found) x j 0)) (before ++ c.loop-j.report)) all (c.loop-j.invariant X f found left before are h)
