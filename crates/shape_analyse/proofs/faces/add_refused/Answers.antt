use Rattle.std.proofs.Common.{◌≡◌, ◌≤◌, ◌^◌, ◌++◌, [], ◌∷◌, length, rules, refl, subst, arith}
use Rattle.std.proofs.lemmas.List.{length-append}
use Rattle.shape_terms.specs.Patches.{RefusedPoint}
use Rattle.report_terms.specs.Lines.{Line, IsLineOf}
use Rattle.shape_refute.specs.Weights.{refutation_of}
use Rattle.shape_analyse.specs.Growing.{IsTextOf}
use Rattle.shape_analyse.specs.Facing.{IsFacing, points_found, at_patch}
use Rattle.shape_analyse.proofs.Growth.{text_more, text_behind}
use Rattle.shape_analyse.proofs.FoundLines.{weights_fit}
use Rattle.shape_analyse.proofs.FaceGrowth.{patch_refused, patch_some}
use Rattle.shape_analyse.proofs.faces.add_refused.Goals as goal

pub add-requires : goal.add-requires
add-requires c =
    let p = c.refusal-why.result.0 in
    let points = c.args.patch.now.found.patch.points in
    let own : IsLineOf 3 (Line.On (p.x ∷ p.y ∷ p.z ∷ [])) = search rules in
    let run : length (points ++ (p.x ∷ p.y ∷ p.z ∷ []) ∷ []) ≤ 2 ^ 32 = omega (arith, length-append points ((p.x ∷ p.y ∷ p.z ∷ []) ∷ []), c.requires.few) in (
      refl,
      (
        own.1,
        weights_fit 3 c.requires.axis (points ++ (p.x ∷ p.y ∷ p.z ∷ []) ∷ []) (refutation_of c.refusal-why.result.1) run
            (c.requires.refused.weights c.loop-m.m _ c.refusal-why.ensures.refused) c.refusal-why.ensures.small,
      ),
    )

pub loop-m-preserved : goal.loop-m-preserved
loop-m-preserved c =
    let p = c.refusal-why.result.0 in
    let r : RefusedPoint = record { point = p.x ∷ p.y ∷ p.z ∷ []; why = refutation_of c.refusal-why.result.1 } in
    let points = c.args.patch.now.found.patch.points in
    let own : IsLineOf 3 (Line.On r.point) = search rules in
    let run : length (points ++ r.point ∷ []) ≤ 2 ^ 32 = omega (arith, length-append points (r.point ∷ []), c.requires.few) in
    let fields : IsLineOf 3 (Line.Off r.point r.why) = (
      refl,
      (
        own.1,
        weights_fit 3 c.requires.axis (points ++ r.point ∷ []) r.why run (c.requires.refused.weights c.loop-m.m r c.refusal-why.ensures.refused)
            c.refusal-why.ensures.small,
      ),
    ) in
    λ X f found left before are h.
    let i = c.loop-m.invariant X f found left before are h in
    text_more _ _ _ i.lines _ i.is (text_behind before _ _ c.in_ok-add.ensures.ok)
    (patch_refused X f found left c.args.patch.now.found are i.lines c.loop-m.m r i.so c.refusal-why.ensures.refused
    (patch_some X f found left c.args.patch.now.found are) fields)

pub returns : goal.returns
returns c =
    let x = c.args.patch.now.found in
    let all : c.loop-m.m ≡ length x.refused = omega (arith, c.loop-m.auto.m-end, c.refused-m-end.ensures, c.loop-m-test.false) in
    λ X f found left before are h.
    subst (λ m. IsTextOf (IsFacing X (at_patch f (points_found found) x (length x.patch.points) m)) (before ++ c.loop-m.report)) all
    (c.loop-m.invariant X f found left before are h)
