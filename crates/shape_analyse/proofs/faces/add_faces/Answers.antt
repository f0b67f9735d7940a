use Rattle.std.proofs.Common.{◌≡◌, arith, subst, ◌++◌}
use Rattle.shape_analyse.specs.Growing.{IsTextOf}
use Rattle.shape_analyse.specs.Facing.{HasFaces}
use Rattle.shape_analyse.specs.Tallies.{exposed_count}
use Rattle.shape_analyse.proofs.TallyGrowth.{exposed_more}
use Rattle.shape_analyse.proofs.faces.add_faces.Goals as goal

pub loop-face-preserved : goal.loop-face-preserved
loop-face-preserved c =
    let X = c.args.grid.now in
    let f = c.loop-face.face in
    let h = c.loop-face.invariant in
    let more = c.in_ok-add_face.ensures in (
      λ Y before same t. more.text Y before same (h.0 Y before same t),
      omega (arith, h.1, more.exposed, c.from.ensures, exposed_more X f),
      omega (arith, h.2, c.from.ensures, more.few),
    )

pub returns-clause-exposed : goal.returns-clause-exposed
returns-clause-exposed c =
    let all : c.loop-face.face ≡ 6 = omega (arith, c.loop-face.auto.face-end, c.loop-face-test.false) in
    subst (λ f. c.loop-face.exposed ≡ exposed_count c.args.grid.now f) all c.loop-face.invariant.1

pub returns-clause-text : goal.returns-clause-text
returns-clause-text c =
    let all : c.loop-face.face ≡ 6 = omega (arith, c.loop-face.auto.face-end, c.loop-face-test.false) in
    λ X before same h. subst (λ f. IsTextOf (HasFaces X f) (before ++ c.loop-face.report)) all (c.loop-face.invariant.0 X before same h)
