use Rattle.std.proofs.Common.{◌≡◌, true, false, refl, sym, ap, ◌∙◌, arith, inl, inr}
use Rattle.std.proofs.lemmas.Bool.{cases_lt}
use Rattle.shape_terms.specs.Adjacency.{near_point}
use Rattle.shape_terms.specs.Pictures.{at}
use Rattle.shape_terms.proofs.NeighbourNumbers.{near_listed_once}
use Rattle.judge_outline.specs.Terms.{point_of}
use Rattle.judge_outline.proofs.Rounds.{touch_yes, touch_no}
use Rattle.judge_outline.proofs.patch_round.touches_around.Goals as goal

pub loop-k-preserved : goal.loop-k-preserved
loop-k-preserved c =
    let p = point_of c.args.p in
    let recent = c.args.recent.now in
    λ j l h. elim (cases_lt j c.loop-k.k) [
      | inl a ↦ c.loop-k.invariant j a h
      | inr b ↦
          let same : j ≡ c.loop-k.k = omega arith in
          let f : true ≡ false = sym h ∙ ap (at recent) (ap (near_point p) same ∙ sym c.near.ensures) ∙ sym c.has.ensures ∙ c.if-has.false in
          cc
    ]

pub returns-then-has : goal.returns-then-has
returns-then-has c =
    let p = point_of c.args.p in
    let recent = c.args.recent.now in (
      (λ t. touch_yes recent p (point_of c.near.result) 26 c.loop-k.k (near_listed_once p) c.loop-k-test.true c.near.ensures
          (sym c.has.ensures ∙ c.if-has.true)),
      λ h. refl,
    )

pub returns : goal.returns
returns c =
    let p = point_of c.args.p in
    let recent = c.args.recent.now in
    ((λ t. cc), λ h. absurd (touch_no recent p 26 c.loop-k.k (near_listed_once p) (omega (arith, c.loop-k-test.false)) c.loop-k.invariant h))
