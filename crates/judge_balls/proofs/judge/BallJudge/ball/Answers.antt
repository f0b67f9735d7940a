use Rattle.std.proofs.Common.{◌≡◌, ◌⊎◌, ◌↔◌, ◌+◌, ◌<◌, ℕ, Bool, true, false, refl, ap, sym, ◌∙◌, subst, List, [], ◌∷◌, ◌++◌, length, set}
use Rattle.shape_terms.specs.Points.{sides_of, box_count, raster_number, raster_point}
use Rattle.shape_terms.specs.Pictures.{Picture}
use Rattle.shape_window.specs.Windows.{is_nearer}
use Rattle.shape_window.specs.Marks.{is_marked}
use Rattle.ball_terms.specs.Balls.{ball_by}
use Rattle.judge_balls.specs.Tests.{PassesTests}
use Rattle.judge_balls.specs.Standing.{IsStanding}
use Rattle.judge_balls.proofs.Deciding.{tests_decide}
use Rattle.judge_balls.proofs.Taken.{ball_taken}
use Rattle.judge_balls.proofs.judge.BallJudge.ball.Goals as goal

pub returns-then-not-passes-clause-answer : goal.returns-then-not-passes-clause-answer
returns-then-not-passes-clause-answer g c = λ X balls h.
    let j = c.args.self.now in
    let b = ball_by (g.P.Point.coords c.args.centre) (g.P.Point.coords c.args.near) c.args.s (g.P.Point.coords c.args.own) in (
      (λ t. absurd (let f : false ≡ true = t in cc)),
      λ k.
          let tests = (tests_decide X balls j.covered j.own j.next h.1 b).1 k in
          let t = c.passes.ensures.1 (subst (λ (Y : Picture). PassesTests Y j.covered j.own j.next b) (sym h.0) tests) in
          let f : false ≡ true = sym c.if-not-passes.true ∙ t in
          f,
    )

pub returns-clause-answer : goal.returns-clause-answer
returns-clause-answer g c = λ X balls h.
    let j = c.args.self.now in
    let b = ball_by (g.P.Point.coords c.args.centre) (g.P.Point.coords c.args.near) c.args.s (g.P.Point.coords c.args.own) in (
      (λ t. (tests_decide X balls j.covered j.own j.next h.1 b).0
          (subst (λ (Y : Picture). PassesTests Y j.covered j.own j.next b) h.0 (c.passes.ensures.0 c.if-not-passes.false))),
      λ k. refl,
    )

pub returns-clause-stands : goal.returns-clause-stands
returns-clause-stands g c = λ X balls h.
    let j = c.args.self.now in
    let centre = g.P.Point.coords c.args.centre in
    let own = g.P.Point.coords c.args.own in
    let b = ball_by centre (g.P.Point.coords c.args.near) c.args.s own in
    let covered2 = c.mark_ball.new.marks in
    let claim = (returns-clause-answer g c X balls h).0 refl in
    let e : sides_of (g.P.Point.coords c.sides-sides.result.lengths) ≡ X.sides = c.sides-sides.ensures.value
    ∙ ap (λ (Y : Picture). Y.sides) (c.grid.ensures ∙ h.0) in
    let own_is : c.raster.result ≡ raster_number X.sides own = c.raster.ensures.value ∙ ap (λ (ns : List ℕ). raster_number ns own) e in
    let now_own : c.set.new.self ≡ set j.own (raster_number X.sides own) true = c.set.ensures ∙ ap (λ (n : ℕ). set j.own n true) own_is in
    let centre_is : c.raster-2.result ≡ raster_number X.sides centre = c.raster-2.ensures.value ∙ ap (λ (ns : List ℕ). raster_number ns centre) e in
    let marked = subst (λ (ns : List ℕ). (i : ℕ) → i < length j.covered
    → (is_marked covered2 i ≡ true) ↔ ((is_marked j.covered i ≡ true) ⊎ (is_nearer centre c.args.s (raster_point ns i) ≡ true))) e
    c.mark_ball.ensures.marked in
    let box = ap (λ (Y : Picture). box_count Y.sides) h.0 in
    let all = ball_taken X balls j.covered j.own j.next h.1 b claim covered2 (j.covered_filled ∙ box) (j.own_filled ∙ box) marked in (
      h.0,
      subst (λ (own2 : List Bool). IsStanding X (balls ++ b ∷ []) covered2 own2 (c.raster-2.result + 1)) (sym now_own)
          (subst (λ (n : ℕ). IsStanding X (balls ++ b ∷ []) covered2 (set j.own (raster_number X.sides own) true) (n + 1)) (sym centre_is) all),
    )
