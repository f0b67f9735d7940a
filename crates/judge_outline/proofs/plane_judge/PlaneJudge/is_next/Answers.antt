use Rattle.std.proofs.Common.{◌≡◌, ◌-◌, ◌<◌, true, false, refl, length, drop, sym, ◌∙◌, subst, arith}
use Rattle.std.specs.Prelude.{◌↔◌, IsTrue}
use Rattle.std.proofs.lemmas.List.{length-drop}
use Rattle.shape_terms.specs.Points.{in_box}
use Rattle.judge_outline.specs.Terms.{point_of}
use Rattle.judge_outline.specs.Exposure.{exposed_at, IsLeft, IsNearTo}
use Rattle.judge_outline.specs.PlaneState.{PlaneState}
use Rattle.judge_outline.proofs.Exposing.{in_of_at}
use Rattle.judge_outline.proofs.PlaneSteps.{later_test, later_none}
use Rattle.judge_outline.proofs.plane_judge.PlaneJudge.is_next.Goals as goal

pub is_beside-requires : goal.is_beside-requires
is_beside-requires c =
    let p = point_of c.args.p in
    let inside = subst (λ s. IsTrue (in_box s p)) c.self.invariant.left_box (in_of_at c.self.inside.left p (sym c.has.ensures ∙ c.if-has.true)) in
    subst (λ (s : PlaneState). IsTrue (in_box s.picture.sides p)) c.self.view_is inside

pub returns-then-has-clause-answer : goal.returns-then-has-clause-answer
returns-then-has-clause-answer c =
    let i = c.self.inside in
    let p = point_of c.args.p in
    let start = c.self.invariant.step.start in
    let some : 0 < length (drop i.start i.taken.points) = omega (arith, start, c.if-len-self.false, c.len.ensures.value, length-drop i.start i.taken.points) in
    let begun : 0 < i.begun = subst (λ (s : PlaneState). 0 < s.standing.begun) (sym c.self.view_is) c.requires in
    let left = (c.self.invariant.are_left begun).each p in
    let near = subst (λ (s : PlaneState). IsTrue c.is_beside.result ↔ IsNearTo s.standing.patch.points p) (sym c.self.view_is) c.is_beside.ensures in
    rw (← c.self.view_is) (later_test (exposed_at i.grid (i.begun - 1)) i.taken.points (drop i.start i.taken.points) p c.is_beside.result c.is_beside.result some
    refl (left.0 (sym c.has.ensures ∙ c.if-has.true)) near)

pub returns-else-has-clause-answer : goal.returns-else-has-clause-answer
returns-else-has-clause-answer c =
    let i = c.self.inside in
    let p = point_of c.args.p in
    let exposed = exposed_at i.grid (i.begun - 1) in
    let start = c.self.invariant.step.start in
    let some : 0 < length (drop i.start i.taken.points) = omega (arith, start, c.if-len-self.false, c.len.ensures.value, length-drop i.start i.taken.points) in
    let begun : 0 < i.begun = subst (λ (s : PlaneState). 0 < s.standing.begun) (sym c.self.view_is) c.requires in
    let left = (c.self.invariant.are_left begun).each p in
    let none : IsLeft exposed i.taken.points p → ⊥ = λ h. (let f : true ≡ false = sym (left.1 h) ∙ sym c.has.ensures ∙ c.if-has.false in cc) in
    rw (← c.self.view_is) (later_none exposed i.taken.points (drop i.start i.taken.points) p c.has.result some c.if-has.false none)
