use Rattle.std.proofs.Common.{drop, sym, ◌∙◌, subst}
use Rattle.std.specs.Prelude.{IsTrue}
use Rattle.shape_terms.specs.Points.{in_box}
use Rattle.judge_outline.specs.Terms.{point_of}
use Rattle.judge_outline.specs.PlaneState.{PlaneState}
use Rattle.judge_outline.proofs.Marking.{near_test}
use Rattle.judge_outline.proofs.plane_judge.PlaneJudge.is_beside.Goals as goal

pub touches-requires-clause-box_ : goal.touches-requires-clause-box_
touches-requires-clause-box_ c = c.self.invariant.near_box ∙ sym c.self.invariant.recent_box

pub touches-requires-clause-inside : goal.touches-requires-clause-inside
touches-requires-clause-inside c =
    let p = point_of c.args.p in
    let inside = subst (λ (s : PlaneState). IsTrue (in_box s.picture.sides p)) (sym c.self.view_is) c.requires in
    subst (λ s. IsTrue (in_box s p)) (sym c.self.invariant.near_box) inside

pub returns-then-touches_last : goal.returns-then-touches_last
returns-then-touches_last c =
    let p = point_of c.args.p in
    rw (← c.self.view_is) (λ t. c.touches_last.ensures c.if-touches_last.true, λ h. c.if-touches_last.true)

pub returns-else-touches_last : goal.returns-else-touches_last
returns-else-touches_last c =
    let i = c.self.inside in
    rw (← c.self.view_is)
    (near_test i.recent (drop i.start i.taken.points) (point_of c.args.p) c.touches.result c.self.invariant.are_recent c.touches.ensures)
