use Rattle.std.proofs.Common.{◌≤◌, [], ◌∷◌, length, subst, sym}
use Rattle.std.specs.Prelude.{All, IsTrue, vec_capacity}
use Rattle.shape_terms.specs.Limits.{most_flat, most_round}
use Rattle.shape_terms.specs.Points.{in_box}
use Rattle.report_terms.specs.ContourLines.{open_contour}
use Rattle.shape_crack.specs.Terms.{point_of}
use Rattle.judge_outline.specs.CoverState.{standing_of}
use Rattle.shape_refute.proofs.SmallPoints.{all_small}
use Rattle.judge_outline.proofs.RoundParts.{in_arc}
use Rattle.judge_outline.proofs.CoverSteps.{arc_within, arc_value, arc_few}
use Rattle.judge_outline.proofs.cover_judge.CoverJudge.arc.Goals as goal

pub part-requires-clause-within : goal.part-requires-clause-within
part-requires-clause-within c =
    let i = c.self.inside in
    let s = standing_of i.begun i.points i.declared i.segments.items i.last i.gaps in
    arc_within point_of i.number i.contours s c.args.self.now c.self.view_is i.round.items (vec_capacity i.round) (vec_capacity i.segments) c.self.invariant.1
    c.requires.begun c.as_slice.result.now c.args.last c.as_slice.ensures.value c.requires.within

pub returns-clause-value : goal.returns-clause-value
returns-clause-value c =
    let i = c.self.inside in
    let s = standing_of i.begun i.points i.declared i.segments.items i.last i.gaps in
    arc_value point_of i.number i.contours s c.args.self.now c.self.view_is i.round.items (vec_capacity i.round) (vec_capacity i.segments) c.self.invariant.1
    c.requires.begun c.as_slice.result.now c.part.result.now c.args.first c.args.last c.as_slice.ensures.value c.requires.order c.requires.within
    c.part.ensures

pub returns-clause-few : goal.returns-clause-few
returns-clause-few c =
    let i = c.self.inside in
    let s = standing_of i.begun i.points i.declared i.segments.items i.last i.gaps in
    let now = c.args.self.now in
    let few : length (open_contour now.contours now.standing).points ≤ most_round = rw c.open.ensures at c.is_closed_path.ensures.few in
    arc_few point_of i.number i.contours s now c.self.view_is i.round.items (vec_capacity i.round) (vec_capacity i.segments) c.self.invariant.1 c.requires.begun
    c.as_slice.result.now c.part.result.now c.args.first c.args.last c.as_slice.ensures.value c.requires.order c.requires.within c.part.ensures few

pub returns-clause-small : goal.returns-clause-small
returns-clause-small c =
    let i = c.self.inside in
    let s = standing_of i.begun i.points i.declared i.segments.items i.last i.gaps in
    let now = c.args.self.now in
    let path = rw c.open.ensures at c.is_closed_path.ensures in
    let value = arc_value point_of i.number i.contours s now c.self.view_is i.round.items (vec_capacity i.round) (vec_capacity i.segments) c.self.invariant.1
    c.requires.begun c.as_slice.result.now c.part.result.now c.args.first c.args.last c.as_slice.ensures.value c.requires.order c.requires.within
    c.part.ensures in
    let inside = in_arc (λ q. IsTrue (in_box (most_flat ∷ most_flat ∷ []) q)) (open_contour now.contours now.standing).points c.args.first c.args.last path.some
    path.inside in
    all_small c.part.result.now (subst (All (λ q. IsTrue (in_box (most_flat ∷ most_flat ∷ []) q))) (sym value) inside)
