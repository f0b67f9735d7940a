use Rattle.std.proofs.Common.{◌≤◌, ◌<◌, length, ap, arith}
use Rattle.std.proofs.lemmas.List.{length-map}
use Rattle.shape_terms.specs.Limits.{most_round}
use Rattle.report_terms.specs.ContourLines.{open_contour}
use Rattle.judge_outline.specs.CoverState.{CoverState, standing_of}
use Rattle.shape_refute.specs.Places.{stretch_of}
use Rattle.shape_refute.proofs.Stretches.{around_at}
use Rattle.judge_outline.proofs.CoverSteps.{same_open}
use Rattle.judge_outline.proofs.cover_judge.CoverJudge.end.Goals as goal

pub overflow_add-result : goal.overflow_add-result
overflow_add-result c =
    let i = c.self.inside in
    let s = standing_of i.begun i.points i.declared i.segments.items i.last i.gaps in
    let now = c.args.self.now in
    let same = same_open i.number i.contours s now c.self.view_is in
    let few : length (open_contour now.contours now.standing).points ≤ most_round = rw c.open.ensures at c.is_closed_path.ensures.few in
    let listed : c.args.k < length i.segments.items =
    omega (arith, c.requires.place, ap (λ (t : CoverState). length t.standing.stretches) c.self.view_is, length-map i.segments.items stretch_of) in
    let a = around_at stretch_of i.segments.items c.args.k c.index.result.now (length (open_contour i.contours s).points) c.self.invariant.0.around listed
    c.index.ensures in
    omega (arith, a.begins, a.short, few, ap (λ k. length k.points) same)

pub returns-clause-within : goal.returns-clause-within
returns-clause-within c =
    let i = c.self.inside in
    let s = standing_of i.begun i.points i.declared i.segments.items i.last i.gaps in
    let same = same_open i.number i.contours s c.args.self.now c.self.view_is in
    let listed : c.args.k < length i.segments.items =
    omega (arith, c.requires.place, ap (λ (t : CoverState). length t.standing.stretches) c.self.view_is, length-map i.segments.items stretch_of) in
    let a = around_at stretch_of i.segments.items c.args.k c.index.result.now (length (open_contour i.contours s).points) c.self.invariant.0.around listed
    c.index.ensures in
    omega (arith, a.begins, a.short, ap (λ k. length k.points) same)
