use Rattle.std.proofs.Common.{◌<◌, ◌≤◌, ◌+◌, ◌-◌, slice_index_or, length, ap, rules}
use Rattle.std.proofs.lemmas.Option.{slice_get_within}
use Rattle.shape_crack.specs.Terms.{crack_of}
use Rattle.report_terms.specs.ContourLines.{no_contour}
use Rattle.judge_outline.specs.CoverState.{CoverState}
use Rattle.judge_outline.proofs.CoverStandings.{head_within, head_open}
use Rattle.judge_outline.proofs.cover_judge.CoverJudge.begin.Goals as goal

pub invariant_of-self : goal.invariant_of-self
invariant_of-self c =
    let i = c.self.inside in
    let now = c.args.self.now in
    let head = c.begins_next.ensures.0 c.if-not-begins_next.false in
    let within : c.args.segments ≤ length c.contour-next.result.now.points = head_within i.contours now.contours i.begun now.standing (crack_of c.args.start)
    c.args.points c.args.segments c.contour-next.result.now (ap (λ (t : CoverState). t.contours) c.self.view_is)
    (ap (λ (t : CoverState). t.standing.begun) c.self.view_is) c.contour-next.ensures head in
    let there : i.begun < length i.contours = slice_get_within i.contours i.begun c.contour-next.result.now c.contour-next.ensures in
    let open_is = head_open i.contours i.begun c.contour-next.result.now c.contour-next.ensures in
    let enough : c.args.segments ≤ length (slice_index_or i.contours (i.begun + 1 - 1) no_contour).points = rw open_is within in
    search rules
