use Rattle.std.proofs.Common.{◌≡◌, ◌<◌, length, map, refl, ap, sym, ◌∙◌, arith}
use Rattle.std.proofs.lemmas.List.{length-map}
use Rattle.report_terms.specs.ContourLines.{open_contour}
use Rattle.shape_refute.specs.Terms.{naive_of}
use Rattle.shape_crack.specs.Terms.{point_of}
use Rattle.judge_outline.specs.CoverState.{CoverState}
use Rattle.shape_refute.specs.Places.{stretch_of}
use Rattle.judge_outline.proofs.CoverSteps.{next_segment}
use Rattle.judge_outline.proofs.cover_judge.CoverJudge.take_segment.Goals as goal

pub returns-clause-answer : goal.returns-clause-answer
returns-clause-answer c =
    let i = c.self.inside in
    let now = c.args.self.now in
    let next = c.args.next in
    let line = c.args.line.now in
    let n : c.len-n.result ≡ length (open_contour now.contours now.standing).points = rw c.open.ensures at c.len-n.ensures.value in
    let declared : i.declared ≡ now.standing.declared = ap (λ (t : CoverState). t.standing.declared) c.self.view_is in
    let listed : map stretch_of c.as_slice.result.now ≡ now.standing.stretches = ap (map stretch_of) c.as_slice.ensures.value
    ∙ ap (λ (t : CoverState). t.standing.stretches) c.self.view_is in
    let given : now.standing.points ≡ c.len-n.result = sym (ap (λ (t : CoverState). t.standing.points) c.self.view_is) ∙ c.if-self-n.false in
    let early : now.standing.gaps ≡ 0 = sym (ap (λ (t : CoverState). t.standing.gaps) c.self.view_is) ∙ c.if-self-ne0.false in
    let more : length (map stretch_of c.as_slice.result.now) < i.declared =
    omega (arith, c.if-len-self.false, c.len.ensures, length-map c.as_slice.result.now stretch_of, c.as_slice.ensures.len) in
    let places = c.come_next.ensures.0 c.if-not-come_next.false in
    let held = c.holds_segment.ensures.held.0 c.if-not-holds_segment.false in (
      λ t. next_segment now.number now.contours now.standing c.len-n.result i.declared next.first next.last line.axis (naive_of 2 line)
          (map stretch_of c.as_slice.result.now) (map point_of c.arc.result.now) n declared listed given more (c.wants_none.ensures.0 c.if-not-wants_none.false)
          early places c.arc.ensures.value held,
      λ h. refl,
    )
