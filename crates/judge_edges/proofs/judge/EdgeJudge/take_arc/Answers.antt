use Rattle.std.proofs.Common.{◌≡◌, ◌<◌, length, map, refl, ap, sym, ◌∙◌, arith}
use Rattle.std.proofs.lemmas.List.{length-map}
use Rattle.judge_edges.specs.Lines.{standard_of}
use Rattle.judge_edges.specs.EdgeState.{EdgeState}
use Rattle.shape_refute.specs.Places.{stretch_of}
use Rattle.judge_edges.proofs.Standings.{next_arc}
use Rattle.judge_edges.proofs.judge.EdgeJudge.take_arc.Goals as goal

pub returns-clause-answer : goal.returns-clause-answer
returns-clause-answer c =
    let i = c.self.inside in
    let now = c.args.self.now in
    let arc = c.args.next.now in
    let declared : i.declared ≡ now.standing.declared = ap (λ (t : EdgeState). t.standing.declared) c.self.view_is in
    let listed : map stretch_of c.as_slice.result.now ≡ now.standing.stretches = ap (map stretch_of) c.as_slice.ensures.value
    ∙ ap (λ (t : EdgeState). t.standing.stretches) c.self.view_is in
    let early : now.standing.gaps ≡ 0 = sym (ap (λ (t : EdgeState). t.standing.gaps) c.self.view_is) ∙ c.if-self-ne0.false in
    let more : length (map stretch_of c.as_slice.result.now) < i.declared =
    omega (arith, c.if-len-self.false, c.len.ensures, length-map c.as_slice.result.now stretch_of, c.as_slice.ensures.len) in
    let places = c.come_next.ensures.0 c.if-not-come_next.false in
    let held = c.holds_arc.ensures.0 c.if-not-holds_arc.false in (
      λ t. next_arc now.cycles now.standing c.open-path.result.now c.len-2.result i.declared arc.first arc.last (standard_of arc.line)
          (map stretch_of c.as_slice.result.now) c.open-path.ensures c.len-2.ensures.value declared listed more early places held,
      λ h. refl,
    )

pub returns-clause-cycles : goal.returns-clause-cycles
returns-clause-cycles c = ap (λ (t : EdgeState). t.cycles) c.self.view_is
