use Rattle.std.proofs.Common.{◌≡◌, true, false, List, length, map, refl, ap, sym, subst, ◌∙◌, arith}
use Rattle.std.proofs.lemmas.Bool.{false≢true}
use Rattle.std.proofs.lemmas.List.{length-map}
use Rattle.shape_terms.specs.Points.{Point}
use Rattle.edge_terms.specs.EdgeEvidence.{IsEdgeEvidence}
use Rattle.shape_terms.specs.Covers.{arc}
use Rattle.judge_edges.specs.Gaps.{gap_of}
use Rattle.edge_terms.specs.CycleLines.{Standing}
use Rattle.judge_edges.specs.EdgeState.{EdgeState}
use Rattle.shape_refute.specs.Places.{stretch_of}
use Rattle.judge_edges.proofs.Standings.{open_is}
use Rattle.judge_edges.proofs.judge.EdgeJudge.take_gap.Goals as goal

pub returns-then-not-shows-clause-answer : goal.returns-then-not-shows-clause-answer
returns-then-not-shows-clause-answer c =
    let i = c.self.inside in
    let s : Standing = record { begun = i.begun; declared = i.declared; stretches = map stretch_of i.arcs.items; gaps = i.gaps } in
    let gap = gap_of c.args.gap.now in
    let run = c.gap_places-run.result in
    let path = open_is i.cycles s c.args.self.now c.cycle.result.now c.path-path.result.now c.self.view_is c.cycle.ensures c.path-path.ensures in
    let is = ap (λ (p : List Point). arc p run.first run.last) path ∙ c.gap_places-run.ensures.run in (
      λ f. absurd (false≢true f),
      λ g.
          let t = c.shows.ensures.answer.1 (subst (λ (r : List Point). IsEdgeEvidence r gap) (sym is) g.shows) in
          let q : true ≡ false = sym t ∙ c.if-not-shows.true in
          sym q,
    )

pub returns-clause-answer : goal.returns-clause-answer
returns-clause-answer c =
    let i = c.self.inside in
    let s : Standing = record { begun = i.begun; declared = i.declared; stretches = map stretch_of i.arcs.items; gaps = i.gaps } in
    let gap = gap_of c.args.gap.now in
    let run = c.gap_places-run.result in
    let path = open_is i.cycles s c.args.self.now c.cycle.result.now c.path-path.result.now c.self.view_is c.cycle.ensures c.path-path.ensures in
    let is = ap (λ (p : List Point). arc p run.first run.last) path ∙ c.gap_places-run.ensures.run in
    let listed = ap (λ (t : EdgeState). length t.standing.stretches) c.self.view_is in
    let declared = ap (λ (t : EdgeState). t.standing.declared) c.self.view_is in
    let gaps = ap (λ (t : EdgeState). t.standing.gaps) c.self.view_is in (
      λ t. record {
        arcs = omega (arith, c.if-len-self.false, c.len.ensures, listed, declared, length-map i.arcs.items stretch_of);
        more = omega (arith, c.if-self.false, declared, gaps);
        shows = subst (λ (r : List Point). IsEdgeEvidence r gap) is (c.shows.ensures.answer.0 c.if-not-shows.false);
      },
      λ g. refl,
    )
