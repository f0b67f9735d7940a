use Rattle.std.proofs.Common.{ap, ◌+◌, ◌∙◌}
use Rattle.edge_terms.specs.CycleLines.{with_cycle}
use Rattle.judge_edges.specs.EdgeState.{EdgeState, state_of}
use Rattle.judge_edges.proofs.judge.EdgeJudge.begin.Goals as goal

pub returns-clause-cycles : goal.returns-clause-cycles
returns-clause-cycles c = ap (λ (t : EdgeState). t.cycles) c.self.view_is

pub returns-clause-next : goal.returns-clause-next
returns-clause-next c =
    let i = c.self.inside in
    ap (λ arcs. (state_of i.cycles (i.begun + 1) c.args.arcs arcs 0).standing) c.clear.ensures.items
    ∙ ap (λ (t : EdgeState). with_cycle t.standing c.args.arcs) c.self.view_is
