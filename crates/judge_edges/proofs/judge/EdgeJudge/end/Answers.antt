use Rattle.std.proofs.Common.{◌≤◌, ◌<◌, length, map, ap, arith}
use Rattle.std.proofs.lemmas.List.{length-map}
use Rattle.shape_terms.specs.Limits.{most_round}
use Rattle.edge_terms.specs.CycleLines.{Standing, open_path}
use Rattle.judge_edges.specs.EdgeState.{EdgeState}
use Rattle.shape_refute.specs.Places.{stretch_of}
use Rattle.shape_refute.proofs.Stretches.{around_at}
use Rattle.judge_edges.proofs.Standings.{same_open}
use Rattle.judge_edges.proofs.judge.EdgeJudge.end.Goals as goal

pub overflow_add-result : goal.overflow_add-result
overflow_add-result c =
    let i = c.self.inside in
    let s : Standing = record { begun = i.begun; declared = i.declared; stretches = map stretch_of i.arcs.items; gaps = i.gaps } in
    let now = c.args.self.now in
    let same = same_open i.cycles s now c.self.view_is in
    let few : length (open_path now.cycles now.standing) ≤ most_round = rw c.open.ensures at c.is_corner_path.ensures.few in
    let listed : c.args.k < length i.arcs.items =
    omega (arith, c.requires.place, ap (λ (t : EdgeState). length t.standing.stretches) c.self.view_is, length-map i.arcs.items stretch_of) in
    let a = around_at stretch_of i.arcs.items c.args.k c.index.result.now (length (open_path i.cycles s)) c.self.invariant.0.around listed c.index.ensures in
    omega (arith, a.begins, a.short, few, ap length same)

pub returns-clause-within : goal.returns-clause-within
returns-clause-within c =
    let i = c.self.inside in
    let s : Standing = record { begun = i.begun; declared = i.declared; stretches = map stretch_of i.arcs.items; gaps = i.gaps } in
    let same = same_open i.cycles s c.args.self.now c.self.view_is in
    let listed : c.args.k < length i.arcs.items =
    omega (arith, c.requires.place, ap (λ (t : EdgeState). length t.standing.stretches) c.self.view_is, length-map i.arcs.items stretch_of) in
    let a = around_at stretch_of i.arcs.items c.args.k c.index.result.now (length (open_path i.cycles s)) c.self.invariant.0.around listed c.index.ensures in
    omega (arith, a.begins, a.short, ap length same)

pub returns-clause-low : goal.returns-clause-low
returns-clause-low c =
    let i = c.self.inside in
    let s : Standing = record { begun = i.begun; declared = i.declared; stretches = map stretch_of i.arcs.items; gaps = i.gaps } in
    let now = c.args.self.now in
    let same = same_open i.cycles s now c.self.view_is in
    let few : length (open_path now.cycles now.standing) ≤ most_round = rw c.open.ensures at c.is_corner_path.ensures.few in
    let listed : c.args.k < length i.arcs.items =
    omega (arith, c.requires.place, ap (λ (t : EdgeState). length t.standing.stretches) c.self.view_is, length-map i.arcs.items stretch_of) in
    let a = around_at stretch_of i.arcs.items c.args.k c.index.result.now (length (open_path i.cycles s)) c.self.invariant.0.around listed c.index.ensures in
    omega (arith, a.begins, a.short, few, ap length same)
