use Rattle.std.proofs.Common.{◌≡◌, ◌+◌, ◌≤◌, ◌<◌, length, map, ap, ◌∙◌, arith}
use Rattle.std.proofs.lemmas.List.{length-map}
use Rattle.shape_terms.specs.Limits.{most_round}
use Rattle.shape_terms.specs.Covers.{Stretch, next_first}
use Rattle.edge_terms.specs.CycleLines.{Standing, open_path}
use Rattle.judge_edges.specs.EdgeState.{EdgeState}
use Rattle.shape_refute.specs.Places.{stretch_of}
use Rattle.shape_refute.proofs.Stretches.{around_at, stretch_at, next_some, next_none}
use Rattle.judge_edges.proofs.Standings.{same_open}
use Rattle.judge_edges.proofs.judge.EdgeJudge.next_first.Goals as goal

abbrev zero_stretch : Stretch
zero_stretch = record { first = 0; last = 0 }

pub overflow_add-result : goal.overflow_add-result
overflow_add-result c =
    let i = c.self.inside in
    let s : Standing = record { begun = i.begun; declared = i.declared; stretches = map stretch_of i.arcs.items; gaps = i.gaps } in
    let now = c.args.self.now in
    let same = same_open i.cycles s now c.self.view_is in
    let few : length (open_path now.cycles now.standing) ≤ most_round = rw c.open.ensures at c.len.ensures.path.few in
    let n : c.len.result ≡ length (open_path now.cycles now.standing) = rw c.open.ensures at c.len.ensures.value in
    let listed : 0 < length i.arcs.items =
    omega (arith, c.requires.place, ap (λ (t : EdgeState). length t.standing.stretches) c.self.view_is, length-map i.arcs.items stretch_of) in
    let a = around_at stretch_of i.arcs.items 0 c.index-else-k-count.result.now (length (open_path i.cycles s)) c.self.invariant.0.around listed
    c.index-else-k-count.ensures in
    omega (arith, a.begins, few, n, ap length same)

pub returns-then-k-count : goal.returns-then-k-count
returns-then-k-count c =
    let i = c.self.inside in
    let now = c.args.self.now in
    let all : map stretch_of i.arcs.items ≡ now.standing.stretches = ap (λ (t : EdgeState). t.standing.stretches) c.self.view_is in
    let listed : c.args.k + 1 < length i.arcs.items = omega (arith, c.if-k-count.true, c.len-count.ensures) in
    let here = stretch_at stretch_of i.arcs.items (c.args.k + 1) c.index.result.now zero_stretch listed c.index.ensures in
    let next = next_some (open_path now.cycles now.standing) (map stretch_of i.arcs.items) c.args.k zero_stretch
    (omega (arith, listed, length-map i.arcs.items stretch_of)) in
    record { value = ap (λ (t : Stretch). t.first) here ∙ next ∙ ap (λ ss. next_first (open_path now.cycles now.standing) ss c.args.k) all }

pub returns-else-k-count : goal.returns-else-k-count
returns-else-k-count c =
    let i = c.self.inside in
    let now = c.args.self.now in
    let all : map stretch_of i.arcs.items ≡ now.standing.stretches = ap (λ (t : EdgeState). t.standing.stretches) c.self.view_is in
    let n : c.len.result ≡ length (open_path now.cycles now.standing) = rw c.open.ensures at c.len.ensures.value in
    let listed : 0 < length i.arcs.items =
    omega (arith, c.requires.place, ap (λ (t : EdgeState). length t.standing.stretches) c.self.view_is, length-map i.arcs.items stretch_of) in
    let last : length i.arcs.items ≤ c.args.k + 1 = omega (arith, c.if-k-count.false, c.len-count.ensures) in
    let here = stretch_at stretch_of i.arcs.items 0 c.index-else-k-count.result.now zero_stretch listed c.index-else-k-count.ensures in
    let next = next_none (open_path now.cycles now.standing) (map stretch_of i.arcs.items) c.args.k zero_stretch
    (omega (arith, last, length-map i.arcs.items stretch_of)) (omega (arith, listed, length-map i.arcs.items stretch_of)) in
    record { value = (λ j. (here j).first + n j) ∙ next ∙ ap (λ ss. next_first (open_path now.cycles now.standing) ss c.args.k) all }
