use Rattle.std.proofs.Common.{◌≡◌, ◌<◌, ◌≤◌, ◌∙◌, ◌-◌, length, vec_len, get_or, sym, subst, ap, rules, arith}
use Rattle.shape_queue.specs.Keys.{Queued}
use Rattle.shape_queue.specs.Ranks.{background, distances_of}
use Rattle.shape_queue.proofs.RankPlaces.{key_at_rank}
use Rattle.shape_queue.proofs.queue.Queue.ranked.Goals as goal

pub index-requires : goal.index-requires
index-requires c =
    let i = c.self.inside in
    let ds = distances_of i.spots.values in
    let l : c.args.rank < length ds = subst (λ (q : Queued). c.args.rank < length q.distances) (sym c.self.view_is) c.requires.inside in
    let b : background ds ≤ c.args.rank = subst (λ (q : Queued). background q.distances ≤ c.args.rank) (sym c.self.view_is) c.requires.some in
    let v : length i.keys.items ≡ vec_len i.keys = search rules in
    omega (arith, l, b, v, c.self.invariant.first_is, c.self.invariant.keys_are.filled)

pub returns-in_default : goal.returns-in_default
returns-in_default c =
    let i = c.self.inside in
    let ds = distances_of i.spots.values in
    let l : c.args.rank < length ds = subst (λ (q : Queued). c.args.rank < length q.distances) (sym c.self.view_is) c.requires.inside in
    let b : background ds ≤ c.args.rank = subst (λ (q : Queued). background q.distances ≤ c.args.rank) (sym c.self.view_is) c.requires.some in
    rw (← c.self.view_is) (key_at_rank ds i.keys.items c.self.invariant.keys_are c.args.rank l b c.index.result.now
    (c.index.ensures ∙ ap (λ f. get_or i.keys.items (c.args.rank - f) c.index.result.now) c.self.invariant.first_is))
