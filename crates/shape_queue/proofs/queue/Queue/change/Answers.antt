use Rattle.std.proofs.Common.{◌≤◌, true, false, sym, subst}
use Rattle.shape_queue.specs.Keys.{Queued}
use Rattle.shape_queue.specs.Ranks.{background, distances_of, HasKey}
use Rattle.shape_queue.proofs.QueueSteps.{put_key, rank_within, fitting_put}
use Rattle.shape_queue.proofs.queue.Queue.change.Goals as goal

pub insert-requires : goal.insert-requires
insert-requires c =
    let t = subst (λ (q : Queued). HasKey q.distances c.args.ranked.rank c.args.ranked.key) (sym c.self.view_is) c.requires.key in
    let b = subst (λ (q : Queued). background q.distances ≤ c.args.ranked.rank) (sym c.self.view_is) c.requires.some in
    rank_within c.self.invariant t b

pub invariant_of-self : goal.invariant_of-self
invariant_of-self c =
    let t = subst (λ (q : Queued). HasKey q.distances c.args.ranked.rank c.args.ranked.key) (sym c.self.view_is) c.requires.key in
    let b = subst (λ (q : Queued). background q.distances ≤ c.args.ranked.rank) (sym c.self.view_is) c.requires.some in
    fitting_put c.self.invariant t b true c.insert.ensures c.set.ensures t

pub returns-then-waits-clause-put : goal.returns-then-waits-clause-put
returns-then-waits-clause-put c =
    let i = c.self.inside in
    let t = subst (λ (q : Queued). HasKey q.distances c.args.ranked.rank c.args.ranked.key) (sym c.self.view_is) c.requires.key in
    rw (c.if-waits.true, ← c.self.view_is)
    (put_key (record { distances = distances_of i.spots.values; waiting = i.waiting }) t c.insert.new.self true c.insert.ensures)

pub remove-requires : goal.remove-requires
remove-requires c =
    let t = subst (λ (q : Queued). HasKey q.distances c.args.ranked.rank c.args.ranked.key) (sym c.self.view_is) c.requires.key in
    let b = subst (λ (q : Queued). background q.distances ≤ c.args.ranked.rank) (sym c.self.view_is) c.requires.some in
    rank_within c.self.invariant t b

pub invariant_of-self-else-waits : goal.invariant_of-self-else-waits
invariant_of-self-else-waits c =
    let t = subst (λ (q : Queued). HasKey q.distances c.args.ranked.rank c.args.ranked.key) (sym c.self.view_is) c.requires.key in
    let b = subst (λ (q : Queued). background q.distances ≤ c.args.ranked.rank) (sym c.self.view_is) c.requires.some in
    fitting_put c.self.invariant t b false c.remove.ensures c.clear.ensures c.self.invariant.latest_is

pub returns-else-waits-clause-put : goal.returns-else-waits-clause-put
returns-else-waits-clause-put c =
    let i = c.self.inside in
    let t = subst (λ (q : Queued). HasKey q.distances c.args.ranked.rank c.args.ranked.key) (sym c.self.view_is) c.requires.key in
    rw (c.if-waits.false, ← c.self.view_is)
    (put_key (record { distances = distances_of i.spots.values; waiting = i.waiting }) t c.remove.new.self false c.remove.ensures)
