use Rattle.std.proofs.Common.{sym, subst, arith}
use Rattle.shape_queue.specs.Keys.{Queued}
use Rattle.shape_queue.specs.Ranks.{distances_of, HasKey}
use Rattle.shape_queue.proofs.QueueSteps.{none_has, least_has, least_key}
use Rattle.shape_queue.proofs.queue.Queue.least.Goals as goal

pub returns-in-None-clause-there : goal.returns-in-None-clause-there
returns-in-None-clause-there c =
    let i = c.self.inside in
    rw (← c.self.view_is) (none_has (record { distances = distances_of i.spots.values; waiting = i.waiting }) c.in-None.ensures)

pub overflow_cast-rank : goal.overflow_cast-rank
overflow_cast-rank c = let i = c.self.invariant.inside c.in-Some.rank c.in-Some.ensures.there in omega (arith, i.1, c.self.invariant.few)

pub ranked-requires : goal.ranked-requires
ranked-requires c = let i = c.self.invariant.inside c.in-Some.rank c.in-Some.ensures.there in rw (← c.self.view_is) (record { inside = i.1; some = i.0 })

pub returns-in-Some : goal.returns-in-Some
returns-in-Some c =
    let i = c.self.inside in
    let q : Queued = record { distances = distances_of i.spots.values; waiting = i.waiting } in
    let t = subst (λ (q : Queued). HasKey q.distances c.in-Some.rank c.ranked.result) (sym c.self.view_is) c.ranked.ensures in
    rw (← c.self.view_is) (record { there = least_has q t c.in-Some.ensures; least = least_key q t c.in-Some.ensures })
