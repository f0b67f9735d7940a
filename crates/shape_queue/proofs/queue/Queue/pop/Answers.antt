use Rattle.std.proofs.Common.{sym, subst}
use Rattle.shape_queue.specs.Keys.{Queued}
use Rattle.shape_queue.specs.Ranks.{distances_of, HasKey}
use Rattle.shape_queue.proofs.QueueSteps.{none_has, least_has, least_key}
use Rattle.shape_queue.proofs.queue.Queue.pop.Goals as goal

pub returns-in-None-clause-there : goal.returns-in-None-clause-there
returns-in-None-clause-there c =
    let i = c.self.inside in
    rw (← c.self.view_is) (none_has (record { distances = distances_of i.spots.values; waiting = i.waiting }) c.in-None.ensures)

pub returns-in-Some-clause-there : goal.returns-in-Some-clause-there
returns-in-Some-clause-there c =
    let i = c.self.inside in
    let t = subst (λ (q : Queued). HasKey q.distances c.in-Some.rank c.ranked-key.result) (sym c.self.view_is) c.ranked-key.ensures in
    rw (← c.self.view_is) (least_has (record { distances = distances_of i.spots.values; waiting = i.waiting }) t c.in-Some.ensures)

pub returns-in-Some-clause-least : goal.returns-in-Some-clause-least
returns-in-Some-clause-least c =
    let i = c.self.inside in
    let t = subst (λ (q : Queued). HasKey q.distances c.in-Some.rank c.ranked-key.result) (sym c.self.view_is) c.ranked-key.ensures in
    rw (← c.self.view_is) (least_key (record { distances = distances_of i.spots.values; waiting = i.waiting }) t c.in-Some.ensures)
