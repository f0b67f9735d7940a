use Rattle.std.proofs.Common.{◌≡◌, rules}
use Rattle.std.specs.Option.{is_none}
use Rattle.shape_queue.specs.Ranks.{distances_of}
use Rattle.shape_queue.proofs.QueueSteps.{empty_tells}
use Rattle.shape_queue.proofs.queue.Queue.is_empty.Goals as goal

pub returns : goal.returns
returns c =
    let i = c.self.inside in
    let e : c.is_none.result ≡ is_none c.least.result = search rules in
    rw (← c.self.view_is, e)
    (empty_tells (record { distances = distances_of i.spots.values; waiting = i.waiting }) c.self.invariant.inside c.least.result c.least.ensures)
