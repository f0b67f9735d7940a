use Rattle.std.proofs.Common.{◌∙◌, sym, subst}
use Rattle.shape_queue.specs.Keys.{Queued, has}
use Rattle.shape_queue.specs.Ranks.{distances_of, HasKey}
use Rattle.shape_queue.specs.Waiting.{Put}
use Rattle.shape_queue.proofs.RankPlaces.{key_once}
use Rattle.shape_queue.proofs.QueueSteps.{same_value, put_none}
use Rattle.shape_queue.proofs.queue.Queue.settle_ranked.Goals as goal

pub returns-then-get-waits-clause-put : goal.returns-then-get-waits-clause-put
returns-then-get-waits-clause-put c = λ key t.
    subst (λ k. Put (has c.args.self.now) (has c.change.new.self) k c.args.waits)
    (key_once c.args.self.now.distances c.args.rank c.ranked-key.result key c.ranked-key.ensures t) c.change.ensures.put

pub returns-else-get-waits-clause-put : goal.returns-else-get-waits-clause-put
returns-else-get-waits-clause-put c =
    let i = c.self.inside in
    let ds = distances_of i.spots.values in
    let q : Queued = record { distances = ds; waiting = i.waiting } in
    let t = subst (λ (q : Queued). HasKey q.distances c.args.rank c.ranked-key.result) (sym c.self.view_is) c.ranked-key.ensures in
    let same = same_value c.get.result c.args.waits c.if-get-waits.false in
    let put = put_none q t c.args.waits (sym (c.get.ensures ∙ c.self.invariant.queued_are.each c.ranked-key.result.place t.inside) ∙ same) in
    rw (← c.self.view_is) (λ key u. subst (λ k. Put (has q) (has q) k c.args.waits) (key_once ds c.args.rank c.ranked-key.result key t u) put)
