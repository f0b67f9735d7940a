use Rattle.std.proofs.Common.{◌<◌, ◌∙◌, length, slice_index, refl, sym, subst, arith}
use Rattle.shape_queue.specs.Keys.{Queued}
use Rattle.shape_queue.specs.Ranks.{key_at, rank_in, distances_of, HasKey}
use Rattle.shape_queue.proofs.RankLaws.{rank_behind}
use Rattle.shape_queue.proofs.RankLoops.{spot_read}
use Rattle.shape_queue.proofs.QueueSteps.{same_value, put_none}
use Rattle.shape_queue.proofs.queue.Queue.settle.Goals as goal

pub change-requires-clause-some : goal.change-requires-clause-some
change-requires-clause-some c =
    let i = c.self.inside in
    let ds = distances_of i.spots.values in
    let l : c.args.place < length ds = subst (λ (q : Queued). c.args.place < length q.distances) (sym c.self.view_is) c.requires.inside in
    let some : 0 < slice_index ds c.args.place = subst (λ (q : Queued). 0 < slice_index q.distances c.args.place) (sym c.self.view_is) c.requires.some in
    let read = spot_read c.self.invariant.spots_are (omega (arith, l, c.self.invariant.spots_are.filled)) c.get-rank.ensures some in
    let b = rank_behind ds c.args.place some in
    rw (← c.self.view_is, read) b

pub returns-else-get-waits-clause-put : goal.returns-else-get-waits-clause-put
returns-else-get-waits-clause-put c =
    let i = c.self.inside in
    let ds = distances_of i.spots.values in
    let l : c.args.place < length ds = subst (λ (q : Queued). c.args.place < length q.distances) (sym c.self.view_is) c.requires.inside in
    let t : HasKey ds (rank_in ds c.args.place) (key_at ds c.args.place) = record { inside = l; same = refl; ranked = refl } in
    let same = same_value c.get.result c.args.waits c.if-get-waits.false in
    rw (← c.self.view_is)
    (put_none (record { distances = ds; waiting = i.waiting }) t c.args.waits
    (sym (c.get.ensures ∙ c.self.invariant.queued_are.each c.args.place l) ∙ same))
