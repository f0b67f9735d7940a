use Rattle.std.proofs.Common.{◌≡◌, false, replicate, length, ◌∙◌, ap, subst, arith}
use Rattle.shape_queue.specs.Ranks.{distances_of, AreKeys}
use Rattle.shape_queue.proofs.RankLoops.{distances_back}
use Rattle.shape_queue.proofs.QueueSteps.{none_has, none_queued}
use Rattle.shape_queue.proofs.queue.Queue.new.Goals as goal

pub returns-clause-none : goal.returns-clause-none
returns-clause-none c = none_has
    (record { distances = distances_of c.in_ok-spots.spots.values; waiting = c.in_ok-waiting.waiting }) c.in_ok-waiting.ensures.empty

pub returns-clause-distances : goal.returns-clause-distances
returns-clause-distances c = distances_back c.args.distances.values c.in_ok-spots.spots c.in_ok-spots.ensures

pub keys_of-requires-clause-few : goal.keys_of-requires-clause-few
keys_of-requires-clause-few c = omega (arith, c.in_ok-spots.ensures.filled, c.requires)

pub keys_of-requires-clause-spots : goal.keys_of-requires-clause-spots
keys_of-requires-clause-spots c = rw (distances_back c.args.distances.values c.in_ok-spots.spots c.in_ok-spots.ensures) c.in_ok-spots.ensures

pub keys_of-requires-clause-first : goal.keys_of-requires-clause-first
keys_of-requires-clause-first c = rw (distances_back c.args.distances.values c.in_ok-spots.spots c.in_ok-spots.ensures) c.extent_of-extent.ensures.counted

pub invariant_of-result : goal.invariant_of-result
invariant_of-result c =
    let ds = c.args.distances.values in
    let spots = c.in_ok-spots.ensures in
    let back = distances_back ds c.in_ok-spots.spots spots in
    let keys : AreKeys ds c.in_ok-keys.keys.items = subst (λ xs. AreKeys xs c.in_ok-keys.keys.items) back c.in_ok-keys.ensures in
    let n : c.len-places.result ≡ length ds = c.len-places.ensures.places in
    let e : c.in_ok-queued.queued ≡ replicate (length ds) false = c.in_ok-queued.ensures ∙ ap (λ n. replicate n false) n in
    rw (back, e) (record {
      few = c.requires;
      spots_are = spots;
      first_is = c.extent_of-extent.ensures.counted;
      keys_are = keys;
      room = let r = c.in_ok-waiting.ensures.room in omega (arith, r, n);
      inside = λ r w. absurd (c.in_ok-waiting.ensures.empty r w);
      queued_are = none_queued ds c.in_ok-waiting.waiting c.in_ok-waiting.ensures.empty;
      latest_is = tt;
    })
