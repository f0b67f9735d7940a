use Rattle.std.proofs.Common.{◌≡◌, length, vec_len, ap, rules, arith}
use Rattle.shape_thin.specs.EventLists.{EventList}
use Rattle.shape_thin.proofs.EventSteps.{length-done}
use Rattle.shape_thin.proofs.events.Events.len.Goals as goal

pub returns : goal.returns
returns c =
    let e = c.self.inside in
    let v : length e.places.items ≡ vec_len e.places = search rules in
    let n = ap (λ (l : EventList). length l.done) c.self.view_is in
    omega (arith, v, n, c.len.ensures, length-done e.places.items e.tips)
