use Rattle.std.proofs.Common.{◌≡◌, ◌<◌, ◌∙◌, length, vec_len, ap, rules, arith}
use Rattle.std.proofs.lemmas.List.{get_or_default}
use Rattle.shape_thin.specs.EventLists.{EventList}
use Rattle.shape_thin.proofs.EventSteps.{length-done, done_read}
use Rattle.shape_thin.proofs.events.Events.get.Goals as goal

pub index-requires : goal.index-requires
index-requires c =
    let e = c.self.inside in
    let v : length e.places.items ≡ vec_len e.places = search rules in
    let n = ap (λ (l : EventList). length l.done) c.self.view_is in
    omega (arith, c.requires, v, n, length-done e.places.items e.tips)

pub get-requires : goal.get-requires
get-requires c =
    let e = c.self.inside in
    let n = ap (λ (l : EventList). length l.done) c.self.view_is in
    omega (arith, c.requires, n, length-done e.places.items e.tips, c.self.invariant.room)

pub returns : goal.returns
returns c =
    let e = c.self.inside in
    let n = ap (λ (l : EventList). length l.done) c.self.view_is in
    let l : c.args.i < length e.places.items = omega (arith, c.requires, n, length-done e.places.items e.tips) in
    done_read e.places.items e.tips c.args.self.now c.self.view_is c.args.i c.index.result.now c.get.result l
    (c.index.ensures ∙ get_or_default e.places.items c.args.i c.index.result.now 0 l) c.get.ensures
