use Rattle.std.proofs.Common.{◌≡◌, ◌<◌, ◌∙◌, ◌∷◌, [], ◌++◌, length, vec_len, sym, ap, rules, arith}
use Rattle.shape_thin.specs.EventLists.{EventList, all_done}
use Rattle.shape_thin.proofs.EventSteps.{length-done, deleted_kept, deleted_done, marked_kept, marked_done}
use Rattle.shape_thin.proofs.events.Events.push.Goals as goal

pub set-requires : goal.set-requires
set-requires c =
    let e = c.self.inside in
    let v : length e.places.items ≡ vec_len e.places = search rules in
    let n = ap (λ (l : EventList). length l.done) c.self.view_is in
    let m = ap (λ (l : EventList). l.room) c.self.view_is in
    let i : c.len-i.result ≡ length e.places.items = omega (arith, v, c.len-i.ensures) in
    let room : length e.places.items < length e.tips = omega (arith, c.requires, n, m, length-done e.places.items e.tips) in
    omega (arith, i, room)

pub invariant_of-self-then-done : goal.invariant_of-self-then-done
invariant_of-self-then-done c =
    let e = c.self.inside in
    let v : length e.places.items ≡ vec_len e.places = search rules in
    let n = ap (λ (l : EventList). length l.done) c.self.view_is in
    let m = ap (λ (l : EventList). l.room) c.self.view_is in
    let i : c.len-i.result ≡ length e.places.items = omega (arith, v, c.len-i.ensures) in
    let room : length e.places.items < length e.tips = omega (arith, c.requires, n, m, length-done e.places.items e.tips) in
    rw (c.in_ok-push.ensures.items, c.set.ensures, i) (marked_kept e.places.items e.tips c.self.invariant room c.args.done.place)

pub invariant_of-self-else-done : goal.invariant_of-self-else-done
invariant_of-self-else-done c =
    let e = c.self.inside in
    let v : length e.places.items ≡ vec_len e.places = search rules in
    let n = ap (λ (l : EventList). length l.done) c.self.view_is in
    let m = ap (λ (l : EventList). l.room) c.self.view_is in
    let i : c.len-i.result ≡ length e.places.items = omega (arith, v, c.len-i.ensures) in
    let room : length e.places.items < length e.tips = omega (arith, c.requires, n, m, length-done e.places.items e.tips) in
    rw c.in_ok-push.ensures.items (deleted_kept e.places.items e.tips c.self.invariant room c.args.done.place)

pub returns-then-done-clause-done : goal.returns-then-done-clause-done
returns-then-done-clause-done c =
    let e = c.self.inside in
    let v : length e.places.items ≡ vec_len e.places = search rules in
    let n = ap (λ (l : EventList). length l.done) c.self.view_is in
    let m = ap (λ (l : EventList). l.room) c.self.view_is in
    let i : c.len-i.result ≡ length e.places.items = omega (arith, v, c.len-i.ensures) in
    let room : length e.places.items < length e.tips = omega (arith, c.requires, n, m, length-done e.places.items e.tips) in
    rw (c.in_ok-push.ensures.items, c.set.ensures, i) (marked_done e.places.items e.tips c.self.invariant room c.args.done.place
    ∙ ap (λ t. all_done e.places.items e.tips ++ record { place = c.args.done.place; tips = t } ∷ []) (sym c.if-done.true)
    ∙ ap (λ (l : EventList). l.done ++ c.args.done ∷ []) c.self.view_is)

pub returns-else-done-clause-done : goal.returns-else-done-clause-done
returns-else-done-clause-done c =
    let e = c.self.inside in
    let v : length e.places.items ≡ vec_len e.places = search rules in
    let n = ap (λ (l : EventList). length l.done) c.self.view_is in
    let m = ap (λ (l : EventList). l.room) c.self.view_is in
    let i : c.len-i.result ≡ length e.places.items = omega (arith, v, c.len-i.ensures) in
    let room : length e.places.items < length e.tips = omega (arith, c.requires, n, m, length-done e.places.items e.tips) in
    rw c.in_ok-push.ensures.items (deleted_done e.places.items e.tips c.self.invariant room c.args.done.place
    ∙ ap (λ t. all_done e.places.items e.tips ++ record { place = c.args.done.place; tips = t } ∷ []) (sym c.if-done.false)
    ∙ ap (λ (l : EventList). l.done ++ c.args.done ∷ []) c.self.view_is)
