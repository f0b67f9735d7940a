use Rattle.std.proofs.Common.{◌≡◌, ◌+◌, ◌<◌, [], length, rules, arith, sym, ap, ◌∙◌, subst}
use Rattle.std.proofs.lemmas.List.{length_push, length-map}
use Rattle.std.proofs.lemmas.List.Elements.{All-nil, All-push}
use Rattle.shape_terms.specs.Points.{box_count, raster_point}
use Rattle.shape_terms.specs.Pictures.{Picture}
use Rattle.shape_terms.specs.Thinning.{Rule}
use Rattle.shape_terms.proofs.BoxLists.{few_objects}
use Rattle.shape_terms.proofs.ThinningKept.{thinning_keeps}
use Rattle.shape_queue.proofs.GoingSteps.{going_end, few_more}
use Rattle.shape_rules.specs.FactsOf.{facts_of}
use Rattle.shape_thin.specs.Fronts.{reach_of}
use Rattle.shape_thin.specs.Standing.{StandsFor, ahead_of}
use Rattle.shape_thin.specs.EventLists.{events_at}
use Rattle.shape_thin.specs.declared.events.Done.{Done}
use Rattle.shape_thin.proofs.EventSteps.{events_push}
use Rattle.shape_thin.proofs.ordered.thin.Goals as goal

pub new-requires : goal.new-requires
new-requires g c = let all = few_objects c.args.grid.now in let small = c.in_ok-thinner.ensures.small in omega (arith, all, small, c.count.ensures)

pub push-requires : goal.push-requires
push-requires g c = let h = c.loop-next.invariant.count in let r = c.settle.ensures.room in omega (arith, h, r, c.loop-next.invariant.room)

pub loop-next-init : goal.loop-next-init
loop-next-init g c =
    let rule = (g.dyn-1.0.entry c.args.rule.now.vtable).1.means c.args.rule.now.value in
    let X = c.args.grid.now in
    record {
      same = search rules;
      stands = rw c.in_ok-events.ensures.none
          (subst (λ s. StandsFor rule X [] s c.in_ok-thinner.thinner) (sym c.begin.ensures.opened) (c.in_ok-thinner.ensures.stands rule));
      places = rw c.in_ok-events.ensures.none (All-nil (λ (d : Done). d.place < box_count X.sides));
      count = rw c.in_ok-events.ensures.none (let r = c.in_ok-thinner.ensures.room in omega arith);
      room = c.in_ok-events.ensures.room ∙ c.count.ensures;
      few = let f = c.in_ok-thinner.ensures.few in omega arith;
    }

pub loop-next-smaller : goal.loop-next-smaller
loop-next-smaller g c = let r = c.settle.ensures.room in omega arith

pub loop-next-preserved : goal.loop-next-preserved
loop-next-preserved g c =
    let i = c.loop-next.invariant in
    let n = c.in-Some.next in
    let X = c.args.grid.now in
    let rule = (g.dyn-1.0.entry c.args.rule.now.vtable).1.means c.args.rule.now.value in
    let state = (g.dyn-1.0.entry c.loop-next.rule.vtable).1.state c.loop-next.rule.value in
    let sides = i.stands.front.stands.sides in
    let items = c.in_ok-push.ensures.done in
    let done : Done = record { place = n.place; tips = c.ask-tips.result } in
    let told = sym (ap (λ (r : Rule). r.marks state (facts_of n.facts)) i.same) ∙ sym c.ask-tips.ensures.answer in
    let moved = c.ask-tips.ensures.moved ∙ ap (λ (r : Rule). r.next state (facts_of n.facts)) i.same in
    let pushed = events_push X.sides c.loop-next.events.done n.place c.ask-tips.result (g.P.Point.coords n.point)
    (c.in-Some.ensures.place ∙ ap (λ z. raster_point z n.place) sides) in
    record {
      same = c.ask-tips.ensures.same_rule ∙ i.same;
      stands = rw (items, moved, pushed) (c.settle.ensures.stands rule X (events_at X.sides c.loop-next.events.done) state i.stands told);
      places = rw items
          (All-push (λ (d : Done). d.place < box_count X.sides) c.loop-next.events.done done i.places
          (subst (λ z. n.place < box_count z) sides c.in-Some.ensures.inside));
      count = let m = ap length items ∙ length_push c.loop-next.events.done done in let h = i.count in let r = c.settle.ensures.room in omega arith;
      room = c.in_ok-push.ensures.room ∙ i.room;
      few = few_more g.P.Pairing.NEAR_COUNT _ (c.loop-next.steps + ahead_of c.loop-next.thinner) _ (length c.loop-next.events.done) _
          (ap length items ∙ length_push c.loop-next.events.done done) i.few c.settle.ensures.few;
    }

pub of-requires : goal.of-requires
of-requires g c =
    let X = c.args.grid.now in
    let i = c.loop-next.invariant in
    let all = few_objects X in
    let small = c.in_ok-thinner.ensures.small in
    rw (c.into_left.ensures, i.stands.front.stands.sides) (record { few = let h = i.count in omega arith; within = i.places })

pub returns-clause-thinning : goal.returns-clause-thinning
returns-clause-thinning g c =
    let i = c.loop-next.invariant in
    let t = c.loop-next.thinner in
    let sides = ap (λ (Y : Picture). Y.sides) c.into_left.ensures ∙ i.stands.front.stands.sides in
    let events : c.of.result.events ≡ events_at c.args.grid.now.sides c.loop-next.events.done = c.of.ensures.events
    ∙ ap (λ n. events_at n c.loop-next.events.done) sides in
    rw (events, c.of.ensures.left, c.into_left.ensures)
    (i.stands.marked, (i.stands.thins, going_end _ c.args.grid.now _ _ t.left (reach_of t.front) i.stands c.in_default.ensures.0 c.in_default.ensures.1))

pub returns-clause-kept : goal.returns-clause-kept
returns-clause-kept g c = λ n o b h. rw (c.of.ensures.left, c.into_left.ensures)
    (thinning_keeps _ c.args.grid.now _ _ n o b c.loop-next.invariant.stands.thins h)

pub returns-clause-few : goal.returns-clause-few
returns-clause-few g c =
    let l : length c.of.result.events ≡ length c.loop-next.events.done = ap length c.of.ensures.events ∙ length-map c.loop-next.events.done _ in
    let f = c.loop-next.invariant.few in
    rw l (omega arith)
