use Rattle.std.proofs.Common.{refl, sym, ◌∙◌, ap, subst, arith, length}
use Rattle.shape_terms.specs.Points.{box_count, raster_point}
use Rattle.shape_terms.specs.Adjacency.{near_steps}
use Rattle.shape_terms.specs.Parts.{Object}
use Rattle.shape_terms.proofs.ObjectPlaces.{length-raster_point}
use Rattle.shape_topo.proofs.PlaceWalk.{rest_less}
use Rattle.shape_queue.specs.Keys.{has}
use Rattle.shape_thin.proofs.RoundPlaces.{walk_count}
use Rattle.shape_thin.proofs.RoundSteps.{round_begins, round_there, round_below, round_looked, round_passed, round_ends}
use Rattle.shape_thin.proofs.look.look_round.Goals as goal

pub loop-rest-init : goal.loop-rest-init
loop-rest-init g c =
    let left = c.args.left.now in
    let p = raster_point left.sides c.args.place in
    let axes = length-raster_point left.sides c.args.place ∙ ap length (sym c.requires.sides) ∙ c.is_picture.ensures.picture.axes in
    let total = g.met.P.Pairing.near_total ∙ ap (λ d. length (near_steps d)) (sym axes) in
    record {
      walk = round_begins left c.args.reached.now c.args.keys.now.distances p g.P.Pairing.NEAR_COUNT c.args.mask (has c.args.keys.now) c.args.steps.now total;
      same = refl;
    }

pub near_number-q-requires-clause-below : goal.near_number-q-requires-clause-below
near_number-q-requires-clause-below g c = (round_there c.requires.masked c.loop-rest.invariant.walk (omega arith) (omega arith) c.requires.boxed).0

pub near_number-q-requires-clause-inside : goal.near_number-q-requires-clause-inside
near_number-q-requires-clause-inside g c = (round_there c.requires.masked c.loop-rest.invariant.walk (omega arith) (omega arith) c.requires.boxed).1

pub has_number-requires : goal.has_number-requires
has_number-requires g c =
    let l = round_below c.requires.masked c.loop-rest.invariant.walk (omega arith) (omega arith) c.requires.boxed c.near_number-q.ensures in
    omega (arith, l, ap box_count c.requires.sides)

pub look_at-requires-clause-below : goal.look_at-requires-clause-below
look_at-requires-clause-below g c = round_below c.requires.masked c.loop-rest.invariant.walk (omega arith) (omega arith) c.requires.boxed
    c.near_number-q.ensures

pub look_at-requires-clause-object : goal.look_at-requires-clause-object
look_at-requires-clause-object g c =
    c.requires.some _ (subst (λ n. Object c.args.reached.now (raster_point n c.near_number-q.result)) c.requires.sides
    (sym c.has_number.ensures ∙ c.if-has_number.true))

pub look_at-requires-clause-far : goal.look_at-requires-clause-far
look_at-requires-clause-far g c =
    let l = round_below c.requires.masked c.loop-rest.invariant.walk (omega arith) (omega arith) c.requires.boxed c.near_number-q.ensures in
    rw c.loop-rest.invariant.same (c.requires.far c.near_number-q.result l
    (subst (λ n. Object c.args.reached.now (raster_point n c.near_number-q.result)) c.requires.sides (sym c.has_number.ensures ∙ c.if-has_number.true)))

pub loop-rest-smaller-then-has_number : goal.loop-rest-smaller-then-has_number
loop-rest-smaller-then-has_number g c = rest_less c.args.mask c.loop-rest.invariant.walk.from c.loop-rest.rest c.loop-rest.invariant.walk.left (omega arith)
    (omega arith)

pub loop-rest-smaller : goal.loop-rest-smaller
loop-rest-smaller g c = rest_less c.args.mask c.loop-rest.invariant.walk.from c.loop-rest.rest c.loop-rest.invariant.walk.left (omega arith) (omega arith)

pub loop-rest-preserved-then-has_number : goal.loop-rest-preserved-then-has_number
loop-rest-preserved-then-has_number g c = record {
  walk = round_looked c.requires.masked c.loop-rest.invariant.walk (omega arith) (omega arith) c.requires.boxed c.near_number-q.ensures c.requires.sides
      (sym c.has_number.ensures ∙ c.if-has_number.true) (rw (← c.loop-rest.invariant.same) c.look_at.ensures.looked)
      (omega (arith, c.look_at.ensures.one_step));
  same = c.look_at.ensures.distances ∙ c.loop-rest.invariant.same;
}

pub loop-rest-preserved : goal.loop-rest-preserved
loop-rest-preserved g c = record {
  walk = round_passed c.requires.masked c.loop-rest.invariant.walk (omega arith) (omega arith) c.requires.boxed c.near_number-q.ensures c.requires.sides
      (sym c.has_number.ensures ∙ c.if-has_number.false);
  same = c.loop-rest.invariant.same;
}

pub returns-clause-waits : goal.returns-clause-waits
returns-clause-waits g c = round_ends c.requires.masked c.loop-rest.invariant.walk (omega arith)

pub returns-clause-few : goal.returns-clause-few
returns-clause-few g c = walk_count _ g.P.Pairing.NEAR_COUNT c.args.mask c.loop-rest.rest c.args.steps.now c.loop-rest.steps c.loop-rest.invariant.walk
