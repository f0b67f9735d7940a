use Rattle.std.proofs.Common.{ℕ, List, sym, subst, ◌∙◌, arith}
use Rattle.std.specs.Prelude.{Contains}
use Rattle.std.specs.Int.Count.{count_trailing_zeros}
use Rattle.std.proofs.lemmas.List.Elements.{Contains-append_left}
use Rattle.shape_terms.specs.Points.{Point}
use Rattle.shape_plane.specs.Trials.{spread_of, IsSpreading}
use Rattle.shape_plane.proofs.Rests.{least_in, rest_less}
use Rattle.shape_plane.proofs.Going.{round_first, round_more, round_last}
use Rattle.shape_plane.proofs.grow.spread.Goals as goal

pub loop-rest-init : goal.loop-rest-init
loop-rest-init g c =
    round_first g.P.Point.DIM g.P.Pairing.NEAR_COUNT (g.P.Point.coords c.args.around.now.point) c.candidates-rest.result c.args.growing.now c.args.left.now
    c.args.tried.now c.args.refused.now c.requires.sides c.candidates-rest.ensures

pub loop-rest-smaller : goal.loop-rest-smaller
loop-rest-smaller g c = rest_less c.loop-rest.rest (omega arith) (omega arith)

pub loop-rest-preserved : goal.loop-rest-preserved
loop-rest-preserved g c =
    round_more g.P.Point.DIM g.P.Pairing.NEAR_COUNT (g.P.Point.coords c.args.around.now.point) c.loop-rest.rest c.args.growing.now c.loop-rest.growing
    c.try_neighbour.new.growing c.args.left.now c.args.tried.now c.loop-rest.left c.loop-rest.tried c.try_neighbour.new.left c.try_neighbour.new.tried
    c.args.refused.now c.loop-rest.refused c.try_neighbour.new.refused
    (omega arith) (omega arith) c.loop-rest.invariant c.in_ok-try_neighbour.ensures.axis c.in_ok-try_neighbour.ensures.sides c.in_ok-try_neighbour.ensures.later
    c.in_ok-try_neighbour.ensures.settled c.in_ok-try_neighbour.ensures.spreads

pub try_neighbour-requires-clause-below : goal.try_neighbour-requires-clause-below
try_neighbour-requires-clause-below g c = c.loop-rest.invariant.below (count_trailing_zeros 32 c.loop-rest.rest)
    (least_in c.loop-rest.rest (omega arith) (omega arith))

pub try_neighbour-requires-clause-point : goal.try_neighbour-requires-clause-point
try_neighbour-requires-clause-point g c =
    let l = c.loop-rest.invariant.later in
    subst (λ (k : List Point). Contains k (g.P.Point.coords c.args.around.now.point)) (sym l.points)
    (Contains-append_left c.args.growing.now.points l.more (g.P.Point.coords c.args.around.now.point) c.requires.point)

pub try_neighbour-requires-clause-sides : goal.try_neighbour-requires-clause-sides
try_neighbour-requires-clause-sides g c = c.loop-rest.invariant.sides

pub try_neighbour-requires-clause-spreading : goal.try_neighbour-requires-clause-spreading
try_neighbour-requires-clause-spreading g c =
    let w = c.requires.spreading in (
      w.0,
      subst (λ (t : ℕ). IsSpreading g.P.Point.DIM t w.0 (spread_of c.loop-rest.growing.points c.loop-rest.left c.loop-rest.tried c.loop-rest.refused))
          (sym c.loop-rest.invariant.axis) (c.loop-rest.invariant.spreads w.0 w.1),
    )

pub try_neighbour-requires-clause-near : goal.try_neighbour-requires-clause-near
try_neighbour-requires-clause-near g c =
    let w = c.requires.spreading in
    c.requires.near ∙ (w.1.left_sides ∙ sym (c.loop-rest.invariant.spreads w.0 w.1).left_sides)

pub returns-clause-settled : goal.returns-clause-settled
returns-clause-settled g c =
    round_last g.P.Point.DIM g.P.Pairing.NEAR_COUNT (g.P.Point.coords c.args.around.now.point) c.loop-rest.rest c.args.growing.now c.loop-rest.growing
    c.args.left.now c.args.tried.now c.loop-rest.left c.loop-rest.tried c.args.refused.now c.loop-rest.refused c.loop-rest.invariant c.loop-rest-test.false

pub returns-clause-axis : goal.returns-clause-axis
returns-clause-axis g c = c.loop-rest.invariant.axis

pub returns-clause-sides : goal.returns-clause-sides
returns-clause-sides g c = c.loop-rest.invariant.sides

pub returns-clause-later : goal.returns-clause-later
returns-clause-later g c = c.loop-rest.invariant.later

pub returns-clause-spreads : goal.returns-clause-spreads
returns-clause-spreads g c = c.loop-rest.invariant.spreads
