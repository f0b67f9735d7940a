use Rattle.std.proofs.Common.{ℕ, List, ◌<◌, sym, subst, ◌∙◌}
use Rattle.std.specs.Prelude.{Contains, IsTrue}
use Rattle.shape_terms.specs.Points.{in_box}
use Rattle.shape_terms.specs.Adjacency.{near_point}
use Rattle.shape_plane.specs.Trials.{spread_of, IsSettled, IsSpreading}
use Rattle.shape_plane.proofs.Going.{going_more, going_in_box}
use Rattle.shape_plane.proofs.Spreading.{got}
use Rattle.shape_plane.proofs.Neighbours.{within_sides}
use Rattle.shape_plane.proofs.grow.spread_from.Goals as goal

pub new-around-requires-clause-within : goal.new-around-requires-clause-within
new-around-requires-clause-within g c =
    let w = c.requires.going in
    within_sides g.P.Point.MAX_SIDE c.args.left.now.sides (g.P.Point.coords c.point.result) c.is_picture.ensures.in_range
    (going_in_box g.P.Point.DIM g.P.Pairing.NEAR_COUNT w.0 w.1 w.2 c.args.k c.args.growing.now c.args.left.now c.args.tried.now c.args.refused.now c.args.k
    (g.P.Point.coords c.point.result) w.3 c.point.ensures)

pub new-around-requires-clause-inside : goal.new-around-requires-clause-inside
new-around-requires-clause-inside g c =
    let w = c.requires.going in
    subst (λ (s : List ℕ). IsTrue (in_box s (g.P.Point.coords c.point.result))) (sym c.requires.near)
    (going_in_box g.P.Point.DIM g.P.Pairing.NEAR_COUNT w.0 w.1 w.2 c.args.k c.args.growing.now c.args.left.now c.args.tried.now c.args.refused.now c.args.k
    (g.P.Point.coords c.point.result) w.3 c.point.ensures)

pub returns : goal.returns
returns g c = record {
  going = λ t first p h.
      going_more g.P.Point.DIM g.P.Pairing.NEAR_COUNT t first p c.args.k c.args.growing.now c.spread.new.growing (g.P.Point.coords c.point.result)
      c.args.left.now c.args.tried.now c.spread.new.left c.spread.new.tried c.args.refused.now c.spread.new.refused
      h c.point.ensures c.in_ok-spread.ensures.axis c.in_ok-spread.ensures.later
      (subst (λ (z : g.row.P.Denot). (n : ℕ) → n < g.P.Pairing.NEAR_COUNT
      → IsSettled (spread_of c.spread.new.growing.points c.spread.new.left c.spread.new.tried c.spread.new.refused) (near_point (g.P.Point.coords z) n))
      c.new-around.ensures.point c.in_ok-spread.ensures.settled) c.in_ok-spread.ensures.spreads;
}

pub spread-requires-clause-spreading : goal.spread-requires-clause-spreading
spread-requires-clause-spreading g c =
    let w = c.requires.going in (
      w.1,
      subst (λ (t : ℕ). IsSpreading g.P.Point.DIM t w.1 (spread_of c.args.growing.now.points c.args.left.now c.args.tried.now c.args.refused.now))
          (sym w.3.axis) w.3.spreading,
    )

pub spread-requires-clause-point : goal.spread-requires-clause-point
spread-requires-clause-point g c =
    subst (λ (z : g.row.P.Denot). Contains c.args.growing.now.points (g.P.Point.coords z)) (sym c.new-around.ensures.point)
    (got c.args.growing.now.points c.args.k (g.P.Point.coords c.point.result) c.point.ensures)

pub spread-requires-clause-near : goal.spread-requires-clause-near
spread-requires-clause-near g c = rw c.new-around.ensures.near c.requires.near

pub spread-requires-clause-sides : goal.spread-requires-clause-sides
spread-requires-clause-sides g c = let w = c.requires.going in w.3.spreading.left_sides ∙ sym w.3.spreading.tried_sides
