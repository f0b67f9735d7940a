use Rattle.std.proofs.Common.{arith, length, sym, ◌∙◌}
use Rattle.shape_plane.proofs.Going.{going_first, going_less}
use Rattle.shape_plane.proofs.Spreading.{in_sides}
use Rattle.shape_plane.proofs.Neighbours.{within_sides}
use Rattle.shape_plane.proofs.grow.grow.Goals as goal

pub first-requires-clause-inside : goal.first-requires-clause-inside
first-requires-clause-inside g c =
    within_sides g.P.Point.MAX_SIDE c.args.left.now.sides (g.P.Point.coords c.args.p) c.is_picture.ensures.in_range
    (in_sides c.args.left.now (g.P.Point.coords c.args.p) c.requires.left)

pub loop-k-init : goal.loop-k-init
loop-k-init g c =
    rw c.in_ok-refused.ensures
    (going_first g.P.Point.DIM g.P.Pairing.NEAR_COUNT c.args.axis c.args.left.now c.args.tried.now (g.P.Point.coords c.args.p) c.in_ok-growing.growing
    c.clear.new.self c.is_picture.ensures.picture c.requires.left c.in_ok-growing.ensures.axis c.in_ok-growing.ensures.points c.clear.ensures
    c.requires.sides c.requires.none)

pub spread_from-requires-clause-going : goal.spread_from-requires-clause-going
spread_from-requires-clause-going g c = (c.args.axis, c.args.left.now, g.P.Point.coords c.args.p, c.loop-k.invariant)

pub loop-k-preserved : goal.loop-k-preserved
loop-k-preserved g c = c.in_ok-spread_from.ensures.going c.args.axis c.args.left.now (g.P.Point.coords c.args.p) c.loop-k.invariant

pub returns : goal.returns
returns g c =
    going_less g.P.Point.DIM g.P.Pairing.NEAR_COUNT c.args.axis c.args.left.now (g.P.Point.coords c.args.p) c.loop-k.k (length c.loop-k.growing.points)
    c.loop-k.growing c.loop-k.left c.loop-k.tried c.loop-k.refused
    (let t = c.loop-k-test.false in let e = c.len.ensures in omega (arith, t, e)) c.loop-k.invariant

pub spread_from-requires-clause-near : goal.spread_from-requires-clause-near
spread_from-requires-clause-near g c = c.requires.near ∙ sym c.loop-k.invariant.spreading.left_sides
