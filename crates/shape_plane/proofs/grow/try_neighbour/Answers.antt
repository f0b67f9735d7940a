use Rattle.std.proofs.Common.{◌≡◌, ℕ, List, true, false, sym, subst, ◌∙◌}
use Rattle.std.specs.Prelude.{IsTrue}
use Rattle.shape_terms.specs.Points.{in_box}
use Rattle.shape_terms.specs.Adjacency.{Near, near_point}
use Rattle.shape_plane.specs.Trials.{spread_of, IsSettled}
use Rattle.shape_plane.proofs.Spreading.{in_sides, tried_spreads, tried_later}
use Rattle.shape_plane.proofs.Neighbours.{within_sides, is_open}
use Rattle.shape_plane.proofs.Tries.{closed, later_same, same_sides}
use Rattle.shape_plane.proofs.Refusing.{few_taken}
use Rattle.shape_plane.proofs.grow.try_neighbour.Goals as goal

pub try_point-requires-clause-inside : goal.try_point-requires-clause-inside
try_point-requires-clause-inside g c =
    let o = is_open c.args.left.now c.args.tried.now (near_point (g.P.Point.coords c.args.around.now.point) c.args.n) (g.P.Point.coords c.near.result)
    c.is_open.result c.is_open.ensures c.if-not-is_open.false c.near.ensures in
    within_sides g.P.Point.MAX_SIDE c.args.left.now.sides (g.P.Point.coords c.near.result) c.is_picture.ensures.in_range
    (in_sides c.args.left.now (g.P.Point.coords c.near.result) o.0)

pub try_point-requires-clause-few : goal.try_point-requires-clause-few
try_point-requires-clause-few g c =
    let w = c.requires.spreading in
    few_taken g.P.Point.DIM c.args.growing.now.axis w.0 (spread_of c.args.growing.now.points c.args.left.now c.args.tried.now c.args.refused.now) w.1
    c.is_picture.ensures.few

pub returns-clause-later : goal.returns-clause-later
returns-clause-later g c =
    let o = is_open c.args.left.now c.args.tried.now (near_point (g.P.Point.coords c.args.around.now.point) c.args.n) (g.P.Point.coords c.near.result)
    c.is_open.result c.is_open.ensures c.if-not-is_open.false c.near.ensures in
    (tried_later g.P.Point.DIM c.args.growing.now.axis (spread_of c.args.growing.now.points c.args.left.now c.args.tried.now c.args.refused.now)
    (spread_of c.try_point.new.growing.points c.try_point.new.left c.try_point.new.tried c.try_point.new.refused) (g.P.Point.coords c.near.result)
    c.is_picture.ensures.picture c.is_picture-2.ensures.picture c.requires.sides o.0 c.in_ok-try_point.ensures.tried).0

pub returns-clause-settled : goal.returns-clause-settled
returns-clause-settled g c =
    let o = is_open c.args.left.now c.args.tried.now (near_point (g.P.Point.coords c.args.around.now.point) c.args.n) (g.P.Point.coords c.near.result)
    c.is_open.result c.is_open.ensures c.if-not-is_open.false c.near.ensures in
    subst (IsSettled (spread_of c.try_point.new.growing.points c.try_point.new.left c.try_point.new.tried c.try_point.new.refused)) c.near.ensures
    (tried_later g.P.Point.DIM c.args.growing.now.axis (spread_of c.args.growing.now.points c.args.left.now c.args.tried.now c.args.refused.now)
    (spread_of c.try_point.new.growing.points c.try_point.new.left c.try_point.new.tried c.try_point.new.refused) (g.P.Point.coords c.near.result)
    c.is_picture.ensures.picture c.is_picture-2.ensures.picture c.requires.sides o.0 c.in_ok-try_point.ensures.tried).1

pub returns-clause-spreads : goal.returns-clause-spreads
returns-clause-spreads g c first s =
    let o = is_open c.args.left.now c.args.tried.now (near_point (g.P.Point.coords c.args.around.now.point) c.args.n) (g.P.Point.coords c.near.result)
    c.is_open.result c.is_open.ensures c.if-not-is_open.false c.near.ensures in
    let near : Near (g.P.Point.coords c.args.around.now.point) (g.P.Point.coords c.near.result) = subst (Near (g.P.Point.coords c.args.around.now.point))
    (sym c.near.ensures) ((g.met.P.Pairing.near_listed c.args.around.now.point).only c.args.n c.requires.below) in
    (tried_spreads g.P.Point.DIM c.args.growing.now.axis first (spread_of c.args.growing.now.points c.args.left.now c.args.tried.now c.args.refused.now)
    (spread_of c.try_point.new.growing.points c.try_point.new.left c.try_point.new.tried c.try_point.new.refused) (g.P.Point.coords c.args.around.now.point)
    (g.P.Point.coords c.near.result)
    c.is_picture.ensures.picture c.is_picture-2.ensures.picture s o.0 (λ t. let f : false ≡ true = sym o.1 ∙ t in cc) c.requires.point
    (g.met.P.Pairing.near_symmetric c.args.around.now.point c.near.result near) c.in_ok-try_point.ensures.tried).0

pub try_point-requires-clause-left : goal.try_point-requires-clause-left
try_point-requires-clause-left g c =
    let o = is_open c.args.left.now c.args.tried.now (near_point (g.P.Point.coords c.args.around.now.point) c.args.n) (g.P.Point.coords c.near.result)
    c.is_open.result c.is_open.ensures c.if-not-is_open.false c.near.ensures in
    in_sides c.args.left.now (g.P.Point.coords c.near.result) o.0

pub try_point-requires-clause-tried : goal.try_point-requires-clause-tried
try_point-requires-clause-tried g c =
    let o = is_open c.args.left.now c.args.tried.now (near_point (g.P.Point.coords c.args.around.now.point) c.args.n) (g.P.Point.coords c.near.result)
    c.is_open.result c.is_open.ensures c.if-not-is_open.false c.near.ensures in
    subst (λ (s : List ℕ). IsTrue (in_box s (g.P.Point.coords c.near.result))) c.requires.sides (in_sides c.args.left.now (g.P.Point.coords c.near.result) o.0)

pub returns-clause-sides : goal.returns-clause-sides
returns-clause-sides g c = same_sides g.P.Point.DIM c.args.growing.now.axis
    (spread_of c.args.growing.now.points c.args.left.now c.args.tried.now c.args.refused.now)
    (spread_of c.try_point.new.growing.points c.try_point.new.left c.try_point.new.tried c.try_point.new.refused) (g.P.Point.coords c.near.result)
    c.requires.sides c.in_ok-try_point.ensures.tried

pub returns-then-not-is_open-clause-later : goal.returns-then-not-is_open-clause-later
returns-then-not-is_open-clause-later g c = later_same (spread_of c.args.growing.now.points c.args.left.now c.args.tried.now c.args.refused.now)

pub returns-then-not-is_open-clause-settled : goal.returns-then-not-is_open-clause-settled
returns-then-not-is_open-clause-settled g c = closed _ _ c.is_open.result c.is_open.ensures c.if-not-is_open.true

pub returns-then-not-is_open-clause-spreads : goal.returns-then-not-is_open-clause-spreads
returns-then-not-is_open-clause-spreads g c first h = h
