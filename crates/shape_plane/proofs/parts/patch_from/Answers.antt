use Rattle.std.proofs.Common.{subst, ℕ, length}
use Rattle.shape_terms.specs.Naive.{IsNaiveFor}
use Rattle.shape_terms.specs.Adjacency.{near_steps}
use Rattle.shape_plane.specs.Trials.{spread_of}
use Rattle.shape_plane.specs.Rounds.{IsGoing}
use Rattle.shape_plane.proofs.Unmarks.{all_inside}
use Rattle.shape_plane.proofs.Spreading.{got}
use Rattle.shape_plane.proofs.Partings.{new_part, points_long}
use Rattle.shape_plane.proofs.Refusing.{few_refused, small_refused, refused_of}
use Rattle.shape_plane.proofs.parts.patch_from.Goals as goal

pub unmark-requires-clause-inside : goal.unmark-requires-clause-inside
unmark-requires-clause-inside g c =
    all_inside g.P.Point.DIM c.args.axis c.args.left.now
    (spread_of c.in_ok-grown.grown.growing.points c.grow.new.left c.grow.new.tried c.in_ok-grown.grown.refused) c.in_ok-grown.ensures.spreading

pub new-requires-clause-few : goal.new-requires-clause-few
new-requires-clause-few g c =
    few_refused g.P.Point.DIM c.args.axis c.args.left.now
    (spread_of c.in_ok-grown.grown.growing.points c.grow.new.left c.grow.new.tried c.in_ok-grown.grown.refused) c.sort.new.self
    c.in_ok-grown.ensures.spreading c.sort.ensures.same c.is_picture.ensures.few

pub new-requires-clause-small : goal.new-requires-clause-small
new-requires-clause-small g c =
    small_refused g.P.Point.DIM c.args.axis c.args.left.now
    (spread_of c.in_ok-grown.grown.growing.points c.grow.new.left c.grow.new.tried c.in_ok-grown.grown.refused) c.sort.new.self
    c.in_ok-grown.ensures.spreading c.sort.ensures.same

pub returns-clause-cleared : goal.returns-clause-cleared
returns-clause-cleared g c a = (c.in_ok-grown.ensures.spreading.left (g.P.Point.coords c.args.p) a).1
    (got c.in_ok-grown.grown.growing.points 0 (g.P.Point.coords c.args.p) c.in_ok-grown.ensures.start)

pub returns-clause-next : goal.returns-clause-next
returns-clause-next g c =
    let h = c.in_ok-grown.ensures in
    let going : IsGoing g.P.Point.DIM (length (near_steps g.P.Point.DIM)) c.args.axis c.args.left.now (g.P.Point.coords c.args.p)
    (length c.in_ok-grown.grown.growing.points) c.in_ok-grown.grown.growing c.grow.new.left c.grow.new.tried c.in_ok-grown.grown.refused =
    subst (λ (n : ℕ). IsGoing g.P.Point.DIM n c.args.axis c.args.left.now (g.P.Point.coords c.args.p) (length c.in_ok-grown.grown.growing.points)
    c.in_ok-grown.grown.growing c.grow.new.left c.grow.new.tried c.in_ok-grown.grown.refused) g.met.P.Pairing.near_total h in
    record {
      sides = h.spreading.left_sides;
      part = new_part g.P.Point.DIM g.P.Pairing.NEAR_COUNT c.args.axis c.args.left.now c.grow.new.left c.grow.new.tried (g.P.Point.coords c.args.p)
          (length c.in_ok-grown.grown.growing.points) c.in_ok-grown.grown.growing c.in_ok-grown.grown.refused c.new.result.found.patch h c.new.ensures.points
          (subst (λ (t : ℕ). IsNaiveFor t c.in_ok-grown.grown.growing.points c.new.result.found.patch.plane) h.axis c.new.ensures.plane) c.requires.left
          c.requires.least;
      refused = refused_of g.P.Point.DIM c.args.axis c.args.left.now (g.P.Point.coords c.args.p) c.in_ok-grown.grown.growing c.grow.new.left c.grow.new.tried
          c.in_ok-grown.grown.refused c.sort.new.self c.new.result.found.patch c.new.result.found.refused
          going (points_long g.P.Point.DIM c.args.axis c.args.left.now
          (spread_of c.in_ok-grown.grown.growing.points c.grow.new.left c.grow.new.tried c.in_ok-grown.grown.refused) c.is_picture.ensures.picture
          h.spreading)
          c.sort.ensures.same c.sort.ensures.rising c.new.ensures.points c.new.ensures.refused;
    }
