use Rattle.std.proofs.Common.{◌≡◌, ◌<◌, ◌≤◌, true, false, sym, ◌∙◌, arith}
use Rattle.shape_adj.proofs.MaskBits.{few_neighbours}
use Rattle.shape_plane.proofs.Neighbours.{candidates_none, candidates_more, candidates_same}
use Rattle.shape_plane.proofs.around.Around.candidates_by_number.Goals as goal
use Rattle.shape_plane.proofs.around.Around.candidates_by_number.Goals.{then-has_behind, else-has_behind}

pub loop-n-init : goal.loop-n-init
loop-n-init g c = candidates_none c.args.left.now (g.P.Point.coords c.args.self.now.point)

pub loop-n-preserved : goal.loop-n-preserved
loop-n-preserved g c =
    let few : g.P.Pairing.NEAR_COUNT ≤ 26 = few_neighbours g.P.Point.DIM g.P.Pairing.NEAR_COUNT g.met.P.Point.two_or_three g.met.P.Pairing.near_total in
    let below : c.loop-n.n < 32 = omega (arith, c.loop-n-test.true, c.NEAR_COUNT-n-end.ensures, few) in
    let L = c.args.left.now in
    let p = g.P.Point.coords c.args.self.now.point in
    elim c.if-has_behind.branch [
      | then-has_behind w ↦ rw w.found-is (candidates_more c.loop-n.n L p c.loop-n.found c.loop-n.invariant below)
      | else-has_behind w ↦ rw w.found-is (candidates_same c.loop-n.n L p c.loop-n.found c.loop-n.invariant
          (λ o. let f : false ≡ true = sym w.if-has_behind.false ∙ c.has_behind.ensures o in cc))
    ]
