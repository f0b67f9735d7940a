use Rattle.std.proofs.Common.{◌≡◌, length, arith, subst}
use Rattle.edge_terms.specs.Corners.{corner_path}
use Rattle.shape_crack.specs.Terms.{crack_of}
use Rattle.shape_edges.specs.Growing.{HasTold}
use Rattle.shape_edges.proofs.Growing.{found_at, crack_there}
use Rattle.shape_edges.proofs.report.add_cycles.Goals as goal

pub edge_cover-requires : goal.edge_cover-requires
edge_cover-requires c = crack_there c.args.grid.now c.args.contours.now c.requires.are c.loop-k.k c.contour.result.now (crack_of c.start-start.result)
    c.contour.ensures c.start-start.ensures

pub add_cycle-requires-clause-side : goal.add_cycle-requires-clause-side
add_cycle-requires-clause-side c =
    (crack_there c.args.grid.now c.args.contours.now c.requires.are c.loop-k.k c.contour.result.now (crack_of c.start-start.result) c.contour.ensures
    c.start-start.ensures).side

pub add_cycle-requires-clause-cover : goal.add_cycle-requires-clause-cover
add_cycle-requires-clause-cover c = (corner_path c.in_ok-cover.ensures.cracks, c.in_ok-cover.ensures.cover)

pub loop-k-preserved : goal.loop-k-preserved
loop-k-preserved c =
    let X = c.args.grid.now in
    let k = c.loop-k.k in
    let start = crack_of c.start-start.result in
    c.in_ok-add_cycle.ensures X k
    (found_at X c.args.contours.now c.requires.are k c.contour.result.now start c.in_ok-cover.cover c.contour.ensures c.start-start.ensures
    c.in_ok-cover.ensures) c.loop-k.invariant

pub returns : goal.returns
returns c =
    let all : c.loop-k.k ≡ length c.args.contours.now = omega (arith, c.loop-k.auto.k-end, c.len-k-end.ensures, c.loop-k-test.false) in
    subst (λ k. HasTold c.args.grid.now k c.loop-k.report) all c.loop-k.invariant
