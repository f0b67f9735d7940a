use Rattle.shape_crack.specs.Terms.{crack_of}
use Rattle.shape_edges.proofs.report.add_cycle.Goals as goal

pub returns : goal.returns
returns c =
    let start = crack_of c.args.start in
    λ X k at t. c.add_gaps.ensures X k start at (c.in_ok-add_arcs.ensures X k start at (c.in_ok-add_head.ensures X k at t))
