use Rattle.shape_edges.proofs.Growing.{all_told}
use Rattle.shape_edges.proofs.report.edges.Goals as goal

pub returns : goal.returns
returns c = all_told c.args.grid.now c.in_ok-contours.contours c.in_ok-contours.ensures c.add_cycles.new.report c.add.new.self c.in_ok-add_cycles.ensures
    c.in_ok-add.ensures.ok
