use Rattle.std.proofs.Common.{rules}
use Rattle.std.proofs.lemmas.Result.{on_ok_weaker}
use Rattle.edge_terms.specs.Lines.{Line, spelled}
use Rattle.shape_edges.proofs.Growing.{sides_told}
use Rattle.shape_edges.proofs.report.add_sides.Goals as goal

pub returns : goal.returns
returns c =
    let sides = c.flat_sides-sides.result in
    let fields : spelled.IsLine (Line.Edges sides.width sides.height) = search rules in
    on_ok_weaker c.add.result
    (λ e. sides_told c.args.grid.now sides.width sides.height c.args.report.now c.add.new.self c.flat_sides-sides.ensures c.requires fields e)
    c.add.ensures.ok
