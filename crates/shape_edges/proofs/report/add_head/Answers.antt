use Rattle.std.proofs.Common.{rules}
use Rattle.std.proofs.lemmas.Result.{on_ok_weaker}
use Rattle.shape_crack.specs.Terms.{crack_of}
use Rattle.edge_terms.specs.Lines.{Line, spelled}
use Rattle.shape_edges.proofs.Growing.{cycle_told}
use Rattle.shape_edges.proofs.report.add_head.Goals as goal

pub returns : goal.returns
returns c =
    let start = crack_of c.args.start in
    let n = c.steps.result in
    let m = c.len.result in
    let fields : spelled.IsLine (Line.Cycle start n m) = search rules in
    λ X k at t. on_ok_weaker c.add.result
    (λ e. cycle_told X k start c.args.cover.now at c.args.report.now c.add.new.self n m c.steps.ensures c.len.ensures t fields e) c.add.ensures.ok
