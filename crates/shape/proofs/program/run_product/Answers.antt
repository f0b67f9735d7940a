use Rattle.std.proofs.Common.{ap, subst}
use Rattle.shape_desk.specs.Files.{texts}
use Rattle.report_lines.specs.Outcomes as Products
use Rattle.shape.specs.Runs.{Shows}
use Rattle.shape.proofs.Ended.{product_ended}
use Rattle.shape.proofs.program.run_product.Goals as goal

pub returns-clause-ended : goal.returns-clause-ended
returns-clause-ended g c =
    let o = c.run-outcome.result in
    let e = c.of_product.result in
    let shown = subst (λ t. Shows (Products.status_of o) (Products.message_of t o) (Products.number_of o) e) c.usage.ensures c.of_product.ensures in
    product_ended c.args.product (texts c.args.rest.now) c.requires.page (g.D.Desk.state c.args.desk.now) (g.D.Desk.state c.run-outcome.new.desk) e o
    c.run-outcome.ensures.usage (λ u. ap g.D.Desk.state (c.run-outcome.ensures.untouched u)) c.run-outcome.ensures.ran shown
