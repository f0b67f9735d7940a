use Rattle.std.proofs.Common.{arith}
use Rattle.shape_adj.proofs.Entering.{row_around}
use Rattle.shape_adj.proofs.flood.row_of.Goals as goal

pub overflow_add-result : goal.overflow_add-result
overflow_add-result g c =
    let net = c.in_rows.ensures in
    let r = row_around _ _ c.row_length-length.result c.args.s net.some net.whole c.requires c.row_length-length.ensures in
    omega (arith, r.inside, net.few)

pub returns : goal.returns
returns g c =
    let net = c.in_rows.ensures in
    row_around _ _ c.row_length-length.result c.args.s net.some net.whole c.requires c.row_length-length.ensures
