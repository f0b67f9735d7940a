use Rattle.std.proofs.Common.{◌≤◌, length, arith, refl, FitsSigned, w32}
use Rattle.std.proofs.lemmas.Int.{to_z-of_z}
use Rattle.shape_adj.proofs.ObjectRows.{row_from, row_end_within}
use Rattle.shape_adj.proofs.framed.end_in_row.Goals as goal

pub returns-clause-row : goal.returns-clause-row
returns-clause-row g c =
    let sides = c.args.sides.now in
    let ns = g.P.Point.coords sides.lengths in
    let axes = g.met.P.Point.axes sides.lengths in
    let some = g.met.P.Point.two_or_three in
    let long : 1 ≤ length ns = omega (arith, axes, some) in
    let f : FitsSigned w32 c.side.result = record { sfits = c.side.type_inv } in
    let end = rw (to_z-of_z w32 c.side.result f) at c.end_of_row.ensures.value in
    row_from ns c.args.i c.side.result c.end_of_row.result _ long c.side.ensures.value c.side.ensures.some end refl

pub returns-clause-within : goal.returns-clause-within
returns-clause-within g c =
    let sides = c.args.sides.now in
    let ns = g.P.Point.coords sides.lengths in
    let axes = g.met.P.Point.axes sides.lengths in
    let some = g.met.P.Point.two_or_three in
    let long : 1 ≤ length ns = omega (arith, axes, some) in
    let f : FitsSigned w32 c.side.result = record { sfits = c.side.type_inv } in
    let end = rw (to_z-of_z w32 c.side.result f) at c.end_of_row.ensures.value in
    row_end_within ns c.args.i c.side.result c.end_of_row.result long c.side.ensures.value c.side.ensures.some end c.requires
