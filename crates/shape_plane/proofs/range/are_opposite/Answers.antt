use Rattle.std.proofs.Common.{rules, FitsSigned, ◌∙◌}
use Rattle.std.specs.Prelude.{◌*ℤ◌}
use Rattle.std.specs.Int.{w64}
use Rattle.std.proofs.lemmas.Int.{to_z-of_z}
use Rattle.shape_plane.specs.Rows.{row_at}
use Rattle.shape_plane.proofs.Together.{opposite_told}
use Rattle.shape_plane.proofs.range.are_opposite.Goals as goal

pub returns : goal.returns
returns c =
    let f1 : FitsSigned w64 c.second.result = search rules in
    let f2 : FitsSigned w64 c.second-2.result = search rules in
    let f3 : FitsSigned w64 c.product.result = search rules in
    let v = simp to_z-of_z at c.product.ensures.value in
    let e = simp to_z-of_z at c.is_negative.ensures in
    opposite_told c.is_negative.result (row_at c.args.rows.now c.args.i).y (row_at c.args.rows.now c.args.j).y c.product.result
    (v ∙ (λ l. c.second.ensures.value l *ℤ c.second-2.ensures.value l)) e
