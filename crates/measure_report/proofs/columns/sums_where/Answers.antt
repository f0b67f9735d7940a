use Rattle.std.proofs.Common.{ap, sym, ◌∙◌, length, map}
use Rattle.shape_terms.specs.Points.{box_count}
use Rattle.shape_terms.specs.Pictures.{Picture}
use Rattle.shape_thickness.proofs.GreatestSquares.{are_greatest}
use Rattle.masking.specs.Pictures.{told_square}
use Rattle.measure_report.proofs.columns.sums_where.Goals as goal

pub thickness_sums-requires-clause-thicknesses : goal.thickness_sums-requires-clause-thicknesses
thickness_sums-requires-clause-thicknesses g c =
    let object = c.object.result.now in
    ap length (c.as_slice.ensures.value ∙ c.in_ok-balls.ensures) ∙ (are_greatest object (map told_square c.squares.result.now)).filled
    ∙ ap (λ (X : Picture). box_count X.sides) c.object.ensures ∙ ap box_count (sym c.sides.ensures)
