use Rattle.std.proofs.Common.{◌≡◌, true, refl, ◌∙◌, map}
use Rattle.std.proofs.lemmas.Result.{IfOk-weaker}
use Rattle.shape_terms.specs.Points.{sides_of}
use Rattle.measure_terms.specs.Texts.{table_text}
use Rattle.measuring.specs.Told.{measures_told}
use Rattle.bordering.specs.Told.{flat, all_borders, all_bounds}
use Rattle.measure_report.specs.FurtherColumns.{flat_columns}
use Rattle.measure_report.specs.FurtherTold.{flat_told}
use Rattle.measure_report.specs.TableTexts.{IsTableText}
use Rattle.measure_report.proofs.TableMade.{are_said, flat_made, areas_told}
use Rattle.measure_report.proofs.tables.bordered_table.Goals as goal

pub returns : goal.returns
returns c = λ lines tells told border.
    let seen = c.args.seen.now in
    let table = c.args.table.now in
    let more = c.in_ok-more.more in
    let made = c.in_ok-more.ensures in
    let groups = made.groups in
    let g = c.args.groups in
    let f = flat_told more in
    let all = all_bounds more.borders.bounds.items in
    let sides = sides_of (flat c.sides.result.lengths) in
    let side : sides ≡ seen.object.sides = c.sides.ensures in
    let slice = c.as_slice.ensures.value in
    let ms = map (measures_told seen.object.sides) table.rows.items in
    IfOk-weaker c.table_text.result
    (λ t. t.items ≡ table_text true 2 (flat_columns more.groups more.borders.told more.areas.items all f) (map (measures_told sides) c.as_slice.result.now))
    (λ t. IsTableText g 2 lines t.items)
    (λ t h. flat_made g lines seen.object seen.squares seen.left table.labels table.count ms more.borders.told (all_borders c.args.borders.now) more.areas.items
    all f t.items
    (are_said lines seen seen.object seen.squares seen.left told refl refl refl)
    (record { named = c.requires.labels; count_is = c.requires.count; rows_are = c.requires.rows })
    (made.told ∙ tells) border (made.areas ∙ areas_told seen.object.sides table.rows.items) made.bounds made.further
    (h ∙ (λ i. table_text true 2 (flat_columns (groups i) more.borders.told more.areas.items all f) (map (measures_told (side i)) (slice i)))))
    c.table_text.ensures
