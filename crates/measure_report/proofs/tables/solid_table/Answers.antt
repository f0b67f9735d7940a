use Rattle.std.proofs.Common.{◌≡◌, true, refl, ◌∙◌, [], ◌∷◌, map}
use Rattle.std.proofs.lemmas.Result.{IfOk-weaker}
use Rattle.shape_terms.specs.Points.{sides_of}
use Rattle.measure_terms.specs.Texts.{table_text}
use Rattle.measuring.specs.Told.{measures_told}
use Rattle.measure_report.specs.FeretColumns.{feret_columns}
use Rattle.measure_report.specs.FurtherColumns.{beside, group_columns, solid_columns, tells_distances}
use Rattle.measure_report.specs.FurtherTold.{solid_told}
use Rattle.measure_report.specs.TableTexts.{IsTableText}
use Rattle.measure_report.proofs.TableMade.{are_said, solid_made, areas_of, areas_told}
use Rattle.measure_report.specs.KeptSurfaces.{kept_columns}
use Rattle.measure_report.proofs.KeptColumns.{kept_is}
use Rattle.measure_report.proofs.tables.solid_table.Goals as goal

pub returns : goal.returns
returns c = λ lines told.
    let seen = c.args.seen.now in
    let table = c.in_ok-table.table in
    let tells = c.in_ok-table.ensures in
    let more = c.in_ok-more.more in
    let groups = c.in_ok-more.ensures.groups in
    let g = c.args.groups in
    let f = solid_told more in
    let p = c.sides.result.lengths in
    let sides = sides_of (p.x ∷ p.y ∷ p.z ∷ []) in
    let side : sides ≡ seen.object.sides = c.sides.ensures in
    let slice = c.as_slice.ensures.value in
    let ms = map (measures_told seen.object.sides) table.rows.items in
    let areas : more.numbers.areas.items ≡ areas_of ms = c.in_ok-more.ensures.areas ∙ areas_told seen.object.sides table.rows.items in
    let kept = kept_is g.spacing more.numbers c.in_ok-more.ensures.spacing c.in_ok-more.ensures.surfaces in
    IfOk-weaker c.table_text.result
    (λ t. t.items ≡ table_text c.tells_distances-told.result 3
    (beside (kept_columns more.numbers) (beside (feret_columns true f.ferets) (group_columns more.groups 3 f)))
    (map (measures_told sides) c.as_slice.result.now))
    (λ t. IsTableText g 3 lines t.items)
    (λ t h. solid_made g lines seen.object seen.squares seen.left table.labels table.count ms f t.items
    (are_said lines seen seen.object seen.squares seen.left told refl refl refl)
    (record { named = tells.labels; count_is = tells.count; rows_are = tells.rows })
    c.in_ok-more.ensures.further
    (h ∙ (λ i. table_text (c.tells_distances-told.ensures i) 3 (beside (kept i) (beside (feret_columns true f.ferets) (group_columns (groups i) 3 f)))
    (map (measures_told (side i)) (slice i)))
    ∙ (λ i. table_text (tells_distances g 3) 3 (solid_columns g (areas i) f) ms)))
    c.table_text.ensures
