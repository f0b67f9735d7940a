use Rattle.std.proofs.Common.{◌∙◌, map, arith}
use Rattle.shape_terms.specs.Points.{sides_of}
use Rattle.measure_terms.specs.Texts.{rows_text, table_text}
use Rattle.measuring.specs.Told.{measures_told}
use Rattle.measuring.proofs.TextSteps.{row_step, row_last, first}
use Rattle.measuring.proofs.text.table_text.Goals as goal

pub loop-i-init : goal.loop-i-init
loop-i-init g c =
    let told = measures_told (sides_of (g.P.Point.coords c.args.sides.lengths)) in
    first (rows_text c.args.told g.P.Point.DIM (g.C.Columns.columns c.args.more.now) 0 (map told c.args.all.now)) _ _ _ c.new-csv.ensures
    c.in_ok-put_header.ensures

pub loop-i-preserved : goal.loop-i-preserved
loop-i-preserved g c =
    let d = g.P.Point.DIM in
    let more = g.C.Columns.columns c.args.more.now in
    let told = measures_told (sides_of (g.P.Point.coords c.args.sides.lengths)) in
    row_step told c.args.all.now c.args.told d more c.loop-i.i c.index-all-i.result c.loop-i.csv c.put_row.new.csv
    (table_text c.args.told d more (map told c.args.all.now)) (omega arith) c.index-all-i.is c.in_ok-put_row.ensures c.loop-i.invariant

pub returns : goal.returns
returns g c =
    let d = g.P.Point.DIM in
    let more = g.C.Columns.columns c.args.more.now in
    let told = measures_told (sides_of (g.P.Point.coords c.args.sides.lengths)) in
    c.into_text.ensures ∙ row_last told c.args.all.now c.args.told d more c.loop-i.i c.loop-i.csv (table_text c.args.told d more (map told c.args.all.now))
    (omega arith) c.loop-i.invariant
