use Rattle.std.proofs.Common.{◌≡◌, ◌++◌, map, drop}
use Rattle.shape_terms.specs.Points.{sides_of}
use Rattle.measure_terms.specs.Texts.{rows_text, table_text}
use Rattle.measuring.specs.Told.{measures_told}
use Rattle.measuring.proofs.text.table_text.Given as goal

abbrev pub invariant-loop-i : goal.invariant-loop-i
invariant-loop-i g l =
    let told = measures_told (sides_of (g.P.Point.coords l.sides.lengths)) in
    let more = g.C.Columns.columns l.more in
    l.csv ++ rows_text l.told g.P.Point.DIM more l.i (map told (drop l.i l.all)) ≡ table_text l.told g.P.Point.DIM more (map told l.all)
