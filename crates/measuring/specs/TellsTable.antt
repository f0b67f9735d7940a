-- What a table that the program keeps tells: the objects of a picture, and their measures.
-- A further part of the table is one more field here.
use Rattle.std.specs.Prelude.{◌≡◌, ℕ, List, map}
use Rattle.shape_terms.specs.Pictures.{Picture}
use Rattle.shape_terms.specs.Parts.{LabelsObject}
use Rattle.measure_terms.specs.Facts.{facts}
use Rattle.measure_terms.specs.Measures.{greatest}
use Rattle.measure_terms.specs.Tables.{rows}
use Rattle.measuring.specs.Told.{measures_told}
use Rattle.measuring.specs.declared.table.Table.{Table}

-- the labels are those of the picture's components, and there is a row for each of them
pub record TellsTable (object : Picture) (squares : List ℕ) (left : Picture) (t : Table) : Type 0 where
  pub labels : LabelsObject object t.labels
  pub count : t.count ≡ greatest t.labels
  pub rows : map (measures_told object.sides) t.rows.items ≡ rows t.count (facts object squares left t.labels)
