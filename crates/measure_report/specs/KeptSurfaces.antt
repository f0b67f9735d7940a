-- What the columns of Euler numbers and surfaces in space spell of what the program keeps for them.
-- Where each kept surface is that of the numbers beside it, they are those of the definitions.
use Rattle.std.specs.Prelude.{ℕ, true, List, ◌++◌, codes, map, slice_index, slice_index_or, Option, Some, None}
use Rattle.measure_terms.specs.Spacing.{Spacing}
use Rattle.measure_terms.specs.SpacedSurface.{volume, spaced_surface}
use Rattle.measure_terms.specs.Texts.{Columns, whole, signed, thousandths}
use Rattle.measuring.specs.Spaced.{spacing_told}
use Rattle.measuring.specs.declared.spacing.Spacing as Program
use Rattle.measuring.specs.MinkowskiTold.{told, all_told}
use Rattle.measure_report.specs.MinkowskiColumns.{no_minkowski, minkowski_columns}
use Rattle.measure_report.specs.declared.minkowski.SolidNumbers.{SolidNumbers}

-- the cells of the object in the row with a place, by a spacing
abbrev pub kept_cells : Spacing → SolidNumbers → ℕ → List ℕ
kept_cells s c i =
    signed (slice_index_or (all_told c.numbers.items) i no_minkowski).euler
    ++ (thousandths (slice_index c.surfaces.items i) ++ whole (volume s (slice_index c.areas.items i)))

abbrev pub columns_by : Option Program.Spacing → SolidNumbers → Columns
columns_by None c = minkowski_columns true (all_told c.numbers.items)
columns_by (Some s) c = record { names = codes ",euler,surface,volume"; cells = kept_cells (spacing_told s) c }

abbrev pub kept_columns : SolidNumbers → Columns
kept_columns c = columns_by c.spacing c

-- each kept surface is that of the numbers beside it
abbrev pub surfaces_of : Program.Spacing → SolidNumbers → List ℕ
surfaces_of s c = map (λ m. spaced_surface (spacing_told s) (told m)) c.numbers.items
