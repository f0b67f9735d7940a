-- The columns of local thickness: the mean, the deviation and the greatest of the diameters at the points of an object.
-- They are spelled in sides of a pixel or a voxel, with three digits behind the point.
use Rattle.std.specs.Prelude.{ℕ, Bool, if◌then◌else◌, List, ◌++◌, codes, slice_index_or}
use Rattle.measure_terms.specs.ThicknessColumns.{ThicknessSum, mean_diameter, deviation, greatest_diameter}
use Rattle.measure_terms.specs.Texts.{Columns, thousandths}

-- the cells of an object
abbrev pub thickness_cells : ThicknessSum → List ℕ
thickness_cells s = thousandths (mean_diameter s) ++ (thousandths (deviation s) ++ thousandths (greatest_diameter s))

-- the sums of no object, for a row without one
abbrev pub no_thickness : ThicknessSum
no_thickness = record { count = 0; diameters = 0; squares = 0; greatest = 0 }

-- the same, and empty cells where no distance is told
abbrev pub cells_where_told : (told : Bool) → ThicknessSum → List ℕ
cells_where_told told s = if told then thickness_cells s else codes ",,,"

-- the columns of objects with these sums, with or without distances
abbrev pub thickness_columns : (told : Bool) → List ThicknessSum → Columns
thickness_columns told ss =
    record { names = codes ",thickness,thickness_sd,thickness_max"; cells = λ i. cells_where_told told (slice_index_or ss i no_thickness) }
