-- The columns of a table behind those of the measures, in their order: those of the plane or of space, and behind them those of the groups that are asked for.
-- Which columns each kind has is told by itself.
use Rattle.std.specs.Prelude.{ℕ, Bool, ◌==◌, true, false, if◌then◌else◌, List, ◌++◌, Option, Some, None}
use Rattle.measuring.specs.declared.spacing.Spacing.{Spacing}
use Rattle.measure_terms.specs.Measures.{greatest}
use Rattle.measure_terms.specs.Texts.{Columns, no_columns}
use Rattle.measure_terms.specs.Borders.{Border}
use Rattle.measure_terms.specs.Objects.{Bounds, object_bounds}
use Rattle.measure_report.specs.BorderColumns.{tells_lengths, border_columns}
use Rattle.measure_report.specs.FeretColumns.{feret_columns}
use Rattle.measure_report.specs.MinkowskiColumns.{minkowski_columns, space_columns}
use Rattle.measure_report.specs.HullColumns.{hull_columns}
use Rattle.measure_report.specs.RatioColumns.{ratio_columns}
use Rattle.measure_report.specs.MomentColumns.{moment_columns}
use Rattle.measure_report.specs.ThicknessColumns.{thickness_columns}
use Rattle.measure_report.specs.Further.{Further}
use Rattle.measure_report.specs.declared.groups.Groups.{Groups}

-- some columns, and others behind them
abbrev pub beside : Columns → Columns → Columns
beside first second = record { names = first.names ++ second.names; cells = λ i. first.cells i ++ second.cells i }

-- columns where they are asked for
abbrev pub where_asked : Bool → Columns → Columns
where_asked asked columns = if asked then columns else no_columns

abbrev pub has_none : Option Spacing → Bool
has_none None = true
has_none (Some s) = false

-- a table tells distances where pixels are squares and voxels are cubes: a flat one always does, and one of a volume where no spacing is asked for
abbrev pub tells_distances : Groups → (d : ℕ) → Bool
tells_distances g d = if d == 2 then true else has_none g.spacing

-- those of the groups
abbrev pub group_columns : Groups → (d : ℕ) → Further → Columns
group_columns g d f = beside (where_asked g.moments (moment_columns d f.moments f.ellipses))
    (where_asked g.thickness (thickness_columns (tells_distances g d) f.thicknesses))

-- those of flat objects with these areas and borders, with or without lengths
abbrev pub flat_columns : Groups → (told : Bool) → List ℕ → List Bounds → Further → Columns
flat_columns g told areas bounds f =
    beside (border_columns told bounds) (beside (feret_columns false f.ferets) (beside (minkowski_columns false f.minkowski)
    (beside (hull_columns f.hulls) (beside (ratio_columns told areas f.hulls bounds) (group_columns g 2 f)))))

-- those of objects of space with so many voxels
abbrev pub solid_columns : Groups → List ℕ → Further → Columns
solid_columns g areas f = beside (space_columns g.spacing areas f.minkowski) (beside (feret_columns true f.ferets) (group_columns g 3 f))

-- those of a table of a report with this number, of the objects with these labels and areas
abbrev pub further_columns : Groups → (d number : ℕ) (sides labels : List ℕ) → List Border → List ℕ → Further → Columns
further_columns g d number sides labels borders areas f =
    if d == 2 then flat_columns g (tells_lengths number) areas (object_bounds sides labels (greatest labels) borders) f else solid_columns g areas f
