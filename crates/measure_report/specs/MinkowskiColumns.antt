-- The columns of what Minkowski measures are made of: the Euler number of an object, and in space its surface by Crofton's formula.
-- The surface is spelled in sides of a voxel, with three digits behind the point; where a spacing is asked for in its unit, and then the volume stands behind
-- it.
use Rattle.std.specs.Prelude.{if◌then◌else◌, ℕ, Bool, true, List, [], ◌++◌, codes, pos, slice_index, slice_index_or, Option, Some, None}
use Rattle.measure_terms.specs.Minkowski.{Minkowski}
use Rattle.measure_terms.specs.Surface.{surface}
use Rattle.measure_terms.specs.Spacing.{Spacing}
use Rattle.measure_terms.specs.SpacedSurface.{volume, spaced_surface}
use Rattle.measure_terms.specs.Texts.{Columns, whole, signed, thousandths}
use Rattle.measuring.specs.Spaced.{spacing_told}
use Rattle.measuring.specs.declared.spacing.Spacing as Program

-- the cells of an object
abbrev pub minkowski_cells : (has_surface : Bool) → Minkowski → List ℕ
minkowski_cells has_surface m = signed m.euler ++ (if has_surface then thousandths (surface m) else [])

-- the numbers of no object, for a row without one
abbrev pub no_minkowski : Minkowski
no_minkowski = record { euler = pos 0; x = 0; y = 0; z = 0; xy = 0; xz = 0; yz = 0; xyz = 0 }

-- the names
abbrev pub minkowski_names : (has_surface : Bool) → List ℕ
minkowski_names has_surface = if has_surface then codes ",euler,surface" else codes ",euler"

-- ---- where voxels are not cubes

-- the cells of an object of so many voxels, by a spacing
abbrev pub spaced_cells : Spacing → ℕ → Minkowski → List ℕ
spaced_cells s n m = signed m.euler ++ (thousandths (spaced_surface s m) ++ whole (volume s n))

-- the columns of objects with so many voxels and these numbers
abbrev pub spaced_columns : Spacing → List ℕ → List Minkowski → Columns
spaced_columns s areas ms =
    record { names = codes ",euler,surface,volume"; cells = λ i. spaced_cells s (slice_index areas i) (slice_index_or ms i no_minkowski) }

-- ---- cubes

-- the columns of objects with these numbers
abbrev pub minkowski_columns : (has_surface : Bool) → List Minkowski → Columns
minkowski_columns has_surface ms = record { names = minkowski_names has_surface; cells = λ i. minkowski_cells has_surface (slice_index_or ms i no_minkowski) }

-- those of objects of space, by a spacing where there is one
abbrev pub space_columns : Option Program.Spacing → List ℕ → List Minkowski → Columns
space_columns None areas ms = minkowski_columns true ms
space_columns (Some s) areas ms = spaced_columns (spacing_told s) areas ms
