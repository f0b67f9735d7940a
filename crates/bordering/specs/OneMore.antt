-- What one border more changes of what the borders of objects add up to.
-- That all borders in turn give the sums of the definitions is a law.
use Rattle.std.specs.Prelude.{◌≡◌, ℕ, ◌+◌, ◌^◌, ◌<◌, ◌≤◌, ◌==◌, List, length, slice_index_or, if◌then◌else◌}
use Rattle.measure_terms.specs.Borders.{Border}
use Rattle.bordering.specs.declared.border.Border as Contours
use Rattle.bordering.specs.declared.objects.Bounds as Kept
use Rattle.bordering.specs.Told.{border_told, bounds_told}
use Rattle.measure_terms.specs.Objects.{Bounds, is_outer, is_hole, outer_length, hole_length}

-- no border
abbrev pub no_bounds : Bounds
no_bounds = record { border = 0; hole_border = 0; holes = 0 }

-- one border more
abbrev pub bounds_with : Bounds → Border → Bounds
bounds_with t b = record {
  border = t.border + (if is_outer b then outer_length b else 0);
  hole_border = t.hole_border + (if is_hole b then hole_length b else 0);
  holes = t.holes + (if is_hole b then 1 else 0);
}

-- of what the program keeps of an object, the second has one border more than the first
abbrev pub HasBorderMore : Kept.Bounds → Contours.Border → Kept.Bounds → Type 0
HasBorderMore old b new = bounds_told new ≡ bounds_with (bounds_told old) (border_told b)

-- there is room for a border more: fewer than 2^58 borders were put, each no longer than 2^99 and half a pixel once round
pub record HasRoom (t : Bounds) : Type 0 where
  pub border : t.border + 2 ^ 99 + 2 ^ 42 ≤ 2 ^ 157 + 2 ^ 101
  pub hole_border : t.hole_border + 2 ^ 99 + 2 ^ 42 ≤ 2 ^ 157 + 2 ^ 101
  pub holes : t.holes < 2 ^ 58

-- and for each object
abbrev pub HaveRoom : List Bounds → Type 0
HaveRoom ts = (i : ℕ) → i < length ts → HasRoom (slice_index_or ts i no_bounds)

-- of the objects from 1 on, the one with the label has one border more
pub record HasOneMore (label : ℕ) (b : Border) (old new : List Bounds) : Type 0 where
  pub all : length new ≡ length old
  pub each : (i : ℕ) → i < length old → slice_index_or new i no_bounds
      ≡ (if label == i + 1 then bounds_with (slice_index_or old i no_bounds) b else slice_index_or old i no_bounds)
