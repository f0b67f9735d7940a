-- What is measured of the objects of a picture for the lines of a drawing: a list of each kind, with an entry for each object.
-- By labels and by components; how it is spelled stands in `MeasureLines`.
use Rattle.std.specs.Prelude.{ℕ, ◌<◌, ◌≤◌, List, [], ◌∷◌, pos, slice_index_or}
use Rattle.shape_terms.specs.Pictures.{Picture}
use Rattle.measure_terms.specs.Moments.{Moments, AreMoments, MomentsComponents}
use Rattle.measure_terms.specs.Ellipse.{IsEllipse}
use Rattle.measure_terms.specs.Feret.{Feret, AreFerets}
use Rattle.measure_terms.specs.Spacing.{spaced_distance, unit_spacing}
use Rattle.measure_terms.specs.HullSizes.{HullSize, AreHulls, HullsComponents}
use Rattle.measure_terms.specs.Components.{FeretsComponents}
use Rattle.measuring.specs.Turns.{IsTurn}
use Rattle.draw_report.specs.MeasureLines.{Axes, Shown}

-- ---- of each object an entry

pub record Measured : Type 0 where
  pub moments : List Moments
  pub axes : List Axes
  pub ferets : List Feret
  pub hulls : List HullSize

-- those of no object, for a place without one
abbrev pub no_moments : Moments
no_moments = record { count = 0; x = 0; y = 0; z = 0; xx = 0; xy = 0; yy = 0; xz = 0; yz = 0; zz = 0 }

abbrev pub no_axes : Axes
no_axes = record { ellipse = record { major = 0; minor = 0; double_x = pos 0; double_y = pos 0 }; turn = record { cosine = 0; sine = pos 0 } }

abbrev pub no_feret : Feret
no_feret = record { square = 0; from = pos 0 ∷ pos 0 ∷ []; to = pos 0 ∷ pos 0 ∷ [] }

abbrev pub no_hull : HullSize
no_hull = record { double_area = 0; perimeter = 0; across = 0; length = 0; min_feret = 0; dx = pos 0; dy = pos 0 }

-- what is drawn of the object with a place, from 0 on
abbrev pub shown_at : Measured → ℕ → Shown
shown_at m k = record {
  moments = slice_index_or m.moments k no_moments;
  axes = slice_index_or m.axes k no_axes;
  feret = slice_index_or m.ferets k no_feret;
  hull = slice_index_or m.hulls k no_hull;
}

-- ---- axes

-- the axes of an object with these moments
pub record AreAxesOf (m : Moments) (a : Axes) : Type 0 where
  pub ellipse : 1 ≤ m.count → IsEllipse m a.ellipse
  pub turn : IsTurn m a.turn

-- those of the first n objects
pub record AreAxes (n : ℕ) (ms : List Moments) (all : List Axes) : Type 0 where
  pub each : (k : ℕ) → k < n → AreAxesOf (slice_index_or ms k no_moments) (slice_index_or all k no_axes)

-- ---- by labels, and by components

-- of the objects 1 to n, each the points with its label
pub record AreMeasured (sides labels : List ℕ) (n : ℕ) (m : Measured) : Type 0 where
  pub moments : AreMoments sides labels n m.moments
  pub axes : AreAxes n m.moments m.axes
  pub ferets : AreFerets (spaced_distance unit_spacing) sides labels n m.ferets
  pub hulls : AreHulls sides labels n m.hulls

-- of the first n components of a picture, by their labels
pub record MeasuredComponents (X : Picture) (labels : List ℕ) (n : ℕ) (m : Measured) : Type 0 where
  pub moments : MomentsComponents X labels n m.moments
  pub axes : AreAxes n m.moments m.axes
  pub ferets : FeretsComponents (spaced_distance unit_spacing) X labels n m.ferets
  pub hulls : HullsComponents X labels n m.hulls
