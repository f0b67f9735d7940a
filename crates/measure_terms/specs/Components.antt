-- The measures of a component as those of a set of points, which its points in raster order list.
-- Sets, bounds and sums alone; no fact of a point is spoken of here.
use Rattle.std.specs.Prelude.{◌≡◌, ℕ, ◌+◌, ◌<◌, ◌≤◌, ◌==◌, ◌&&◌, nat_le, List, length, slice_index, slice_index_or, nat_abs, filter, count_by, sum_by}
use Rattle.std.specs.List.{Contains, list_any, find}
use Rattle.shape_terms.specs.Points.{Point, coordinate, raster_number}
use Rattle.shape_terms.specs.Pictures.{Picture, at, object_points}
use Rattle.shape_terms.specs.Parts.{Object, NamesParts, LabelsObject}
use Rattle.shape_terms.specs.Adjacency.{Near}
use Rattle.measure_terms.specs.Facts.{near_count, exposed, at_rim}
use Rattle.measure_terms.specs.Measures.{Span, Measures}
use Rattle.measure_terms.specs.Feret.{Feret, IsFeret}

-- the points of the component with a number, in raster order
abbrev pub component : Picture → List ℕ → ℕ → List Point
component X labels k = filter (λ p. slice_index labels (raster_number X.sides p) == k) (object_points X)

-- n is the least value of f on the points
pub record IsLeastOf (f : Point → ℕ) (ps : List Point) (n : ℕ) : Type 0 where
  pub bound : (p : Point) → Contains ps p → n ≤ f p
  pub reached : (p : Point) × Contains ps p × (f p ≡ n)

-- n is the greatest value of f on the points
pub record IsGreatestOf (f : Point → ℕ) (ps : List Point) (n : ℕ) : Type 0 where
  pub bound : (p : Point) → Contains ps p → f p ≤ n
  pub reached : (p : Point) × Contains ps p × (f p ≡ n)

-- where the points lie along the axis k
pub record IsSpanOf (k : ℕ) (ps : List Point) (s : Span) : Type 0 where
  pub least : IsLeastOf (λ p. nat_abs (coordinate p k)) ps s.least
  pub greatest : IsGreatestOf (λ p. nat_abs (coordinate p k)) ps s.greatest
  pub sum : s.sum ≡ sum_by (λ p. nat_abs (coordinate p k)) ps

-- the measures of these points of the object of a picture, where `square` gives the squared distance of each, and `left` is the picture of the points left
pub record AreMeasuresOf (object : Picture) (square : Point → ℕ) (left : Picture) (ps : List Point) (m : Measures) : Type 0 where
  pub area : m.area ≡ length ps
  pub x : IsSpanOf 0 ps m.x
  pub y : IsSpanOf 1 ps m.y
  pub z : IsSpanOf 2 ps m.z
  pub depth : IsGreatestOf square ps m.depth
  pub deepest : m.deepest ≡ find (λ p. square p == m.depth) ps
  pub skeleton : m.skeleton ≡ count_by (at left) ps
  pub ends : m.ends ≡ count_by (λ p. at left p && near_count left p == 1) ps
  pub junctions : m.junctions ≡ count_by (λ p. at left p && nat_le 3 (near_count left p)) ps
  pub exposed : m.exposed ≡ sum_by (exposed object) ps
  pub touches : m.touches ≡ list_any (at_rim left.sides) ps

-- a row for each component of the object, in the order of their first points, and each row has the measures of its component
pub record MeasuresComponents (X : Picture) (squares : List ℕ) (left : Picture) (table : List Measures) : Type 0 where
  pub labels : List ℕ
  pub named : LabelsObject X labels
  pub all : NamesParts Near (Object X) (length table) (λ p. slice_index labels (raster_number X.sides p))
  pub each : (k : ℕ) (d : Measures) → k < length table
      → AreMeasuresOf X (λ p. slice_index squares (raster_number X.sides p)) left (component X labels (k + 1)) (slice_index_or table k d)

-- the first n components, by their labels, have these Feret diameters, where `square` gives squared distances
pub record FeretsComponents (square : Point → Point → ℕ) (X : Picture) (labels : List ℕ) (n : ℕ) (ferets : List Feret) : Type 0 where
  pub each : (k : ℕ) (d : Feret) → k < n → IsFeret square X.sides (Contains (component X labels (k + 1))) (slice_index_or ferets k d)
