-- What the number of holes that a table tells of an object is in geometry: the number of holes of a component of the picture's object.
-- Where borders begin counts here, and nothing of how long they are; no line stands here.
use Rattle.std.specs.Prelude.{◌≡◌, ℕ, ◌+◌, ◌==◌, Bool, List, length, filter, count_by}
use Rattle.shape_terms.specs.Points.{Point}
use Rattle.shape_terms.specs.Pictures.{Picture}
use Rattle.shape_terms.specs.Adjacency.{Side}
use Rattle.shape_terms.specs.Parts.{HasParts}
use Rattle.measure_terms.specs.ComponentContours.{IsComponent}
use Rattle.measure_terms.specs.Holes.{InHole}
use Rattle.measure_terms.specs.Borders.{Border}
use Rattle.measure_terms.specs.Objects.{label_at, is_of, is_outer, bounds_of}

-- whether a point has the label k
abbrev pub has_label : (sides labels : List ℕ) (k : ℕ) → Point → Bool
has_label sides labels k p = label_at sides labels p == k

-- the borders that begin at a point with the label k
abbrev pub borders_from : (sides labels : List ℕ) (k : ℕ) → List Border → List Border
borders_from sides labels k bs = filter (is_of sides labels k) bs

-- what the number of borders of holes that begin at points with the label k is in geometry, where X has these labels and these borders
pub record HolesShow (X : Picture) (labels : List ℕ) (k : ℕ) (bs : List Border) : Type 0 where
  -- the points with the label are a component of the object
  pub component : IsComponent X (has_label X.sides labels k)
  -- exactly one border that begins in it is outer
  pub outer : count_by is_outer (borders_from X.sides labels k bs) ≡ 1
  -- all others are borders of holes
  pub others : length (borders_from X.sides labels k bs) ≡ 1 + (bounds_of (borders_from X.sides labels k bs)).holes
  -- and these are as many as the component has holes, which are components by sides
  pub holes : HasParts Side (InHole (has_label X.sides labels k)) (bounds_of (borders_from X.sides labels k bs)).holes
