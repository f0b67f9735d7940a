-- The measures of one object, each off the list of the facts of its points.
-- A further measure is one more field of `Measures`, and one more definition.
use Rattle.std.specs.Prelude.{ℕ, ◌==◌, nat_le, min, max, Bool, false, Option, Some, None, List, [], ◌∷◌, map, length, nat_abs, count_by, sum, sum_by}
use Rattle.std.specs.List.{fold, find, list_any}
use Rattle.std.specs.Option.{option_map, is_some}
use Rattle.shape_terms.specs.Points.{Point, coordinate}
use Rattle.measure_terms.specs.Facts.{Fact}

-- ---- numbers in a list

-- the least one, and 0 where there is none
abbrev pub least : List ℕ → ℕ
least [] = 0
least (x ∷ xs) = fold min x xs

-- the greatest one, and 0 where there is none
abbrev pub greatest : List ℕ → ℕ
greatest [] = 0
greatest (x ∷ xs) = max x (greatest xs)

-- ---- measures

-- where an object lies along one axis: its least and its greatest coordinate, and the sum of the coordinates of its points
pub record Span : Type 0 where
  pub least : ℕ
  pub greatest : ℕ
  pub sum : ℕ

-- the coordinates of the points on an axis, and 0 on an axis that the space does not have
abbrev pub coordinates : ℕ → List Fact → List ℕ
coordinates k fs = map (λ f. nat_abs (coordinate f.point k)) fs

abbrev pub span : ℕ → List Fact → Span
span k fs = record { least = least (coordinates k fs); greatest = greatest (coordinates k fs); sum = sum (coordinates k fs) }

-- the greatest squared distance to the background
abbrev pub depth : List Fact → ℕ
depth fs = greatest (map (λ f. f.square) fs)

-- the first point with the greatest squared distance to the background
abbrev pub deepest : List Fact → Option Point
deepest fs = option_map (λ f. f.point) (find (λ f. f.square == depth fs) fs)

-- the point is left
abbrev pub is_left : Fact → Bool
is_left f = is_some f.left

-- the point is left, and one near neighbour of it
abbrev pub is_end : Option ℕ → Bool
is_end None = false
is_end (Some n) = n == 1

-- the point is left, and three or more near neighbours of it
abbrev pub is_junction : Option ℕ → Bool
is_junction None = false
is_junction (Some n) = nat_le 3 n

-- the measures of an object
pub record Measures : Type 0 where
  -- how many points it has
  pub area : ℕ
  -- where it lies along each axis
  pub x : Span
  pub y : Span
  pub z : Span
  pub depth : ℕ
  pub deepest : Option Point
  -- how many points are left, how many of these are ends, and how many are junctions
  pub skeleton : ℕ
  pub ends : ℕ
  pub junctions : ℕ
  -- how many sides of its points are exposed: the side neighbours there are not object
  pub exposed : ℕ
  -- whether it reaches the border of the box
  pub touches : Bool

abbrev pub measures_of : List Fact → Measures
measures_of fs = record {
  area = length fs;
  x = span 0 fs;
  y = span 1 fs;
  z = span 2 fs;
  depth = depth fs;
  deepest = deepest fs;
  skeleton = count_by is_left fs;
  ends = count_by (λ f. is_end f.left) fs;
  junctions = count_by (λ f. is_junction f.left) fs;
  exposed = sum_by (λ f. f.exposed) fs;
  touches = list_any (λ f. f.rim) fs;
}
