-- What is known of the points of a box: one fact for each, in raster order, and the facts of each object.
-- A further column of the table may want one more field here; nothing here measures.
use Rattle.std.specs.Prelude.{not, ℕ, ◌+◌, ◌==◌, ◌||◌, Bool, Option, Some, None, if◌then◌else◌, List, map, length, slice_index, nat_abs, filter, count_by}
use Rattle.std.specs.List.{range_with_len, list_any}
use Rattle.shape_terms.specs.Points.{Point, coordinate, box_count, raster_point}
use Rattle.shape_terms.specs.Pictures.{Picture, at}
use Rattle.shape_terms.specs.Adjacency.{near_points, side_points}

-- a point of the box, with what is known of it
pub record Fact : Type 0 where
  -- the number of the object that it belongs to, and 0 for a point of the background
  pub part : ℕ
  pub point : Point
  -- its squared distance to the background
  pub square : ℕ
  -- where the thinning left the point: how many of its near neighbours are left as well
  pub left : Option ℕ
  -- how many of its side neighbours are not object
  pub exposed : ℕ
  -- whether it lies at the border of the box
  pub rim : Bool

-- a coordinate is the first or the last one of a side
abbrev pub at_end : ℕ → ℕ → Bool
at_end side x = x == 0 || x + 1 == side

-- a point of the box lies at its border: on some axis its coordinate is the first or the last one
abbrev pub at_rim : List ℕ → Point → Bool
at_rim sides p = list_any (λ k. at_end (slice_index sides k) (nat_abs (coordinate p k))) (range_with_len 0 (length sides))

-- how many of a point's side neighbours are not object
abbrev pub exposed : Picture → Point → ℕ
exposed X p = count_by (λ q. not (at X q)) (side_points p)

-- how many of a point's near neighbours are object
abbrev pub near_count : Picture → Point → ℕ
near_count X p = count_by (at X) (near_points p)

-- of a point of the picture: how many of its near neighbours are object
abbrev pub neighbours : Picture → Point → Option ℕ
neighbours X p = if at X p then Some (near_count X p) else None

-- what the picture, the squared distances and the labels of the points in raster order, and the picture of the points left, tell of a point
abbrev pub fact_of : (object : Picture) (squares : List ℕ) (left : Picture) (labels : List ℕ) (i : ℕ) → Point → Fact
fact_of object squares left labels i p = record {
  part = slice_index labels i;
  point = p;
  square = slice_index squares i;
  left = neighbours left p;
  exposed = exposed object p;
  rim = at_rim left.sides p;
}

-- the fact of the point with a raster number
abbrev pub fact_at : (object : Picture) (squares : List ℕ) (left : Picture) (labels : List ℕ) → ℕ → Fact
fact_at object squares left labels i = fact_of object squares left labels i (raster_point left.sides i)

-- the facts of the points with raster numbers below n
abbrev pub facts_below : (object : Picture) (squares : List ℕ) (left : Picture) (labels : List ℕ) → ℕ → List Fact
facts_below object squares left labels n = map (fact_at object squares left labels) (range_with_len 0 n)

-- the facts of all points of the box
abbrev pub facts : (object : Picture) (squares : List ℕ) (left : Picture) (labels : List ℕ) → List Fact
facts object squares left labels = facts_below object squares left labels (box_count left.sides)

-- the facts of one object
abbrev pub facts_of : ℕ → List Fact → List Fact
facts_of k fs = filter (λ f. f.part == k) fs
