-- The holes of a component of the object: the bounded components of its complement in the plane; and the contours that bound them.
-- In the framed box they are the components of the complement that do not hold the corner of the frame.
use Rattle.std.specs.Prelude.{ℕ, ◌≤◌, ◌==◌, Bool, List, [], ◌∷◌, negsuc, nat_abs, filter}
use Rattle.shape_terms.specs.Points.{Point, IsPoint, coordinate}
use Rattle.shape_terms.specs.Adjacency.{Side}
use Rattle.shape_terms.specs.Contours.{Crack, first_of_cycle}
use Rattle.shape_terms.specs.Parts.{Connected}
use Rattle.measure_terms.specs.ComponentContours.{Complement, contours_of}

-- ---- holes

-- the component of p in the complement of K in the plane is bounded: one number bounds all coordinates of the points to which paths over sides lead from p
abbrev pub IsBounded : (K : Point → Bool) → Point → Type 0
IsBounded K p = (n : ℕ) × ((q : Point) → Connected Side (Complement (IsPoint 2) K) p q → (k : ℕ) → nat_abs (coordinate q k) ≤ n)

-- the point lies in a hole of K: in a bounded component of the complement of K in the plane
abbrev pub InHole : (K : Point → Bool) → Point → Type 0
InHole K p = Complement (IsPoint 2) K p × IsBounded K p

-- ---- the same in any set of points that has the corner of the frame

-- the corner of the frame, which lies in no box
abbrev pub corner : Point
corner = negsuc 0 ∷ negsuc 0 ∷ []

-- K encloses the point in the set F: the point lies in the complement of K in F, and no path over sides leads there from it to the corner of the frame
abbrev pub Enclosed : (F : Point → Type 0) → (K : Point → Bool) → Point → Type 0
Enclosed F K p = Complement F K p × (Connected Side (Complement F K) p corner → ⊥)

-- ---- inner contours

-- the contour begins with the lower side of a pixel
abbrev pub begins_low : List Crack → Bool
begins_low xs = (first_of_cycle xs).side == 2

-- the inner contours of K: those that begin so
abbrev pub inner_contours : (K : Point → Bool) → (cycles : List (List Crack)) → List (List Crack)
inner_contours K cycles = filter begins_low (contours_of K cycles)
