-- The digital Jordan theorem: the contours of a component of the object bound the components of its complement, one each.
-- The complement is taken in a set F of points, as the plane or the framed box, and its components are those by sides.
use Rattle.std.specs.Prelude.{◌≡◌, ◌⊎◌, ◌↔◌, ◌+◌, Bool, List, length, IsTrue, Contains, flat_map}
use Rattle.shape_terms.specs.Points.{Point}
use Rattle.shape_terms.specs.Adjacency.{Side}
use Rattle.shape_terms.specs.Pictures.{Picture}
use Rattle.shape_terms.specs.Contours.{Crack, IsCrack, first_of_cycle}
use Rattle.shape_terms.specs.Parts.{HasParts}
use Rattle.measure_terms.specs.ComponentContours.{Complement, contours_of, BoundComponents}
use Rattle.measure_terms.specs.Holes.{Enclosed, inner_contours}

-- what holds of the contours of a component K of the object of the picture X with these cycles of cracks
pub record Jordan (X : Picture) (F : Point → Type 0) (K : Point → Bool) (cycles : List (List Crack)) : Type 0 where
  -- on its contours stand all cracks of its pixels, and no others
  pub cracks : (c : Crack) → (IsCrack X c × IsTrue (K c.pixel)) ↔ Contains (flat_map (λ xs. xs) (contours_of K cycles)) c
  -- they bound the components of its complement, one each, and are as many
  pub contours : BoundComponents (contours_of K cycles) (Complement F K)
  pub count : HasParts Side (Complement F K) (length (contours_of K cycles))
  -- each of them begins with the upper or with the lower side of a pixel
  pub level : (xs : List Crack) → Contains (contours_of K cycles) xs → ((first_of_cycle xs).side ≡ 0) ⊎ ((first_of_cycle xs).side ≡ 2)
  -- those that begin with a lower side bound the components that it encloses, one each, and are as many
  pub holes : BoundComponents (inner_contours K cycles) (Enclosed F K)
  pub hole_count : HasParts Side (Enclosed F K) (length (inner_contours K cycles))
  -- and one contour more, the outer one, begins with an upper side
  pub outer : length (contours_of K cycles) ≡ 1 + length (inner_contours K cycles)
