-- A component of the object of a flat picture, its contours, its complement, and what it is that contours bound the components of a set.
-- The component is given by its truth value at each point; none of the definitions may name a type of the program.
use Rattle.std.specs.Prelude.{◌≡◌, Bool, false, List, IsTrue, Contains, filter}
use Rattle.shape_terms.specs.Points.{Point}
use Rattle.shape_terms.specs.Adjacency.{Near, Side, moved}
use Rattle.shape_terms.specs.Pictures.{Picture}
use Rattle.shape_terms.specs.Contours.{Crack, normal, first_of_cycle}
use Rattle.shape_terms.specs.Parts.{Connected, Object}

-- K is a component of the object: some of its points, with each of them all object points near it, and any two of them connected in the object
pub record IsComponent (X : Picture) (K : Point → Bool) : Type 0 where
  pub some : (p : Point) × IsTrue (K p)
  pub object : (p : Point) → IsTrue (K p) → Object X p
  pub whole : (p q : Point) → IsTrue (K p) → Object X q → Near p q → IsTrue (K q)
  pub joined : (p q : Point) → IsTrue (K p) → IsTrue (K q) → Connected Near (Object X) p q

-- the complement of K in the set F of points
abbrev pub Complement : (F : Point → Type 0) → (K : Point → Bool) → Point → Type 0
Complement F K p = F p × (K p ≡ false)

-- the contours of K: the cycles of cracks that begin at a pixel of K
abbrev pub contours_of : (K : Point → Bool) → (cycles : List (List Crack)) → List (List Crack)
contours_of K cycles = filter (λ xs. K (first_of_cycle xs).pixel) cycles

-- the pixel over a crack: the neighbour of its pixel over its side
abbrev pub over : Crack → Point
over c = moved c.pixel (normal c.side)

-- these contours bound the components of the set Y by sides, one each
pub record BoundComponents (contours : List (List Crack)) (Y : Point → Type 0) : Type 0 where
  -- the pixels over the cracks of one contour lie in one component
  pub along : (xs : List Crack) → Contains contours xs
      → (c d : Crack) → Contains xs c → Contains xs d → Connected Side Y (over c) (over d)
  -- those over the cracks of two contours lie in two
  pub apart : (xs ys : List Crack) → Contains contours xs → Contains contours ys
      → (c d : Crack) → Contains xs c → Contains ys d → Connected Side Y (over c) (over d) → xs ≡ ys
  -- and each component has such a pixel
  pub each : (q : Point) → Y q
      → (xs : List Crack) × Contains contours xs × ((c : Crack) × Contains xs c × Connected Side Y q (over c))
