-- Cracks of flat pictures, the cycles in which they follow each other, and the points of these.
-- A crack is a pixel and a side here; none of the definitions may name a type of the program.
use Rattle.std.specs.Prelude.{◌≡◌, ◌≢◌, ◌⊎◌, ℕ, zero, suc, ◌+◌, ◌<◌, ◌%◌, ◌==◌, Bool, false, ◌&&◌, not, if◌then◌else◌, List, [], ◌∷◌, map, length}
use Rattle.std.specs.Prelude.{slice_index_or, pos, negsuc, IsTrue, All, AllPairs, Contains, ◌↔◌, flat_map, filter}
use Rattle.shape_terms.specs.Points.{Point}
use Rattle.shape_terms.specs.Adjacency.{moved}
use Rattle.shape_terms.specs.Steps.{Before}
use Rattle.shape_terms.specs.Pictures.{Picture, at}

-- an object pixel and one of its sides, 0 to 3: up, right, down, left
pub record Crack : Type 0 where
  pub pixel : Point
  pub side : ℕ

-- the step over a side
abbrev pub normal : ℕ → Point
normal zero = pos 0 ∷ negsuc 0 ∷ []
normal (suc zero) = pos 1 ∷ pos 0 ∷ []
normal (suc (suc zero)) = pos 0 ∷ pos 1 ∷ []
normal (suc (suc (suc s))) = negsuc 0 ∷ pos 0 ∷ []

-- the direction in which a side is passed, with the object on the right
abbrev pub forward : ℕ → Point
forward s = normal ((s + 1) % 4)

-- the pixel is object, and its neighbour over the side is background
pub record IsCrack (X : Picture) (c : Crack) : Type 0 where
  pub side : c.side < 4
  pub pixel : IsTrue (at X c.pixel)
  pub neighbour : at X (moved c.pixel (normal c.side)) ≡ false

-- the pixel ahead, and the one ahead over the side
abbrev pub ahead : Crack → Point
ahead c = moved c.pixel (forward c.side)

abbrev pub across : Crack → Point
across c = moved (moved c.pixel (normal c.side)) (forward c.side)

-- the crack that follows along the edge of the object
abbrev pub successor : Picture → Crack → Crack
successor X c = if at X (across c) then record { pixel = across c; side = (c.side + 3) % 4 }
    else (if at X (ahead c) then record { pixel = ahead c; side = c.side }
    else record { pixel = c.pixel; side = (c.side + 1) % 4 })

-- cracks are ordered by the raster of their pixels, then by their sides
abbrev pub CrackBefore : Crack → Crack → Type 0
CrackBefore c d = Before c.pixel d.pixel ⊎ ((c.pixel ≡ d.pixel) × (c.side < d.side))

-- each crack of the list is followed by its successor, and the last by the crack `first`
abbrev pub Follow : Picture → Crack → List Crack → Type 0
Follow X first [] = ⊥
Follow X first (c ∷ []) = successor X c ≡ first
Follow X first (c ∷ d ∷ cracks) = (successor X c ≡ d) × Follow X first (d ∷ cracks)

-- a list of distinct cracks, each the successor of the one before it and the first that of the last
abbrev pub IsCycle : Picture → List Crack → Type 0
IsCycle X [] = ⊥
IsCycle X (c ∷ cracks) = AllPairs (λ x y. x ≢ y) (c ∷ cracks) × Follow X c (c ∷ cracks)

-- the list begins with its least
abbrev pub BeginsLeast : List Crack → Type 0
BeginsLeast [] = ⊥
BeginsLeast (c ∷ cracks) = All (CrackBefore c) cracks

-- the first of a list of cracks
abbrev pub first_of_cycle : List Crack → Crack
first_of_cycle cracks = slice_index_or cracks 0 (record { pixel = []; side = 0 })

-- the cycles of the picture: each crack of it stands in exactly one, each begins with its least crack, and the first cracks rise
pub record AreCycles (X : Picture) (cycles : List (List Crack)) : Type 0 where
  pub cycle : All (IsCycle X) cycles
  pub least : All BeginsLeast cycles
  pub once : AllPairs (λ x y. x ≢ y) (flat_map (λ c. c) cycles)
  pub each : (c : Crack) → IsCrack X c ↔ Contains (flat_map (λ x. x) cycles) c
  pub rising : AllPairs (λ x y. CrackBefore (first_of_cycle x) (first_of_cycle y)) cycles

-- the successor is a crack of the same pixel
abbrev pub stays : Picture → Crack → Bool
stays X c = not (at X (across c)) && not (at X (ahead c))

-- the pixels of the cracks whose successor has another pixel, in order
abbrev pub left_pixels : Picture → List Crack → List Point
left_pixels X cracks = map (λ c. c.pixel) (filter (λ c. not (stays X c)) cracks)

-- the points of a contour: those pixels, or the one pixel where there is none
abbrev pub contour_points : Picture → List Crack → List Point
contour_points X cracks = if (length (left_pixels X cracks) == 0) then ((first_of_cycle cracks).pixel ∷ []) else left_pixels X cracks
