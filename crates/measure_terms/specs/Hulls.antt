-- The convex hull of the corners of an object of the plane, as the list of its vertices, one round.
-- Sets, turns and lists alone; how it is found stands elsewhere.
use Rattle.std.specs.Prelude.{◌≡◌, ◌⊎◌, ℕ, ◌+◌, ◌<◌, ◌≤◌, nat_eq, List, [], ◌∷◌, length, slice_index_or, cond, ℤ, pos, ◌+ℤ◌, ◌-ℤ◌, ◌*ℤ◌, ◌≤ℤ◌, ◌<ℤ◌}
use Rattle.shape_terms.specs.Points.{Point}

-- ---- corners

-- a corner of the pixels of the plane, by the lines of the grid that cross there: (x, y) stands for the point (x - 1/2, y - 1/2)
pub record Corner : Type 0 where
  pub x : ℤ
  pub y : ℤ

-- the corner is one of the four of the pixel (x, y)
pub record IsCornerOfPixel (x y : ℤ) (c : Corner) : Type 0 where
  pub column : (c.x ≡ x) ⊎ (c.x ≡ x +ℤ pos 1)
  pub row : (c.y ≡ y) ⊎ (c.y ≡ y +ℤ pos 1)

-- the corner is one of a pixel of the set
pub record IsCornerOf (S : Point → Type 0) (c : Corner) : Type 0 where
  pub x : ℤ
  pub y : ℤ
  pub pixel : S (x ∷ y ∷ [])
  pub corner : IsCornerOfPixel x y c

-- p comes before q in raster order, or is the same
pub record IsUpTo (p q : Corner) : Type 0 where
  pub row : p.y ≤ℤ q.y
  pub column : p.y ≡ q.y → p.x ≤ℤ q.x

-- p comes before q in raster order
pub record IsBefore (p q : Corner) : Type 0 where
  pub row : p.y ≤ℤ q.y
  pub column : p.y ≡ q.y → p.x <ℤ q.x

-- ---- turns

-- twice the area of the triangle of three corners: above 0 where the third lies left of the way from the first to the second
abbrev pub turn : Corner → Corner → Corner → ℤ
turn a b c = (b.x -ℤ a.x) *ℤ (c.y -ℤ a.y) -ℤ (b.y -ℤ a.y) *ℤ (c.x -ℤ a.x)

-- ---- rounds

abbrev pub origin : Corner
origin = record { x = pos 0; y = pos 0 }

-- the vertex with a place
abbrev pub vertex : List Corner → ℕ → Corner
vertex h i = slice_index_or h i origin

-- the place behind a place of a round of n, whose first place comes behind the last
abbrev pub next : (n i : ℕ) → ℕ
next n i = cond (nat_eq (i + 1) n) 0 (i + 1)

-- the vertex behind the one with a place: where the side that begins there ends
abbrev pub end : List Corner → ℕ → Corner
end h i = vertex h (next (length h) i)

-- a round goes once: up in raster order to the place `far`, and down from it to its begin
pub record GoesOnce (h : List Corner) (far : ℕ) : Type 0 where
  pub within : far < length h
  pub up : (i : ℕ) → i < far → IsBefore (vertex h i) (vertex h (i + 1))
  pub down : (i : ℕ) → far ≤ i → i < length h → 2 ≤ length h → IsBefore (end h i) (vertex h i)

-- the vertices of the convex hull of a set, from its first corner in raster order on, one round: all of the set lies left of each side or on it, and the round
-- turns left at each
-- vertex. Where there are fewer than three, the set lies on a line from its first to its last corner
pub record IsHull (S : Corner → Type 0) (h : List Corner) : Type 0 where
  pub of : (i : ℕ) → i < length h → S (vertex h i)
  pub left : (i : ℕ) (p : Corner) → i < length h → S p → pos 0 ≤ℤ turn (vertex h i) (end h i) p
  pub turns : (i : ℕ) → i < length h → 3 ≤ length h → pos 0 <ℤ turn (vertex h i) (end h i) (end h (next (length h) i))
  pub far : ℕ
  pub once : GoesOnce h far
  pub first : (p : Corner) → S p → IsUpTo (vertex h 0) p
  pub last : (p : Corner) → S p → IsUpTo p (vertex h far)
