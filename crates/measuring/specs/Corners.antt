-- Lists of corners as the program keeps them, and the sets that they stand for.
-- A point of the plane stands for the corner with its coordinates.
use Rattle.std.specs.Prelude.{◌≡◌, ◌⊎◌, ℕ, ◌+◌, ◌<◌, ◌≤◌, ◌^◌, List, map, length, pos, ◌≤ℤ◌, unsigned_abs}
use Rattle.shape_space.specs.declared.point.P2.{P2}
use Rattle.measure_terms.specs.Hulls.{Corner, IsUpTo, IsHull, vertex}
use Rattle.measuring.specs.declared.object_row.Row.{Row}
use Rattle.measuring.specs.Rows.{row_at}

-- ---- lists

abbrev pub corner : P2 → Corner
corner p = record { x = p.x; y = p.y }

abbrev pub corners : List P2 → List Corner
corners points = map corner points

-- the corner is one of the first n of the list
pub record IsAmong (points : List Corner) (n : ℕ) (p : Corner) : Type 0 where
  pub place : ℕ
  pub within : place < n
  pub is : vertex points place ≡ p

-- the corner is one of the list
abbrev pub IsOf : List Corner → Corner → Type 0
IsOf points p = IsAmong points (length points) p

-- each corner comes no later than those behind it
pub record AreInRasterOrder (points : List Corner) : Type 0 where
  pub order : (i k : ℕ) → i < k → k < length points → IsUpTo (vertex points i) (vertex points k)

-- no coordinate is greater than the side of any box
pub record IsShort (p : Corner) : Type 0 where
  pub x : unsigned_abs p.x ≤ 2 ^ 16
  pub y : unsigned_abs p.y ≤ 2 ^ 16

pub record AreShort (h : List Corner) : Type 0 where
  pub each : (k : ℕ) → k < length h → IsShort (vertex h k)

-- the list is the hull of its own corners
abbrev pub IsConvex : List Corner → Type 0
IsConvex h = IsHull (IsOf h) h

-- ---- sets that bound others in each line

-- the corner lies in a line between two of a set
pub record IsBetween (T : Corner → Type 0) (p : Corner) : Type 0 where
  pub left : Corner
  pub right : Corner
  pub left_in : T left
  pub right_in : T right
  pub left_row : left.y ≡ p.y
  pub right_row : right.y ≡ p.y
  pub behind : left.x ≤ℤ p.x
  pub before : p.x ≤ℤ right.x

-- T is a part of S, and each corner of S lies in its line between two of T
pub record AreEndsOf (S T : Corner → Type 0) : Type 0 where
  pub of : (p : Corner) → T p → S p
  pub hold : (p : Corner) → S p → IsBetween T p

-- ---- rows

-- the corner is one of the four outermost of a row
pub record IsCornerOfRow (r : Row) (p : Corner) : Type 0 where
  pub row : (p.y ≡ pos r.y) ⊎ (p.y ≡ pos (r.y + 1))
  pub column : (p.x ≡ pos r.left) ⊎ (p.x ≡ pos (r.right + 1))

-- the corner is one of the four outermost of one of the first n rows
pub record IsCornerOfRows (rows : List Row) (n : ℕ) (p : Corner) : Type 0 where
  pub place : ℕ
  pub within : place < n
  pub corner : IsCornerOfRow (row_at rows place) p
