-- The corners of an object line by line: from its rows, the outermost corners of each line of the grid.
-- Rows and corners alone.
use Rattle.std.specs.Prelude.{◌≡◌, ◌⊎◌, ℕ, zero, suc, ◌+◌, List, [], ◌∷◌, ◌++◌, length, ℤ, pos, negsuc, ◌≤ℤ◌}
use Rattle.measure_terms.specs.Hulls.{Corner}
use Rattle.measuring.specs.declared.object_row.Row.{Row}
use Rattle.measuring.specs.declared.line.Line.{Line}
use Rattle.measuring.specs.Rows.{row_at}
use Rattle.measuring.specs.Corners.{IsOf, AreInRasterOrder, AreShort, IsShort, IsBetween, IsCornerOfRows}

abbrev pub first : Line → Corner
first l = record { x = l.left; y = l.y }

abbrev pub last : Line → Corner
last l = record { x = l.right; y = l.y }

-- the line above a row, and the one below it
abbrev pub above : Row → Line
above r = record { y = pos r.y; left = pos r.left; right = pos (r.right + 1) }

abbrev pub below : Row → Line
below r = record { y = pos (r.y + 1); left = pos r.left; right = pos (r.right + 1) }

-- no coordinate of the line is greater than the side of any box
pub record IsShortLine (l : Line) : Type 0 where
  pub first : IsShort (first l)
  pub last : IsShort (last l)

-- the line reaches over two others
pub record IsJoined (a b l : Line) : Type 0 where
  pub row : l.y ≡ b.y
  pub left : l.left ≤ℤ a.left
  pub left_too : l.left ≤ℤ b.left
  pub right : a.right ≤ℤ l.right
  pub right_too : b.right ≤ℤ l.right
  pub begins : (l.left ≡ a.left) ⊎ (l.left ≡ b.left)
  pub ends : (l.right ≡ a.right) ⊎ (l.right ≡ b.right)

-- the corners with both ends of a line behind them
abbrev pub with_line : List Corner → Line → List Corner
with_line points l = (points ++ first l ∷ []) ++ last l ∷ []

-- the corners go down to the line y in raster order, are outermost corners of rows, and in each line so far they have those of the first n rows between them
pub record AreLines (rows : List Row) (n : ℕ) (y : ℤ) (points : List Corner) : Type 0 where
  pub order : AreInRasterOrder points
  pub short : AreShort points
  pub of : (p : Corner) → IsOf points p → IsCornerOfRows rows (length rows) p
  pub until : (p : Corner) → IsOf points p → p.y ≤ℤ y
  pub hold : (p : Corner) → IsCornerOfRows rows n p → p.y ≤ℤ y → IsBetween (IsOf points) p

-- the line above the last of the first n rows
abbrev pub reach : List Row → ℕ → ℤ
reach rows zero = negsuc 0
reach rows (suc k) = pos (row_at rows k).y
