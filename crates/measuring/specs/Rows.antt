-- An object as rows, each from its first to its last spot, and what holds of spots and rows.
-- Numbers alone stand here; nothing is searched.
use Rattle.std.specs.Prelude.{◌≡◌, ℕ, ◌<◌, ◌≤◌, List, length, slice_index_or}
use Rattle.measuring.specs.declared.spot.Spot.{Spot}
use Rattle.measuring.specs.declared.object_row.Row.{Row}

-- ---- spots

-- p comes before q in raster order, or is the same
pub record IsUpTo (p q : Spot) : Type 0 where
  pub row : p.y ≤ q.y
  pub column : p.y ≡ q.y → p.x ≤ q.x

-- ---- rows

-- a row without a spot, which stands past the end of a list
abbrev pub no_row : Row
no_row = record { y = 0; left = 0; right = 0 }

abbrev pub row_at : List Row → ℕ → Row
row_at rows k = slice_index_or rows k no_row

abbrev pub first_spot : Row → Spot
first_spot r = record { x = r.left; y = r.y }

abbrev pub last_spot : Row → Spot
last_spot r = record { x = r.right; y = r.y }

-- the spot lies in the row: from its first to its last spot
pub record IsIn (r : Row) (p : Spot) : Type 0 where
  pub row : p.y ≡ r.y
  pub left : r.left ≤ p.x
  pub right : p.x ≤ r.right

-- the spot lies in the row with a place
pub record IsInRow (rows : List Row) (k : ℕ) (p : Spot) : Type 0 where
  pub place : k < length rows
  pub on : IsIn (row_at rows k) p

-- each row has spots, and lies below those before it
pub record AreRows (rows : List Row) : Type 0 where
  pub some : (k : ℕ) → k < length rows → (row_at rows k).left ≤ (row_at rows k).right
  pub rising : (i k : ℕ) → i < k → k < length rows → (row_at rows i).y < (row_at rows k).y

-- the rows of a set of spots: they hold all of them, and begin and end with some
pub record AreRowsOf (S : Spot → Type 0) (rows : List Row) : Type 0 where
  pub order : AreRows rows
  pub hold : (p : Spot) → S p → (k : ℕ) × IsInRow rows k p
  pub first : (k : ℕ) → k < length rows → S (first_spot (row_at rows k))
  pub last : (k : ℕ) → k < length rows → S (last_spot (row_at rows k))
