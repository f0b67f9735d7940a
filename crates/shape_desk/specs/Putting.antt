-- What it is to put text at a place of a buffer.
-- Which text is put for a number is said where it is put.
use Rattle.std.specs.Prelude.{◌≡◌, ◌≤◌, ℕ, ◌+◌, List, ◌++◌, length, take, drop, get_or}

-- the text stands in the buffer from a place on, and ends at another: what stood before it and
-- behind it is as it was, and so is the buffer's length
pub record PutsAt (text : List ℕ) (at : ℕ) (old new : List ℕ) (end : ℕ) : Type 0 where
  pub place : end ≡ at + length text
  pub front : take end new ≡ take at old ++ text
  pub behind : drop end new ≡ drop end old
  pub same_length : length new ≡ length old

-- the text stands last in what the buffer holds, from a place on: what stood before it is as it was, and so is the
-- buffer's length; what stands behind its end counts for nothing
pub record PutsLast (text : List ℕ) (at : ℕ) (old new : List ℕ) (end : ℕ) : Type 0 where
  pub place : end ≡ at + length text
  pub front : take end new ≡ take at old ++ text
  pub same_length : length new ≡ length old

-- the row of a text of at most three bytes: it begins with the text, and its fourth byte is the numeral of how many these are
pub record IsRowOf (text row : List ℕ) : Type 0 where
  pub begins : take (length text) row ≡ text
  pub count : get_or row 3 0 ≡ 48 + length text
  pub few : length text ≤ 3
