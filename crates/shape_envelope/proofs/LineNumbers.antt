-- The lines of an axis, each with a number, and the places of a row.
-- Laws over numbers and rows alone.
use Rattle.std.proofs.Common.{◌≡◌, ℕ, ◌+◌, ◌*◌, ◌/◌, ◌%◌, ◌<◌, inl, inr, List, length, arith, mul_comm}
use Rattle.std.specs.Prelude.{ℤ, Option, None}
use Rattle.std.proofs.lemmas.Bool.{cases_lt}
use Rattle.std.proofs.lemmas.List.{get_or_past}
use Rattle.std.proofs.lemmas.Nat.{div_below}
use Rattle.shape_terms.specs.Rows.{cell, IsLowest}
use Rattle.shape_terms.proofs.AxisPlaces.{place_below}
use Rattle.shape_terms.proofs.Boxes.{some_side}

-- the line with a number
line_low : (c rows t : ℕ) → t < c * rows → t % c < c
line_low c rows t l = let s = some_side c rows t l in omega arith

pub line_high : (c rows t : ℕ) → t < c * rows → t / c < rows
line_high c rows t l = div_below t c rows (some_side c rows t l) (omega (arith, mul_comm c rows))

pub line_inside : (c w rows t x : ℕ) → t < c * rows → x < w → (t % c + c * (w * (t / c))) + x * c < c * (w * rows)
line_inside c w rows t x l h = omega (arith, place_below c w rows (t % c) x (t / c) (line_low c rows t l) h (line_high c rows t l))

pub number_of_line : (c t : ℕ) → t % c + c * (t / c) ≡ t
number_of_line c t = omega arith

-- a lowest place is a place of the row
pub lowest_inside : (row : List (Option ℕ)) (x : ℤ) (i : ℕ) → IsLowest row x i → i < length row
lowest_inside row x i t = elim (cases_lt i (length row)) [
  | inl l ↦ l
  | inr l ↦ let no : cell row i ≡ None = get_or_past row i None l in let yes = t.filled in cc
]
