-- The table of the numbers below 1000 is right: its rows are those that are counted here.
-- A longer table is a greater bound here.
use Rattle.std.proofs.Common.{◌≡◌, ℕ, zero, suc, ◌+◌, ◌/◌, ◌%◌, ◌<◌, ◌≤◌, List, [], ◌∷◌, ◌++◌, cond, ltb, slice_index_or, length, take, get_or, refl, sym}
use Rattle.std.proofs.Common.{◌∙◌, ap, subst, arith, inl, inr}
use Rattle.std.specs.Fmt.{decimal}
use Rattle.std.proofs.lemmas.Fmt.{decimal_digit}
use Rattle.std.proofs.lemmas.Bool.{cases_lt, lt-ltb, le-ltb}
use Rattle.itoa.proofs.Decimal.{pair, decimal_two, decimal_pair}
use Rattle.shape_desk.specs.Putting.{IsRowOf}
use Rattle.shape_desk.specs.declared.rows.TheConstants.{ROWS}

-- the row of a number: its digits, blanks, and the numeral of how many digits there are
abbrev row_of : ℕ → List ℕ
row_of n =
    cond (ltb n 10) ((48 + n) ∷ 32 ∷ 32 ∷ 49 ∷ [])
    (cond (ltb n 100) ((48 + n / 10) ∷ (48 + n % 10) ∷ 32 ∷ 50 ∷ []) ((48 + n / 100) ∷ (48 + n % 100 / 10) ∷ (48 + n % 100 % 10) ∷ 51 ∷ []))

abbrev rows_from : (from count : ℕ) → List (List ℕ)
rows_from from zero = []
rows_from from (suc count) = row_of from ∷ rows_from (from + 1) count

row_at : (from count n : ℕ) → n < count → slice_index_or (rows_from from count) n [] ≡ row_of (from + n)
row_at from zero n h = absurd (omega arith)
row_at from (suc count) zero h = ap row_of (let q : from ≡ from + 0 = omega arith in q)
row_at from (suc count) (suc n) h = row_at (from + 1) count n (omega arith) ∙ ap row_of (let q : from + 1 + n ≡ from + suc n = omega arith in q)

rows_are : rows_from 0 1000 ≡ ROWS
rows_are = refl

table_at : (n : ℕ) → n < 1000 → slice_index_or ROWS n [] ≡ row_of n
table_at n h = ap (λ t. slice_index_or t n []) (sym rows_are) ∙ (row_at 0 1000 n h ∙ ap row_of (let q : 0 + n ≡ n = omega arith in q))

is_row : (text rest : List ℕ) (whole : List ℕ) → whole ≡ text → (row : List ℕ) → row ≡ text ++ rest → length text ≤ 3
    → get_or (text ++ rest) 3 0 ≡ 48 + length text → take (length text) (text ++ rest) ≡ text → IsRowOf whole row
is_row text rest whole w row r few count begins = rw (w, r) (record { begins = begins; count = count; few = few })

one : (n : ℕ) → n < 10 → IsRowOf (decimal n) (row_of n)
one n h = is_row ((48 + n) ∷ []) (32 ∷ 32 ∷ 49 ∷ []) (decimal n) (decimal_digit n h) (row_of n) (rw (lt-ltb n 10 h) refl) (omega arith) refl refl

two : (n : ℕ) → 10 ≤ n → n < 100 → IsRowOf (decimal n) (row_of n)
two n low h =
    is_row (pair n) (32 ∷ 50 ∷ []) (decimal n) (decimal_two n low h) (row_of n) (rw (le-ltb n 10 low, lt-ltb n 100 h) refl) (omega arith) refl refl

three : (n : ℕ) → 100 ≤ n → n < 1000 → IsRowOf (decimal n) (row_of n)
three n low h =
    let whole : decimal n ≡ ((48 + n / 100) ∷ []) ++ pair (n % 100) = decimal_pair n low (omega arith)
    ∙ ap (λ (xs : List ℕ). xs ++ pair (n % 100)) (decimal_digit (n / 100) (omega arith)) in
    is_row ((48 + n / 100) ∷ pair (n % 100)) (51 ∷ []) (decimal n) whole (row_of n) (rw (le-ltb n 10 (omega arith), le-ltb n 100 low) refl) (omega arith)
    refl refl

pub row_is : (n : ℕ) → n < 1000 → IsRowOf (decimal n) (slice_index_or ROWS n [])
row_is n h = subst (IsRowOf (decimal n)) (sym (table_at n h)) (elim (cases_lt n 10) [
  | inl l ↦ one n l
  | inr l ↦ elim (cases_lt n 100) [
    | inl k ↦ two n l k
    | inr k ↦ three n k h
  ]
])
