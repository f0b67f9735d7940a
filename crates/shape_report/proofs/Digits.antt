-- The number of a report is one digit, so it is put as any other number.
-- Which numbers reports have is told in `report_terms`.
use Rattle.std.proofs.Common.{◌≡◌, ◌<◌, ℕ, zero, suc, [], ◌∷◌, arith}
use Rattle.std.specs.Fmt.{decimal}
use Rattle.std.proofs.lemmas.Fmt.{decimal_digit}
use Rattle.report_terms.specs.Forms.{IsNumber, digit}

-- no report has a number of two digits
below_ten : (d n : ℕ) → IsNumber d n → n < 10
below_ten zero n h = omega (arith, h.1)
below_ten (suc zero) n h = omega (arith, h.1)
below_ten (suc (suc zero)) n h = omega (arith, h.1)
below_ten (suc (suc (suc d))) n h = omega (arith, h.1)

pub number_in_decimal : (d n : ℕ) → IsNumber d n → decimal n ≡ digit n ∷ []
number_in_decimal d n h = decimal_digit n (below_ten d n h)
