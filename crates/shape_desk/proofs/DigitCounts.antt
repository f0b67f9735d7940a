-- How many digits a number has: one of three or four, and any of 64 bits with a sign.
-- Of greater ones the last four are counted at once.
use Rattle.std.proofs.Common.{◌≡◌, ◌+◌, ◌/◌, ◌<◌, ◌≤◌, ℕ, suc, length, ◌∙◌, ap, arith, ℤ, pos, negsuc, FitsSigned, w64, nat_abs}
use Rattle.std.specs.Fmt.{decimal}
use Rattle.std.proofs.lemmas.Fmt.{length-decimal-le}
use Rattle.itoa.proofs.Decimal.{length_one, length_two, length_pair}

pub length_three : (n : ℕ) → 100 ≤ n → n < 1000 → length (decimal n) ≡ 3
length_three n low high = length_pair n low (omega arith) ∙ ap (λ (k : ℕ). k + 2) (length_one (n / 100) (omega arith))

pub length_of_four : (n : ℕ) → 1000 ≤ n → n < 10000 → length (decimal n) ≡ 4
length_of_four n low high = length_pair n (omega arith) (omega arith) ∙ ap (λ (k : ℕ). k + 2) (length_two (n / 100) (omega arith) (omega arith))

pub length_of_size : (z : ℤ) → FitsSigned w64 z → length (decimal (nat_abs z)) ≤ 19
length_of_size (pos n) h = let fits = h.sfits in length-decimal-le 19 n (omega arith) (omega arith) (omega arith)
length_of_size (negsuc n) h = let fits = h.sfits in length-decimal-le 19 (suc n) (omega arith) (omega arith) (omega arith)
