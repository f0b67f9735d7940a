-- The three digits of a number below a thousand are those of one that is greater by a thousand, but the first.
-- What is put for a number of thousandths is told elsewhere.
use Rattle.std.proofs.Common.{◌≡◌, ◌+◌, ◌/◌, ◌%◌, ◌<◌, ℕ, ◌∷◌, arith}
use Rattle.std.specs.Fmt.{decimal}
use Rattle.std.proofs.lemmas.Fmt.{decimal_digit, decimal_step}
use Rattle.measure_terms.specs.Texts.{three_digits}

pub decimal_past_thousand : (n : ℕ) → n < 1000 → decimal (1000 + n) ≡ 49 ∷ three_digits n
decimal_past_thousand n small =
    let m : ℕ = 1000 + n in
    let first : m / 10 / 10 / 10 ≡ 1 = omega arith in
    let hundreds : m / 10 / 10 % 10 ≡ n / 100 % 10 = omega arith in
    let tens : m / 10 % 10 ≡ n / 10 % 10 = omega arith in
    let ones : m % 10 ≡ n % 10 = omega arith in
    rw (
      decimal_step m (omega arith) (omega arith),
      decimal_step (m / 10) (omega arith) (omega arith),
      decimal_step (m / 10 / 10) (omega arith) (omega arith),
      first,
      decimal_digit 1 (omega arith),
      hundreds,
      tens,
      ones,
    )
