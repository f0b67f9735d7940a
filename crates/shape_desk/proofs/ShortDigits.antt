-- Digits at the front of bytes, and the number that they spell.
-- Laws of bytes and numbers.
use Rattle.std.proofs.Common.{◌≡◌, ◌≤◌, ◌<◌, ◌+◌, ◌*◌, ◌/◌, ◌%◌, ◌^◌, ℕ, suc, List, [], ◌∷◌, ◌++◌, length, take, get_or, sym, ap, ◌∙◌, arith}
use Rattle.std.specs.Fmt.{decimal}
use Rattle.std.proofs.Math.Nat.{pow-le-pow_right}
use Rattle.std.proofs.Math.Seq.{take-suc}
use Rattle.std.proofs.lemmas.Fmt.{decimal_digit, decimal_step}
use Rattle.std.proofs.lemmas.Grind.{pow_more}
use Rattle.shape_desk.specs.Number.{IsShortNumber}

-- the first k bytes are the spelling of m, a number that is not 0
pub record AreDigits (bytes : List ℕ) (k m : ℕ) : Type 0 where
  pub text : take k bytes ≡ decimal m
  pub some : 0 < m
  pub small : m < 10 ^ k

one_byte : (bytes : List ℕ) (d : ℕ) → 0 < length bytes → get_or bytes 0 0 ≡ 48 + d → d < 10 → take 1 bytes ≡ decimal d
one_byte bytes d inside e few = take-suc bytes 0 0 inside ∙ ap (λ (b : ℕ). b ∷ []) e ∙ sym (decimal_digit d few)

pub first_digit : (bytes : List ℕ) (d : ℕ) → 0 < length bytes → get_or bytes 0 0 ≡ 48 + d → d < 10 → 0 < d → AreDigits bytes 1 d
first_digit bytes d inside e few some = record { text = one_byte bytes d inside e few; some = some; small = omega (arith, few) }

pub digit_more : (bytes : List ℕ) (k m d : ℕ) → k < length bytes → get_or bytes k 0 ≡ 48 + d → d < 10 → m < 1000000 → AreDigits bytes k m
    → AreDigits bytes (k + 1) (m * 10 + d)
digit_more bytes k m d inside e few fits h =
    let next : k + 1 ≡ suc k = omega arith in
    let front : (m * 10 + d) / 10 ≡ m = omega (arith, few) in
    let last : (m * 10 + d) % 10 ≡ d = omega (arith, few) in
    let step : decimal (m * 10 + d) ≡ decimal m ++ (48 + d) ∷ [] =
    decimal_step (m * 10 + d) (omega (arith, h.some)) (omega (arith, fits, few)) ∙ ap (λ n. decimal n ++ (48 + (m * 10 + d) % 10) ∷ []) front
    ∙ ap (λ n. decimal m ++ (48 + n) ∷ []) last in
    record {
      text = ap (λ n. take n bytes) next ∙ take-suc bytes k 0 inside ∙ ap (λ (l : List ℕ). l ++ get_or bytes k 0 ∷ []) h.text
          ∙ ap (λ b. decimal m ++ b ∷ []) e ∙ sym step;
      some = omega (arith, h.some);
      small = omega (arith, pow_more 10 k, h.small, few);
    }

-- six digits at most
pub below_million : (k m : ℕ) → k ≤ 6 → m < 10 ^ k → m < 1000000
below_million k m few small =
    let most : 10 ^ k ≤ 10 ^ 6 = pow-le-pow_right (omega arith) few in
    omega (arith, small, most)

pub short_of : (bytes : List ℕ) (k m : ℕ) → k ≤ 6 → AreDigits bytes k m → IsShortNumber bytes k m
short_of bytes k m few h = record { fits = below_million k m few h.small; few = few; spelling = h.text }

pub short_zero : (bytes : List ℕ) → 0 < length bytes → get_or bytes 0 0 ≡ 48 → IsShortNumber bytes 1 0
short_zero bytes inside e = record { fits = omega arith; few = omega arith; spelling = one_byte bytes 0 inside e (omega arith) }
