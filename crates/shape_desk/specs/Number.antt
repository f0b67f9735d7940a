-- Decimal numbers at the front of bytes: an optional minus sign and digits.
use Rattle.std.specs.Prelude.{◌≡◌, ◌≢◌, ◌==◌, ◌<◌, ◌≤◌, ◌^◌, ℕ, false, List, [], ◌∷◌, length, get_or, take, drop, take_while, if◌then◌else◌, Option, None, Some}
use Rattle.std.specs.Prelude.{ℤ, FitsSigned}
use Rattle.std.specs.Int.{w64}
use Rattle.std.specs.Char.{is_ascii_digit}
use Rattle.std.specs.List.{prefix_len}
use Rattle.std.specs.Str.Parse.{digits_value_after, digits_value}
use Rattle.std.specs.Fmt.{decimal, signed_decimal}

-- the front that is read: a minus sign, if one stands first, and the longest run of digits
abbrev pub number_front : List ℕ → List ℕ
number_front [] = []
number_front (b ∷ bs) = if b == 45 then 45 ∷ take_while is_ascii_digit bs else take_while is_ascii_digit (b ∷ bs)

-- there are digits, and the first of several is not 0
abbrev pub HasNoLeadingZero : List ℕ → Type 0
HasNoLeadingZero ds = (0 < length ds) × (get_or ds 0 0 ≡ 48 → length ds ≡ 1)

-- m tells a size n: it is n, or both are greater than 2 ^ 63
pub record IsSizeOf (n m : ℕ) : Type 0 where
  pub same : n ≤ 2 ^ 63 → m ≡ n
  pub great : 2 ^ 63 < n → 2 ^ 63 < m

-- the first i bytes are digits, and m is told of them: with the digits behind them it tells the size of the whole run
pub record IsRunSoFar (bytes : List ℕ) (i m : ℕ) : Type 0 where
  pub within : i ≤ prefix_len is_ascii_digit bytes
  pub size : IsSizeOf (digits_value 10 (take_while is_ascii_digit bytes)) (digits_value_after 10 m (drop i (take_while is_ascii_digit bytes)))

-- the longest run of digits at the front of bytes has this length, and is the spelling of n, which is at most 2 ^ 63
pub record IsSpelledRun (bytes : List ℕ) (count n : ℕ) : Type 0 where
  pub fits : n ≤ 2 ^ 63
  pub spelling : take_while is_ascii_digit bytes ≡ decimal n
  pub all : count ≡ length (take_while is_ascii_digit bytes)

-- the first n bytes are the decimal spelling of z, a number of 64 bits, and no digit follows
pub record SpellsNumber (bytes : List ℕ) (z : ℤ) (n : ℕ) : Type 0 where
  pub fits : FitsSigned w64 z
  pub spelling : number_front bytes ≡ signed_decimal z
  pub front : take n bytes ≡ number_front bytes
  pub len : n ≡ length (number_front bytes)
  pub stop : is_ascii_digit (get_or bytes n 0) ≡ false

-- what reading a number answers: None exactly where the front spells no number of 64 bits
abbrev pub ReadsNumber : List ℕ → Option (ℤ × ℕ) → Type 0
ReadsNumber bytes None = (z : ℤ) → FitsSigned w64 z → number_front bytes ≢ signed_decimal z
ReadsNumber bytes (Some a) = SpellsNumber bytes a.0 a.1

-- the first n bytes, at most six, are the decimal spelling of m
pub record IsShortNumber (bytes : List ℕ) (n m : ℕ) : Type 0 where
  pub fits : m < 1000000
  pub few : n ≤ 6
  pub spelling : take n bytes ≡ decimal m
