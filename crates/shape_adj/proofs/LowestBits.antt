-- A set of numbers without its least: what is left is smaller, and has all the others.
-- Laws over numbers alone, of words of 64 bits.
use Rattle.std.proofs.Common.{◌≡◌, ℕ, ◌*◌, ◌%◌, ◌^◌, ◌<◌, ap, sym, ◌∙◌, arith, w64}
use Rattle.std.specs.Int.{bit_at, bit_not}
use Rattle.std.specs.Int.Count.{count_trailing_zeros}
use Rattle.std.specs.Int.Bits.{bit_and}
use Rattle.std.proofs.lemmas.Nat.Bits.{bit_at_above, bit_at-trailing_zeros, bit_at_clear_same, bit_at_clear_other}
use Rattle.std.proofs.lemmas.Nat.{and_le_l}
use native.Mathlib.Decide.{dec_lt, ℕ_discrete}

-- the set without the number k
abbrev pub less_bit : ℕ → ℕ → ℕ
less_bit rest k = bit_and rest (bit_not w64 (1 * 2 ^ k % 2 ^ 64))

module _ (rest : ℕ) (small : rest < 2 ^ 64) (more : 0 < rest) where
  first : (count_trailing_zeros 64 rest < 64) × (bit_at rest (count_trailing_zeros 64 rest) ≡ 1) × ((i : ℕ) → i < count_trailing_zeros 64 rest → bit_at rest i ≡ 0)
  first = bit_at-trailing_zeros w64 rest more small

  -- the least is of the set
  pub lowest_in : bit_at rest (count_trailing_zeros 64 rest) ≡ 1
  lowest_in = first.1

  -- and not of what is left
  pub lowest_gone : bit_at (less_bit rest (count_trailing_zeros 64 rest)) (count_trailing_zeros 64 rest) ≡ 0
  lowest_gone = bit_at_clear_same w64 rest (count_trailing_zeros 64 rest) first.0

  pub less_falls : less_bit rest (count_trailing_zeros 64 rest) < rest
  less_falls =
      let a = and_le_l rest (bit_not w64 (1 * 2 ^ count_trailing_zeros 64 rest % 2 ^ 64)) in
      elim (ℕ_discrete (less_bit rest (count_trailing_zeros 64 rest)) rest) [
        | yes e ↦ absurd (let z = sym (ap (λ x. bit_at x (count_trailing_zeros 64 rest)) e) ∙ lowest_gone in let o = first.1 in omega (arith, z, o))
        | no n ↦ omega (arith, a, n)
      ]

  -- all others are as they were
  pub less_same : (j : ℕ) → (j ≡ count_trailing_zeros 64 rest → ⊥) → bit_at (less_bit rest (count_trailing_zeros 64 rest)) j ≡ bit_at rest j
  less_same j n = elim (dec_lt j (64)) [
    | yes b ↦ bit_at_clear_other w64 rest (count_trailing_zeros 64 rest) first.0 j b n
    | no b ↦
        let f = less_falls in
        bit_at_above (less_bit rest (count_trailing_zeros 64 rest)) (64) j (omega (arith, small, f)) (omega (arith, b))
        ∙ sym (bit_at_above rest (64) j small (omega (arith, b)))
  ]
