-- A set of numbers, as the bits of one number, and what is left of it without its least.
-- Laws over numbers alone.
use Rattle.std.proofs.Common.{◌≡◌, ℕ, ◌*◌, ◌%◌, ◌^◌, ◌<◌, ap, sym, ◌∙◌, subst, arith, w32}
use Rattle.std.specs.Int.{bit_at, bit_not}
use Rattle.std.specs.Int.Bits.{bit_and}
use Rattle.std.specs.Int.Count.{count_trailing_zeros}
use Rattle.std.proofs.lemmas.Nat.Bits.{bit_at_above, bit_at-trailing_zeros, bit_at_clear_same, bit_at_clear_other}
use Rattle.std.proofs.lemmas.Nat.{and_le_l}
use native.Mathlib.Decide.{dec_lt, ℕ_discrete}
use Rattle.shape_adj.specs.NearMasks.{In}

module _ (rest : ℕ) (small : rest < 2 ^ 32) (more : 0 < rest) where
  least : (count_trailing_zeros 32 rest < 32) × In rest (count_trailing_zeros 32 rest) × ((i : ℕ) → i < count_trailing_zeros 32 rest → bit_at rest i ≡ 0)
  least = bit_at-trailing_zeros w32 rest more small

  pub least_in : In rest (count_trailing_zeros 32 rest)
  least_in = least.1

  pub rest_less : bit_and rest (bit_not w32 (1 * 2 ^ count_trailing_zeros 32 rest % 2 ^ 32)) < rest
  rest_less =
      let a = and_le_l rest (bit_not w32 (1 * 2 ^ count_trailing_zeros 32 rest % 2 ^ 32)) in
      let c = bit_at_clear_same w32 rest (count_trailing_zeros 32 rest) least.0 in
      elim (ℕ_discrete (bit_and rest (bit_not w32 (1 * 2 ^ count_trailing_zeros 32 rest % 2 ^ 32))) rest) [
        | yes e ↦ absurd (let z = sym (ap (λ x. bit_at x (count_trailing_zeros 32 rest)) e) ∙ c in let o = least.1 in omega arith)
        | no n ↦ omega arith
      ]

  -- each other number stays
  pub rest_keeps : (j : ℕ) → In rest j → (j ≡ count_trailing_zeros 32 rest → ⊥)
      → In (bit_and rest (bit_not w32 (1 * 2 ^ count_trailing_zeros 32 rest % 2 ^ 32))) j
  rest_keeps j i n = elim (dec_lt j 32) [
    | yes b ↦ bit_at_clear_other w32 rest (count_trailing_zeros 32 rest) least.0 j b n ∙ i
    | no b ↦ absurd (let x = bit_at_above rest 32 j small (omega arith) in omega arith)
  ]

  -- and no number comes in
  pub rest_only : (j : ℕ) → In (bit_and rest (bit_not w32 (1 * 2 ^ count_trailing_zeros 32 rest % 2 ^ 32))) j → In rest j
  rest_only j i = elim (ℕ_discrete j (count_trailing_zeros 32 rest)) [
    | yes e ↦ subst (In rest) (sym e) least_in
    | no n ↦ elim (dec_lt j 32) [
      | yes b ↦ sym (bit_at_clear_other w32 rest (count_trailing_zeros 32 rest) least.0 j b n) ∙ i
      | no b ↦ absurd (
          let a = rest_less in
          let x = bit_at_above (bit_and rest (bit_not w32 (1 * 2 ^ count_trailing_zeros 32 rest % 2 ^ 32))) 32 j (omega arith) (omega arith) in
          omega arith)
    ]
  ]
