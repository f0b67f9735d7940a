-- A set of numbers without its least: what is left is smaller, and has all the others.
-- Laws over numbers alone.
use Rattle.std.proofs.Common.{◌≡◌, ℕ, ◌*◌, ◌%◌, ◌^◌, ◌<◌, ap, sym, ◌∙◌, subst, arith, w32, inl, inr}
use Rattle.std.specs.Prelude.{◌⊎◌}
use Rattle.std.specs.Int.{bit_at, bit_not}
use Rattle.std.specs.Int.Bits.{bit_and}
use Rattle.std.specs.Int.Count.{count_trailing_zeros}
use Rattle.std.proofs.lemmas.Nat.Bits.{bit_at_above, bit_at-trailing_zeros, bit_at_clear_same, bit_at_clear_other}
use Rattle.std.proofs.lemmas.Nat.{and_le_l}
use native.Mathlib.Decide.{dec_lt, ℕ_discrete}
use Rattle.shape_adj.specs.NearMasks.{In}

-- the set without the number k
abbrev pub less_bit : ℕ → ℕ → ℕ
less_bit rest k = bit_and rest (bit_not w32 (1 * 2 ^ k % 2 ^ 32))

module _ (rest : ℕ) (small : rest < 2 ^ 32) (more : 0 < rest) where
  first : (count_trailing_zeros 32 rest < 32) × In rest (count_trailing_zeros 32 rest) × ((i : ℕ) → i < count_trailing_zeros 32 rest → bit_at rest i ≡ 0)
  first = bit_at-trailing_zeros w32 rest more small

  -- the least is of the set
  pub least_in : In rest (count_trailing_zeros 32 rest)
  least_in = first.1

  pub less_falls : less_bit rest (count_trailing_zeros 32 rest) < rest
  less_falls =
      let a = and_le_l rest (bit_not w32 (1 * 2 ^ count_trailing_zeros 32 rest % 2 ^ 32)) in
      let c = bit_at_clear_same w32 rest (count_trailing_zeros 32 rest) first.0 in
      elim (ℕ_discrete (less_bit rest (count_trailing_zeros 32 rest)) rest) [
        | yes e ↦ absurd (let z = sym (ap (λ x. bit_at x (count_trailing_zeros 32 rest)) e) ∙ c in let o = first.1 in omega arith)
        | no n ↦ omega arith
      ]

  -- what is left was of the set
  pub less_in : (j : ℕ) → In (less_bit rest (count_trailing_zeros 32 rest)) j → In rest j
  less_in j i = elim (dec_lt j 32) [
    | yes b ↦ elim (ℕ_discrete j (count_trailing_zeros 32 rest)) [
      | yes e ↦ subst (In rest) (sym e) first.1
      | no n ↦ sym (bit_at_clear_other w32 rest (count_trailing_zeros 32 rest) first.0 j b n) ∙ i
    ]
    | no b ↦ absurd (let a = less_falls in let z = bit_at_above (less_bit rest (count_trailing_zeros 32 rest)) 32 j (omega arith) (omega arith) in omega arith)
  ]

  -- and all others are left
  pub less_other : (j : ℕ) → In rest j → (j ≡ count_trailing_zeros 32 rest) ⊎ In (less_bit rest (count_trailing_zeros 32 rest)) j
  less_other j i = elim (ℕ_discrete j (count_trailing_zeros 32 rest)) [
    | yes e ↦ inl e
    | no n ↦ elim (dec_lt j 32) [
      | yes b ↦ inr (bit_at_clear_other w32 rest (count_trailing_zeros 32 rest) first.0 j b n ∙ i)
      | no b ↦ absurd (let z = bit_at_above rest 32 j small (omega arith) in omega arith)
    ]
  ]
