-- A set of bits has as many elements as bits are set.
-- Numbers alone.
use Rattle.std.proofs.Common.{◌≡◌, ◌⊎◌, inl, inr, ℕ, zero, suc, ◌+◌, ◌*◌, ◌/◌, ◌%◌, ◌^◌, ◌-◌, ◌<◌, subst, sym, ap, ◌∙◌, arith, refl, w32}
use Rattle.std.specs.Int.Bits.{bit_and}
use Rattle.std.specs.Int.Count.{ones}
use Rattle.std.specs.Int.{bit_at}
use Rattle.std.proofs.lemmas.Nat.{ones_cat, and_le_l}
use Rattle.std.proofs.lemmas.Nat.Bits.{bit_at_lowest, bit_at-suc, bit_at-zero, bit_at_not, bit_at_above, bit_at-lt}
use native.Mathlib.Decide.{dec_lt}
use Rattle.shape_adj.specs.NearMasks.{In}
use Rattle.shape_adj.proofs.MaskBits.{both_sets}
use Rattle.measure_terms.specs.Crossings.{IsSizeOf}
use Rattle.measure_terms.proofs.Sizes.{same_size, no_elements, one_more, image_size}
use Rattle.measuring.specs.Gains.{IsUnseen}

-- k is one more than a place of the set
record IsAbove (a k : ℕ) : Type 0 where
  place : ℕ
  is_in : In a place
  one : suc place ≡ k

above_size : (a n : ℕ) → IsSizeOf (In a) n → IsSizeOf (IsAbove a) n
above_size a n h = image_size (λ k. suc k) (In a) (IsAbove a) n (λ j k e. omega (arith, e)) (λ k i. record { place = k; is_in = i; one = refl })
    (λ k i. (i.place, i.is_in, i.one)) h

-- the bits above the lowest one
upper : (m k : ℕ) → In m (suc k) → IsAbove (m / 2) (suc k)
upper m k i = record { place = k; is_in = sym (bit_at-suc m k) ∙ i; one = refl }

lower : (m k : ℕ) → IsAbove (m / 2) k → In m k
lower m k a = subst (In m) a.one (bit_at-suc m a.place ∙ a.is_in)

in_cases : (m k : ℕ) → In m k → IsAbove (m / 2) k ⊎ (0 ≡ k)
in_cases m zero i = inr refl
in_cases m (suc k) i = inl (upper m k i)

no_ones : ones 0 ≡ 0
unfolding ones
no_ones = refl

one_one : ones 1 ≡ 1
unfolding ones
one_one = refl

empty_size : IsSizeOf (In 0) (ones 0)
empty_size = subst (IsSizeOf (In 0)) (sym no_ones) (no_elements (In 0) (λ k i. let e = bit_at-zero k in omega (arith, e, i)))

bits_size : (w m : ℕ) → m < 2 ^ w → IsSizeOf (In m) (ones m)
bits_size zero m l =
    let z : m ≡ 0 = omega (arith, l) in
    subst (λ m. IsSizeOf (In m) (ones m)) (sym z) empty_size
bits_size (suc w) m l =
    let small : m / 2 < 2 ^ w = omega (arith, l) in
    let rest = above_size (m / 2) (ones (m / 2)) (bits_size w (m / 2) small) in
    let split : m / 2 * 2 ^ 1 + m % 2 ≡ m = omega arith in
    let cat = ones_cat 1 (m / 2) (m % 2) (omega arith) in
    let count : ones m ≡ ones (m / 2) + ones (m % 2) = ap ones (sym split) ∙ cat in
    let last : (m % 2 ≡ 0) ⊎ (m % 2 ≡ 1) = grind arith in
    elim last [
      | inl e ↦ (
          let c = count ∙ ap (λ b. ones (m / 2) + ones b) e in
          let n : ones m ≡ ones (m / 2) = omega (arith, c, no_ones) in
          subst (IsSizeOf (In m)) (sym n) (same_size (IsAbove (m / 2)) (In m) (ones (m / 2)) (lower m)
          (λ k i. elim (in_cases m k i) [ inl a ↦ a | inr z ↦ absurd (let b = subst (In m) (sym z) i in let f = bit_at_lowest m in omega (arith, b, f, e)) ])
          rest))
      | inr e ↦ (
          let c = count ∙ ap (λ b. ones (m / 2) + ones b) e in
          let n : ones m ≡ ones (m / 2) + 1 = omega (arith, c, one_one) in
          subst (IsSizeOf (In m)) (sym n)
          (one_more (IsAbove (m / 2)) (In m) 0 (ones (m / 2)) (λ a. let o = a.one in omega (arith, o)) (lower m) (bit_at_lowest m ∙ e) (in_cases m) rest))
    ]

-- ---- directions that lead to no neighbour that was seen

unseen_in : (mask seen k : ℕ) → mask < 2 ^ 32 → seen < 2 ^ 32 → IsUnseen mask seen k → In (bit_and mask (2 ^ 32 - 1 - seen)) k
unseen_in mask seen k few small u = elim (dec_lt k 32) [
  | yes l ↦ (both_sets mask (2 ^ 32 - 1 - seen) k).1 (
    u.direction,
    let e = bit_at_not w32 seen k small l in
        let b = bit_at-lt seen k in
        let n : bit_at seen k ≡ 0 =
        (let split : (bit_at seen k ≡ 0) ⊎ (bit_at seen k ≡ 1) = grind (arith, b) in elim split [ inl z ↦ z | inr o ↦ absurd (u.new o) ]) in
        omega (arith, e, n),
  )
  | no l ↦ absurd (let z = bit_at_above mask 32 k few (omega (arith, l)) in let o = u.direction in omega (arith, z, o))
]

in_unseen : (mask seen k : ℕ) → mask < 2 ^ 32 → seen < 2 ^ 32 → In (bit_and mask (2 ^ 32 - 1 - seen)) k → IsUnseen mask seen k
in_unseen mask seen k few small i =
    let b = (both_sets mask (2 ^ 32 - 1 - seen) k).0 i in
    elim (dec_lt k 32) [
      | yes l ↦ record { direction = b.0; new = λ s. (let e = bit_at_not w32 seen k small l in let o = b.1 in omega (arith, e, o, s)) }
      | no l ↦ absurd (let z = bit_at_above mask 32 k few (omega (arith, l)) in let o = b.0 in omega (arith, z, o))
    ]

unseen_size : (mask seen n : ℕ) → mask < 2 ^ 32 → seen < 2 ^ 32 → IsSizeOf (In (bit_and mask (2 ^ 32 - 1 - seen))) n → IsSizeOf (IsUnseen mask seen) n
unseen_size mask seen n few small = same_size (In (bit_and mask (2 ^ 32 - 1 - seen))) (IsUnseen mask seen) n
    (λ k. in_unseen mask seen k few small) (λ k. unseen_in mask seen k few small)

pub count_size : (mask seen : ℕ) → mask < 2 ^ 32 → seen < 2 ^ 32 → IsSizeOf (IsUnseen mask seen) (ones (bit_and mask (2 ^ 32 - 1 - seen)))
count_size mask seen few small =
    let m = bit_and mask (2 ^ 32 - 1 - seen) in
    unseen_size mask seen (ones m) few small (bits_size 32 m (let a = and_le_l mask (2 ^ 32 - 1 - seen) in omega (arith, a, few)))
