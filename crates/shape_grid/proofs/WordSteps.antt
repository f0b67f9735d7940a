-- A word of a set while one of its bits is changed, and its lowest bit.
-- Laws over numbers and lists alone.
use Rattle.std.proofs.Common.{◌≡◌, ◌≢◌, ℕ, ◌+◌, ◌-◌, ◌*◌, ◌/◌, ◌%◌, ◌^◌, ◌<◌, ◌≤◌, ◌↔◌, Bool, true, false, List, length, set, slice_index, sym, ◌∙◌, ap, arith}
use Rattle.std.proofs.Common.{w64}
use Rattle.std.specs.Int.{bit_at, bit_not, trailing_zeros}
use Rattle.std.specs.Int.Bits.{bit_or, bit_and}
use Rattle.std.proofs.lemmas.List.{length-set, get_or-set_same, get_or-set_other, get_or_past}
use Rattle.std.proofs.lemmas.Nat.Bits.{bit_at-zero, bit_at_set_same, bit_at_set_other, bit_at_clear_same, bit_at_clear_other, bit_at-trailing_zeros}
use Rattle.std.proofs.lemmas.Nat.Bits.{bit_at_above, bit_at_or}
use Rattle.std.proofs.Math.Nat.{div-le_self}
use native.Mathlib.Decide.{dec_lt, ℕ_discrete}
use Rattle.shape_grid.specs.Sets.{In, bit_of, IsPut, IsLeastFrom, AreThreeIn}
use Rattle.shape_grid.specs.Levels.{IsLeastOfWord}
use Rattle.shape_grid.proofs.Shifts.{shr_bit, shl_bit_low, shl_bit_high, low_bits}

-- a number with a bit is not 0
pub bit_filled : (n k : ℕ) → bit_at n k ≡ 1 → 0 < n
bit_filled n k h = elim (ℕ_discrete n 0) [
  | yes e ↦ absurd (
      let a : bit_at n k ≡ bit_at 0 k = ap (λ n. bit_at n k) e in
      let z = bit_at-zero k in
      let f : 1 ≡ 0 = sym h ∙ a ∙ z in cc)
  | no e ↦ omega arith
]

-- the word of the number is v now
pub put_word : (words : List ℕ) (i v b : ℕ) → i < 64 * length words → bit_at v (i % 64) ≡ b
    → ((k : ℕ) → k < 64 → k ≢ i % 64 → bit_at v k ≡ bit_at (slice_index words (i / 64)) k) → IsPut words (set words (i / 64) v) i b
put_word words i v b l here others =
    let within : i / 64 < length words = omega arith in
    record {
      room = length-set words (i / 64) v;
      here = ap (λ x. bit_at x (i % 64)) (get_or-set_same words (i / 64) v 0 within) ∙ here;
      others = λ j n. elim (ℕ_discrete (j / 64) (i / 64)) [
        | yes e ↦ (
            let k : j % 64 < 64 = omega arith in
            let m : j % 64 ≢ i % 64 = λ q. n (omega arith) in
            ap (λ w. bit_at (slice_index (set words (i / 64) v) w) (j % 64)) e ∙ ap (λ x. bit_at x (j % 64)) (get_or-set_same words (i / 64) v 0 within)
            ∙ others (j % 64) k m ∙ ap (λ w. bit_at (slice_index words w) (j % 64)) (sym e))
        | no m ↦ ap (λ x. bit_at x (j % 64)) (get_or-set_other words (i / 64) (j / 64) v 0 m)
      ];
      words = λ w n. get_or-set_other words (i / 64) w v 0 n;
    }

module _ (words : List ℕ) (i : ℕ) (l : i < 64 * length words) where
  low : i % 64 < 64
  low = omega arith

  pub put_one : IsPut words (set words (i / 64) (bit_or (slice_index words (i / 64)) (1 * 2 ^ (i % 64) % 2 ^ 64))) i 1
  put_one = put_word words i (bit_or (slice_index words (i / 64)) (1 * 2 ^ (i % 64) % 2 ^ 64)) 1 l
      (bit_at_set_same w64 (slice_index words (i / 64)) (i % 64) low)
      (λ k m n. bit_at_set_other w64 (slice_index words (i / 64)) (i % 64) low k n)

  pub put_none : IsPut words (set words (i / 64) (bit_and (slice_index words (i / 64)) (bit_not w64 (1 * 2 ^ (i % 64) % 2 ^ 64)))) i 0
  put_none = put_word words i (bit_and (slice_index words (i / 64)) (bit_not w64 (1 * 2 ^ (i % 64) % 2 ^ 64))) 0 l
      (bit_at_clear_same w64 (slice_index words (i / 64)) (i % 64) low)
      (λ k m n. bit_at_clear_other w64 (slice_index words (i / 64)) (i % 64) low k m n)

lowest_at : (words : List ℕ) (w z : ℕ) → z < 64 → bit_at (slice_index words w) z ≡ 1 → ((k : ℕ) → k < z → bit_at (slice_index words w) k ≡ 0)
    → IsLeastOfWord words w (w * 64 + z)
lowest_at words w z l one none =
    let p : (w * 64 + z) / 64 ≡ w = omega arith in
    let q : (w * 64 + z) % 64 ≡ z = omega arith in
    record {
      place = p;
      there = (λ i. bit_at (slice_index words (p i)) (q i)) ∙ one;
      least = λ j h m. elim (dec_lt (j % 64) z) [
        | yes s ↦ elim (ℕ_discrete (j / 64) w) [
          | yes e ↦ absurd (
              let a = none (j % 64) s in
              let b : bit_at (slice_index words w) (j % 64) ≡ 1 = ap (λ w. bit_at (slice_index words w) (j % 64)) (sym e) ∙ h in
              let f : 0 ≡ 1 = sym a ∙ b in cc)
          | no e ↦ omega arith
        ]
        | no s ↦ omega arith
      ];
    }

pub lowest : (words : List ℕ) (w : ℕ) → 0 < slice_index words w → slice_index words w < 2 ^ 64
    → IsLeastOfWord words w (w * 64 + trailing_zeros w64 (slice_index words w))
lowest words w filled small =
    let t = bit_at-trailing_zeros w64 (slice_index words w) filled small in
    lowest_at words w (trailing_zeros w64 (slice_index words w)) t.0 t.1 t.2

-- a word that is not empty is one of the list
pub within : (words : List ℕ) (w : ℕ) → 0 < slice_index words w → w < length words
within words w filled = elim (dec_lt w (length words)) [ yes l ↦ l | no n ↦ absurd (let z = get_or_past words w 0 (omega arith) in omega arith) ]

-- a test told that the word is not empty
pub filled_if : (b : Bool) (n : ℕ) → (b ≡ true) ↔ (n ≡ 0) → b ≡ false → 0 < n
filled_if b n h f = elim (ℕ_discrete n 0) [ yes e ↦ absurd (let t = h.1 e in let z : true ≡ false = sym t ∙ f in cc) | no e ↦ omega arith ]

-- ---- the least number from a number on

module _ (words : List ℕ) (from : ℕ) where
  -- the bit of a later number of the same word, in what is left of that word
  rest_bit : (i : ℕ) → from ≤ i → i / 64 ≡ from / 64
      → bit_at (slice_index words (from / 64) / 2 ^ (from % 64)) (i % 64 - from % 64) ≡ bit_at (slice_index words (i / 64)) (i % 64)
  rest_bit i l e =
      let k : from % 64 + (i % 64 - from % 64) ≡ i % 64 = omega arith in
      shr_bit (slice_index words (from / 64)) (from % 64) (i % 64 - from % 64) ∙ ap (λ k. bit_at (slice_index words (from / 64)) k) k
      ∙ ap (λ w. bit_at (slice_index words w) (i % 64)) (sym e)

  -- the word has no number from there on
  pub rest_empty : slice_index words (from / 64) / 2 ^ (from % 64) ≡ 0 → (i : ℕ) → In words i → from ≤ i → 64 * (from / 64 + 1) ≤ i
  rest_empty z i h l = elim (ℕ_discrete (i / 64) (from / 64)) [
    | yes e ↦ absurd (
        let b = bit_filled (slice_index words (from / 64) / 2 ^ (from % 64)) (i % 64 - from % 64) (rest_bit i l e ∙ h) in
        omega arith)
    | no n ↦ omega arith
  ]

  -- the lowest bit of what is left is that of the least number
  least_of_rest : (t : ℕ) → slice_index words (from / 64) < 2 ^ 64 → bit_at (slice_index words (from / 64) / 2 ^ (from % 64)) t ≡ 1
      → ((k : ℕ) → k < t → bit_at (slice_index words (from / 64) / 2 ^ (from % 64)) k ≡ 0) → IsLeastFrom words from (from + t)
  least_of_rest t small one none =
      let there = sym (shr_bit (slice_index words (from / 64)) (from % 64) t) ∙ one in
      let inside : from % 64 + t < 64 = elim (dec_lt (from % 64 + t) 64) [
        | yes l ↦ l
        | no n ↦ absurd (let z = bit_at_above (slice_index words (from / 64)) 64 (from % 64 + t) small (omega arith) in let f : 1 ≡ 0 = sym there ∙ z in cc)
      ] in
      let p : (from + t) / 64 ≡ from / 64 = omega arith in
      let q : (from + t) % 64 ≡ from % 64 + t = omega arith in
      record {
        on = omega arith;
        there = (λ i. bit_at (slice_index words (p i)) (q i)) ∙ there;
        least = λ j h l. elim (ℕ_discrete (j / 64) (from / 64)) [
          | yes e ↦ elim (dec_lt (j % 64 - from % 64) t) [
            | yes s ↦ absurd (
                let z = none (j % 64 - from % 64) s in
                let b = rest_bit j l e in
                let f : 0 ≡ 1 = sym z ∙ b ∙ h in cc)
            | no s ↦ omega arith
          ]
          | no n ↦ omega arith
        ];
      }

  pub rest_least : slice_index words (from / 64) / 2 ^ (from % 64) ≢ 0 → slice_index words (from / 64) < 2 ^ 64
      → IsLeastFrom words from (from + trailing_zeros w64 (slice_index words (from / 64) / 2 ^ (from % 64)))
  rest_least filled small =
      let less = div-le_self (slice_index words (from / 64)) (2 ^ (from % 64)) in
      let t = bit_at-trailing_zeros w64 (slice_index words (from / 64) / 2 ^ (from % 64)) (omega arith) (omega arith) in
      least_of_rest (trailing_zeros w64 (slice_index words (from / 64) / 2 ^ (from % 64))) small t.1 t.2

-- ---- three numbers in a row

module _ (words : List ℕ) (i : ℕ) where
  -- a number of the same word, in what is left of that word
  same_word : (b : ℕ) → i % 64 + b < 64 → bit_at (slice_index words (i / 64) / 2 ^ (i % 64)) b ≡ bit_of words (i + b)
  same_word b l =
      let p : i / 64 ≡ (i + b) / 64 = omega arith in
      let q : i % 64 + b ≡ (i + b) % 64 = omega arith in
      shr_bit (slice_index words (i / 64)) (i % 64) b ∙ (λ j. bit_at (slice_index words (p j)) (q j))

  -- the three lowest bits, where they are those of the numbers
  three_of : (n : ℕ) → ((b : ℕ) → b < 3 → bit_at n b ≡ bit_of words (i + b)) → AreThreeIn words i (bit_and n 7)
  three_of n h b =
      let low = low_bits n 3 b in
      ((λ t. let a = low.0 t in (a.0, sym (h b a.0) ∙ a.1)), λ t. low.1 (t.0, h b t.0 ∙ t.1))

  -- all of them are in one word
  pub three_near : i % 64 < 62 → AreThreeIn words i (bit_and (slice_index words (i / 64) / 2 ^ (i % 64)) 7)
  three_near l = three_of (slice_index words (i / 64) / 2 ^ (i % 64)) (λ b m. same_word b (omega arith))

  -- the bits of one word and the next, beside one another
  far_bit : 62 ≤ i % 64 → slice_index words (i / 64) < 2 ^ 64 → (b : ℕ) → b < 3
      → bit_at (bit_or (slice_index words (i / 64) / 2 ^ (i % 64)) (slice_index words (i / 64 + 1) * 2 ^ (64 - i % 64) % 2 ^ 64)) b ≡ bit_of words (i + b)
  far_bit l small b m =
      let o = bit_at_or (slice_index words (i / 64) / 2 ^ (i % 64)) (slice_index words (i / 64 + 1) * 2 ^ (64 - i % 64) % 2 ^ 64) b in
      elim (dec_lt (i % 64 + b) 64) [
        | yes n ↦ (
            let e = same_word b n in
            let z = shl_bit_low 64 (slice_index words (i / 64 + 1)) (64 - i % 64) b (omega arith) (omega arith) in
            omega arith)
        | no n ↦ (
            let z = shr_bit (slice_index words (i / 64)) (i % 64) b ∙ bit_at_above (slice_index words (i / 64)) 64 (i % 64 + b) small (omega arith) in
            let e = shl_bit_high 64 (slice_index words (i / 64 + 1)) (64 - i % 64) b (omega arith) (omega arith) in
            let p : i / 64 + 1 ≡ (i + b) / 64 = omega arith in
            let q : b - (64 - i % 64) ≡ (i + b) % 64 = omega arith in
            let f : bit_at (slice_index words (i / 64 + 1)) (b - (64 - i % 64)) ≡ bit_of words (i + b) = λ j. bit_at (slice_index words (p j)) (q j) in
            omega arith)
      ]

  -- the last of them are in the next word
  pub three_far : 62 ≤ i % 64 → slice_index words (i / 64) < 2 ^ 64
      → AreThreeIn words i (bit_and (bit_or (slice_index words (i / 64) / 2 ^ (i % 64)) (slice_index words (i / 64 + 1) * 2 ^ (64 - i % 64) % 2 ^ 64)) 7)
  three_far l small = three_of _ (far_bit l small)
