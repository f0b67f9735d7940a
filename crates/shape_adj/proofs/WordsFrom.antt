-- The 64 values from a place on, in two words.
-- Laws over numbers and rows of values alone.
use Rattle.std.proofs.Common.{refl, ◌≡◌, ℕ, ◌+◌, ◌-◌, ◌*◌, ◌/◌, ◌%◌, ◌^◌, ◌<◌, Bool, true, false, List, length, get_or, ap, sym, ◌∙◌, subst, arith, w64}
use Rattle.std.specs.Prelude.{◌↔◌}
use Rattle.std.specs.Int.{bit_at, bit_not}
use Rattle.std.specs.Int.Bits.{bit_or, bit_and}
use Rattle.std.proofs.lemmas.List.{get_or_past}
use Rattle.std.proofs.lemmas.Nat.Bits.{bit_at-zero, bit_at-lt, bit_at_and, bit_at_or, bit_at_not}
use native.Mathlib.Decide.{dec_lt, ℕ_discrete}
use Rattle.shape_grid.specs.Truths.{AreOfWord}
use Rattle.shape_grid.proofs.Shifts.{shr_bit, shl_bit_low, shl_bit_high, shl_bit_above}
use Rattle.shape_adj.specs.FacePoints.{AreFrom, IsOpenBelow}

-- behind the last word there is no value
pub no_word : (values : List Bool) (w : ℕ) → length values / 64 < w → AreOfWord values w 0
no_word values w l k = (
  (λ i. absurd (let z = bit_at-zero k in omega (arith, i, z))),
  λ h. absurd (let z : false ≡ true = sym (get_or_past values (64 * w + k) false (omega arith)) ∙ h.1 in cc),
)

module _ (values : List Bool) (i low high : ℕ) (a : AreOfWord values (i / 64) low) where
  -- the place is the first of a word
  pub from_first : i % 64 ≡ 0 → AreFrom values i (low / 2 ^ (i % 64))
  from_first z k =
      let s = shr_bit low (i % 64) k in
      let e : i % 64 + k ≡ k = omega (arith, z) in
      let same : bit_at (low / 2 ^ (i % 64)) k ≡ bit_at low k = s ∙ ap (bit_at low) e in
      let there : 64 * (i / 64) + k ≡ i + k = omega (arith, z) in (
        (λ t. let b = (a k).0 (sym same ∙ t) in (b.0, subst (λ j. get_or values j false ≡ true) there b.1)),
        λ h. same ∙ (a k).1 (h.0, subst (λ j. get_or values j false ≡ true) (sym there) h.1),
      )

  -- or not
  pub from_two : 0 < i % 64 → AreOfWord values (i / 64 + 1) high → AreFrom values i (bit_or (low / 2 ^ (i % 64)) (high * 2 ^ (64 - i % 64) % 2 ^ 64))
  from_two m b k =
      let s = shr_bit low (i % 64) k in
      let o = bit_at_or (low / 2 ^ (i % 64)) (high * 2 ^ (64 - i % 64) % 2 ^ 64) k in
      let x = bit_at-lt low (i % 64 + k) in
      let below : i % 64 < 64 = omega arith in
      elim (dec_lt k (64 - i % 64)) [
        | yes l ↦
            let z = shl_bit_low 64 high (64 - i % 64) k (omega (arith, l)) l in
            let same : bit_at (bit_or (low / 2 ^ (i % 64)) (high * 2 ^ (64 - i % 64) % 2 ^ 64)) k ≡ bit_at low (i % 64 + k) = omega (arith, s, o, x, z) in
            let there : 64 * (i / 64) + (i % 64 + k) ≡ i + k = omega arith in (
              (λ t. let c = (a (i % 64 + k)).0 (sym same ∙ t) in (omega (arith, l), subst (λ j. get_or values j false ≡ true) there c.1)),
              λ h. same ∙ (a (i % 64 + k)).1 (omega (arith, l, below), subst (λ j. get_or values j false ≡ true) (sym there) h.1),
            )
        | no l ↦
            let none : bit_at low (i % 64 + k) ≡ 0 = elim (ℕ_discrete (bit_at low (i % 64 + k)) 1) [
              | yes y ↦ absurd (let c = ((a (i % 64 + k)).0 y).0 in omega (arith, l, c, below))
              | no y ↦ omega (arith, x, y)
            ] in
            elim (dec_lt k 64) [
              | yes n ↦
                  let z = shl_bit_high 64 high (64 - i % 64) k n (omega (arith, l)) in
                  let y = bit_at-lt high (k - (64 - i % 64)) in
                  let same : bit_at (bit_or (low / 2 ^ (i % 64)) (high * 2 ^ (64 - i % 64) % 2 ^ 64)) k ≡ bit_at high (k - (64 - i % 64)) =
                  omega (arith, s, o, none, z, y) in
                  let there : 64 * (i / 64 + 1) + (k - (64 - i % 64)) ≡ i + k = omega (arith, l, below) in (
                    (λ t. let c = (b (k - (64 - i % 64))).0 (sym same ∙ t) in (n, subst (λ j. get_or values j false ≡ true) there c.1)),
                    λ h. same ∙ (b (k - (64 - i % 64))).1 (omega (arith, n), subst (λ j. get_or values j false ≡ true) (sym there) h.1),
                  )
              | no n ↦
                  let z = shl_bit_above 64 high (64 - i % 64) k (omega (arith, n)) in
                  let same : bit_at (bit_or (low / 2 ^ (i % 64)) (high * 2 ^ (64 - i % 64) % 2 ^ 64)) k ≡ 0 = omega (arith, s, o, none, z) in
                  ((λ t. absurd (omega (arith, same, t))), λ h. absurd (n h.0))
            ]
      ]

not_true : (b : Bool) → (b ≡ true → ⊥) → b ≡ false
not_true false h = refl
not_true true h = absurd (h refl)

-- the values that are true from the one place on and not from the other
pub open_bits : (values : List Bool) (i j a b : ℕ) → b < 2 ^ 64 → AreFrom values i a → AreFrom values j b → (k : ℕ) → (bit_at (bit_and a (bit_not w64 b)) k ≡ 1)
    ↔ ((k < 64) × (get_or values (i + k) false ≡ true) × (get_or values (j + k) false ≡ false))
open_bits values i j a b small f g k =
    let e = bit_at_and a (bit_not w64 b) k in
    let x = bit_at-lt a k in
    let y = bit_at-lt b k in
    let u = bit_at-lt (bit_not w64 b) k in (
      (λ t.
          let h : bit_at a k ≡ 1 = omega (arith, e, x, u, t) in
          let c = (f k).0 h in
          let n = bit_at_not w64 b k small c.0 in
          let z : bit_at b k ≡ 0 = omega (arith, e, n, t, y, x) in
          (c.0, c.1, not_true (get_or values (j + k) false) (λ v. let o = (g k).1 (c.0, v) in omega (arith, o, z)))),
      λ h.
          let n = bit_at_not w64 b k small h.0 in
          let o = (f k).1 (h.0, h.1) in
          let z : bit_at b k ≡ 0 = elim (ℕ_discrete (bit_at b k) 1) [
            | yes v ↦ absurd (let w : true ≡ false = sym ((g k).0 v).1 ∙ h.2 in cc)
            | no v ↦ omega (arith, v, y)
          ] in
          omega (arith, e, n, o, z),
    )

-- a place whose value is true is one of the row
pub true_within : (values : List Bool) (i : ℕ) → get_or values i false ≡ true → i < length values
true_within values i t = elim (dec_lt i (length values)) [
  | yes l ↦ l
  | no l ↦ absurd (let z : false ≡ true = sym (get_or_past values i false (omega (arith, l))) ∙ t in cc)
]

-- the same bits as places
pub open_word : (values : List Bool) (i j a b : ℕ) → b < 2 ^ 64 → AreFrom values i a → AreFrom values j b → (n : ℕ)
    → ((k : ℕ) × (n ≡ i + k) × (bit_at (bit_and a (bit_not w64 b)) k ≡ 1)) ↔ IsOpenBelow values i j 64 n
open_word values i j a b small f g n = (
  (λ h. let o = (open_bits values i j a b small f g h.0).0 h.2 in (h.0, o.0, h.1, o.1, o.2)),
  λ h. (h.0, h.2, (open_bits values i j a b small f g h.0).1 (h.1, h.3, h.4)),
)
