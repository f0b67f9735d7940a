-- An object has one ellipse, and what is less than a number of thousandths and a half is less than each greater one.
-- Numbers alone.
use Rattle.std.proofs.Common.{◌≡◌, ◌⊎◌, inl, inr, ℕ, ◌+◌, ◌*◌, ◌<◌, ◌≤◌, sym, ◌∙◌, arith}
use Rattle.std.specs.Prelude.{ℤ, pos, ◌-ℤ◌, ◌*ℤ◌, ◌≤ℤ◌, nat_abs}
use Rattle.std.proofs.lemmas.Int.{ints, by_lt_z}
use Rattle.std.proofs.lemmas.Nat.{mul-le}
use Rattle.measure_terms.specs.Moments.{Moments}
use Rattle.measure_terms.specs.Ellipse.{Ellipse, IsEllipse, IsRounded, IsRootBelow, IsNegatedRootBelow, IsMajorBelow, IsMinorBelow, room, square}

-- ---- one ellipse

rounded_once : (P : ℕ → Type 0) (r s : ℕ) → IsRounded P r → IsRounded P s → r ≡ s
rounded_once P r s h g =
    let split : (r < s) ⊎ ((r ≡ s) ⊎ (s < r)) = grind arith in
    elim split [
      | inl l ↦ absurd (g.low r l h.high)
      | inr o ↦ elim o [ inl e ↦ e | inr l ↦ absurd (h.low s l g.high) ]
    ]

pub ellipse_once : (m : Moments) (e f : Ellipse) → IsEllipse m e → IsEllipse m f → e ≡ f
ellipse_once m e f h g =
    let a = rounded_once _ e.major f.major h.major g.major in
    let b = rounded_once _ e.minor f.minor h.minor g.minor in
    let c = h.double_x ∙ sym g.double_x in
    let d = h.double_y ∙ sym g.double_y in
    λ i. record { major = a i; minor = b i; double_x = c i; double_y = d i }

-- ---- longer

room_rises : (n : ℕ) (t : ℤ) (r s : ℕ) → r ≤ s → room n t r ≤ℤ room n t s
room_rises n t r s l =
    let odd : (2 * r + 1) * (2 * r + 1) ≤ (2 * s + 1) * (2 * s + 1) = mul-le (2 * r + 1) (2 * r + 1) (2 * s + 1) (2 * s + 1) (omega arith) (omega arith) in
    let h = mul-le (3 * (n * n)) ((2 * r + 1) * (2 * r + 1)) (3 * (n * n)) ((2 * s + 1) * (2 * s + 1)) (omega arith) odd in
    falls_less (3 * (n * n) * ((2 * r + 1) * (2 * r + 1))) (3 * (n * n) * ((2 * s + 1) * (2 * s + 1))) (pos 8000000 *ℤ t) h
  where
    falls_less : (a b : ℕ) (u : ℤ) → a ≤ b → (pos a -ℤ u) ≤ℤ (pos b -ℤ u)
    falls_less a b u h = omega (arith, ints)

-- a greater number that is not negative has a greater square
greater_square : (j k : ℤ) → pos 0 ≤ℤ j → j ≤ℤ k → square j ≤ square k
greater_square j k some l =
    let a : nat_abs j ≤ nat_abs k = omega (arith, ints) in
    mul-le (nat_abs j) (nat_abs j) (nat_abs k) (nat_abs k) a a

-- and one that is not positive a lesser one
lesser_square : (j k : ℤ) → k ≤ℤ pos 0 → j ≤ℤ k → square k ≤ square j
lesser_square j k none l =
    let a : nat_abs k ≤ nat_abs j = omega (arith, ints) in
    mul-le (nat_abs k) (nat_abs k) (nat_abs j) (nat_abs j) a a

root_rises : (d : ℕ) (j k : ℤ) → j ≤ℤ k → IsRootBelow d j → IsRootBelow d k
root_rises d j k l h =
    let p = h.positive in
    let a = h.less in
    let b = greater_square j k (omega (arith, ints, p)) l in
    record { positive = omega (arith, ints, p, l); less = omega (arith, a, b) }

negated_root_rises : (d : ℕ) (j k : ℤ) → j ≤ℤ k → IsNegatedRootBelow d j → IsNegatedRootBelow d k
negated_root_rises d j k l h = by_lt_z (pos 0) k (λ p. inl p) (λ none. elim h [
  | inl p ↦ absurd (omega (arith, ints, p, none, l))
  | inr a ↦ (let b = lesser_square j k none l in inr (omega (arith, a, b)))
])

pub major_rises : (n : ℕ) (t : ℤ) (d r s : ℕ) → r ≤ s → IsMajorBelow n t d r → IsMajorBelow n t d s
major_rises n t d r s l = root_rises (64000000000000 * d) (room n t r) (room n t s) (room_rises n t r s l)

pub minor_rises : (n : ℕ) (t : ℤ) (d r s : ℕ) → r ≤ s → IsMinorBelow n t d r → IsMinorBelow n t d s
minor_rises n t d r s l = negated_root_rises (64000000000000 * d) (room n t r) (room n t s) (room_rises n t r s l)
