-- Where one parabola gets lower than another: the comparison is linear in x.
-- Plain variables alone stand here.
use Rattle.std.proofs.Common.{◌≡◌, ℕ, zero, suc, ◌+◌, ◌-◌, ◌*◌, ◌/◌, ◌%◌, ◌<◌, ◌≤◌, ap, inl, inr, arith, mul_comm}
use Rattle.std.specs.Prelude.{ℤ, pos, negsuc, ◌+ℤ◌, ◌-ℤ◌, ◌*ℤ◌, neg_ℤ, ◌≤ℤ◌, ◌<ℤ◌, nat_abs}
use Rattle.std.proofs.lemmas.Int.{ints}
use Rattle.std.proofs.lemmas.Bool.{cases_lt}
use Rattle.std.proofs.lemmas.Nat.{mul-le, le-div}
use Rattle.shape_terms.proofs.Ring.{+ℤ-*ℤ}
use Rattle.shape_terms.proofs.Products.{rings}
use Rattle.shape_terms.specs.Rows.{height, IsFirstBetter}
use Rattle.shape_terms.proofs.Order.{mul-le_ℤ}

square_is : (u : ℤ) → pos (nat_abs u * nat_abs u) ≡ u *ℤ u
square_is (pos n) = omega (arith, ints)
square_is (negsuc n) = omega (arith, ints)

-- the square of a difference
difference_square : (y b : ℤ) → (y -ℤ b) *ℤ (y -ℤ b) +ℤ (b *ℤ y +ℤ b *ℤ y) ≡ y *ℤ y +ℤ b *ℤ b
difference_square y b = omega (arith, ints, rings)

height_is : (f i : ℕ) (y : ℤ) → pos (height f i y) +ℤ (pos i *ℤ y +ℤ pos i *ℤ y) ≡ pos f +ℤ (y *ℤ y +ℤ pos (i * i))
height_is f i y =
    let s = square_is (y -ℤ pos i) in
    let d = difference_square y (pos i) in
    omega (arith, ints)

-- j is t places behind i, and no higher at y exactly where t times 2 * y is large
twice_is : (i t : ℕ) (y : ℤ) → pos (i + t) *ℤ y ≡ pos i *ℤ y +ℤ pos t *ℤ y
twice_is i t y = let e = +ℤ-*ℤ (pos i) (pos t) y in omega (arith, ints)

pub better_is : (f i g j t : ℕ) (y : ℤ) → j ≡ i + t → height g j y ≤ height f i y → pos (g + j * j) ≤ℤ (pos (f + i * i) +ℤ (pos t *ℤ y +ℤ pos t *ℤ y))
better_is f i g j t y e h =
    let a = height_is f i y in
    let b = height_is g j y in
    let c : pos j *ℤ y ≡ pos i *ℤ y +ℤ pos t *ℤ y = rw e (twice_is i t y) in
    omega (arith, ints)

pub is_better : (f i g j t : ℕ) (y : ℤ) → j ≡ i + t → pos (g + j * j) ≤ℤ (pos (f + i * i) +ℤ (pos t *ℤ y +ℤ pos t *ℤ y)) → height g j y ≤ height f i y
is_better f i g j t y e h =
    let a = height_is f i y in
    let b = height_is g j y in
    let c : pos j *ℤ y ≡ pos i *ℤ y +ℤ pos t *ℤ y = rw e (twice_is i t y) in
    omega (arith, ints)

-- ---- the least x

pub rounded_enough : (m w x : ℕ) → 0 < w → x ≡ (m + (w - 1)) / w → m ≤ w * x
rounded_enough m w x s e =
    let a : w * ((m + (w - 1)) / w) + (m + (w - 1)) % w ≡ m + (w - 1) = omega arith in
    let b : (m + (w - 1)) % w < w = omega arith in
    rw e (omega arith)

pub rounded_least : (m w x n : ℕ) → 0 < w → x ≡ (m + (w - 1)) / w → m ≤ w * n → x ≤ n
rounded_least m w x n s e h =
    elim (cases_lt n x) [
      | inl l ↦
          let a : w * ((m + (w - 1)) / w) + (m + (w - 1)) % w ≡ m + (w - 1) = omega arith in
          let b : w * (n + 1) ≤ w * ((m + (w - 1)) / w) = mul-le w (n + 1) w ((m + (w - 1)) / w) (omega arith) (omega arith) in
          absurd (omega (arith, a, b, h))
      | inr l ↦ l
    ]

-- g at j is the higher one at 0
pub first_above : (f i g j t m w x : ℕ) → j ≡ i + t → w ≡ 2 * t → (f + i * i) + m ≡ g + j * j → 0 < m → m ≤ w * x → ((n : ℕ) → m ≤ w * n → x ≤ n)
    → IsFirstBetter f i g j (pos x)
first_above f i g j t m w x e d s some enough least = record {
  better = is_better f i g j t (pos x) e (omega (arith, ints, above_reached m w t x d enough));
  first = λ y h. above_first m w t x y (f + i * i) (g + j * j) d s some least (better_is f i g j t y e h);
}
  where
    above_reached : (m w t x : ℕ) → w ≡ 2 * t → m ≤ w * x → m ≤ t * x + t * x
    above_reached m w t x d h = let p = ap (λ n. n * x) d in omega arith

    above_first : (m w t x : ℕ) (y : ℤ) (a b : ℕ) → w ≡ 2 * t → a + m ≡ b → 0 < m → ((n : ℕ) → m ≤ w * n → x ≤ n)
        → pos b ≤ℤ (pos a +ℤ (pos t *ℤ y +ℤ pos t *ℤ y)) → pos x ≤ℤ y
    above_first m w t x (pos n) a b d s some least h =
        let p = ap (λ k. k * n) d in
        let l : x ≤ n = least n (omega (arith, ints)) in
        omega (arith, ints)
    above_first m w t x (negsuc n) a b d s some least h =
        absurd (omega (arith, ints))

-- f at i is no lower at 0
pub first_below : (f i g j t m w q : ℕ) → j ≡ i + t → w ≡ 2 * t → 0 < w → (g + j * j) + m ≡ f + i * i → q ≡ m / w → IsFirstBetter f i g j (neg_ℤ (pos q))
first_below f i g j t m w q e d some s is = record {
  better = is_better f i g j t (neg_ℤ (pos q)) e (below_reached m w t q (f + i * i) (g + j * j) d (rw is (omega arith)) s);
  first = λ y h. below_first m w t q y (f + i * i) (g + j * j) d some s is (better_is f i g j t y e h);
}
  where
    taken_away : (t n a b : ℕ) → pos b ≤ℤ (pos a +ℤ (pos t *ℤ negsuc n +ℤ pos t *ℤ negsuc n)) → b + (t * suc n + t * suc n) ≤ a
    taken_away t n a b h = omega (arith, ints)

    below_reached : (m w t q : ℕ) (a b : ℕ) → w ≡ 2 * t → w * q ≤ m → b + m ≡ a → pos b ≤ℤ (pos a +ℤ (pos t *ℤ neg_ℤ (pos q) +ℤ pos t *ℤ neg_ℤ (pos q)))
    below_reached m w t zero a b d v s = omega (arith, ints)
    below_reached m w t (suc q) a b d v s =
        let p = ap (λ k. k * suc q) d in
        omega (arith, ints)

    below_first : (m w t q : ℕ) (y : ℤ) (a b : ℕ) → w ≡ 2 * t → 0 < w → b + m ≡ a → q ≡ m / w → pos b ≤ℤ (pos a +ℤ (pos t *ℤ y +ℤ pos t *ℤ y))
        → neg_ℤ (pos q) ≤ℤ y
    below_first m w t q (pos n) a b d some s is h = omega (arith, ints)
    below_first m w t q (negsuc n) a b d some s is h =
        let p = ap (λ k. k * suc n) d in
        let r : b + (t * suc n + t * suc n) ≤ a = taken_away t n a b h in
        let l : suc n ≤ m / w = le-div (suc n) m w some (omega (arith, p, r, mul_comm (suc n) w)) in
        omega (arith, ints)

-- ---- on both sides of it

-- from its first place on the later parabola stays no higher
pub better_from : (f i g j : ℕ) (x y : ℤ) → i < j → IsFirstBetter f i g j x → x ≤ℤ y → height g j y ≤ height f i y
better_from f i g j x y l h k =
    let t = j - i in
    let e : j ≡ i + t = omega arith in
    let a = better_is f i g j t x e h.better in
    let m = mul-le_ℤ (pos t) x y (omega (arith, ints)) k in
    is_better f i g j t y e (omega (arith, ints, a, m))

-- and before it the earlier one is lower
pub better_before : (f i g j : ℕ) (x y : ℤ) → IsFirstBetter f i g j x → y <ℤ x → height f i y < height g j y
better_before f i g j x y h l =
    elim (cases_lt (height f i y) (height g j y)) [
      | inl m ↦ m
      | inr m ↦ absurd (omega (arith, ints, h.first y m))
    ]
