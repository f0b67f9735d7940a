-- Points of the plane with small coordinates: how large what is reckoned of them can be.
-- Plain variables and single points alone stand here.
use Rattle.std.proofs.Common.{◌≡◌, ℕ, zero, suc, ◌<◌, ◌≤◌, ◌⊎◌, inl, inr, length, sym, subst, arith}
use Rattle.std.specs.Prelude.{ℤ, pos, negsuc, ◌+ℤ◌, ◌-ℤ◌, ◌*ℤ◌, neg_ℤ, ◌≤ℤ◌, ◌<ℤ◌, nat_abs}
use Rattle.std.proofs.lemmas.Int.{ints, by_lt_z}
use Rattle.shape_terms.specs.Limits.{line_coordinate}
use Rattle.shape_terms.specs.Points.{Point, coordinate}
use Rattle.shape_terms.specs.Turns.{other_axis}
use Rattle.shape_terms.proofs.Products.{rings}
use Rattle.shape_terms.proofs.Order.{mul-nonneg}
use Rattle.shape_line.specs.Frames.{IsSense, along, height}
use Rattle.shape_line.proofs.Frames.{which}

-- a point of the plane, no coordinate of which is greater in size than a line may hold
pub record IsSmallPoint (p : Point) : Type 0 where
  pub flat : length p ≡ 2
  pub x : nat_abs (coordinate p 0) ≤ line_coordinate
  pub y : nat_abs (coordinate p 1) ≤ line_coordinate

-- the number is not greater in size than m
pub record IsWithin (m z : ℤ) : Type 0 where
  pub low : neg_ℤ m ≤ℤ z
  pub high : z ≤ℤ m

-- ---- whole numbers

pub same_or_not : (x y : ℤ) → (x ≡ y) ⊎ (x ≡ y → ⊥)
same_or_not x y = by_lt_z x y (λ l. inr (less x y l)) (λ l. by_lt_z y x (λ m. inr (more x y m)) (λ m. inl (even x y l m)))
  where
    less : (x y : ℤ) → x <ℤ y → x ≡ y → ⊥
    less x y l e = omega (arith, ints)

    more : (x y : ℤ) → y <ℤ x → x ≡ y → ⊥
    more x y l e = omega (arith, ints)

    even : (x y : ℤ) → y ≤ℤ x → x ≤ℤ y → x ≡ y
    even x y l m = omega (arith, ints)

-- a product of two numbers of this size
pub product_within : (m a b : ℤ) → IsWithin m a → IsWithin m b → IsWithin (m *ℤ m) (a *ℤ b)
product_within m a b h k =
    let hl = h.low in
    let hh = h.high in
    let kl = k.low in
    let kh = k.high in
    let p = mul-nonneg (m -ℤ a) (m +ℤ b) (omega (arith, ints)) (omega (arith, ints)) in
    let q = mul-nonneg (m +ℤ a) (m -ℤ b) (omega (arith, ints)) (omega (arith, ints)) in
    let r = mul-nonneg (m -ℤ a) (m -ℤ b) (omega (arith, ints)) (omega (arith, ints)) in
    let s = mul-nonneg (m +ℤ a) (m +ℤ b) (omega (arith, ints)) (omega (arith, ints)) in
    record { low = low m a b r s; high = high m a b p q }
  where
    high : (m a b : ℤ) → pos 0 ≤ℤ ((m -ℤ a) *ℤ (m +ℤ b)) → pos 0 ≤ℤ ((m +ℤ a) *ℤ (m -ℤ b)) → (a *ℤ b) ≤ℤ (m *ℤ m)
    high m a b p q = omega (arith, ints, rings, p, q)

    low : (m a b : ℤ) → pos 0 ≤ℤ ((m -ℤ a) *ℤ (m -ℤ b)) → pos 0 ≤ℤ ((m +ℤ a) *ℤ (m +ℤ b)) → neg_ℤ (m *ℤ m) ≤ℤ (a *ℤ b)
    low m a b p q = omega (arith, ints, rings, p, q)

-- ---- in a frame

abs_within : (z : ℤ) → nat_abs z ≤ line_coordinate → IsWithin (pos line_coordinate) z
abs_within z h = record { low = omega (arith, ints); high = omega (arith, ints) }

flipped : (s z : ℤ) → IsSense s → nat_abs z ≤ line_coordinate → nat_abs (s *ℤ z) ≤ line_coordinate
flipped s z sense h = by (which s sense)
  where
    by : (s ≡ pos 1) ⊎ (s ≡ negsuc 0) → nat_abs (s *ℤ z) ≤ line_coordinate
    by (inl e) = subst (λ (w : ℤ). nat_abs (w *ℤ z) ≤ line_coordinate) (sym e) (omega (arith, ints, h))
    by (inr e) = subst (λ (w : ℤ). nat_abs (w *ℤ z) ≤ line_coordinate) (sym e) (omega (arith, ints, h))

module _ (t : ℕ) (l : t < 2) (p : Point) (h : IsSmallPoint p) where
  axis_small : nat_abs (coordinate p t) ≤ line_coordinate
  axis_small = by t l
    where
      by : (t : ℕ) → t < 2 → nat_abs (coordinate p t) ≤ line_coordinate
      by zero l = h.x
      by (suc zero) l = h.y
      by (suc (suc t)) l = absurd (omega arith)

  other_small : nat_abs (coordinate p (other_axis t)) ≤ line_coordinate
  other_small = by t l
    where
      by : (t : ℕ) → t < 2 → nat_abs (coordinate p (other_axis t)) ≤ line_coordinate
      by zero l = h.y
      by (suc zero) l = h.x
      by (suc (suc t)) l = absurd (omega arith)

  pub height_within : IsWithin (pos line_coordinate) (height t p)
  height_within = by (coordinate p t) axis_small
    where
      by : (z : ℤ) → nat_abs z ≤ line_coordinate → IsWithin (pos line_coordinate) (neg_ℤ z)
      by z h = record { low = omega (arith, ints); high = omega (arith, ints) }

  pub along_within : (s : ℤ) → IsSense s → IsWithin (pos line_coordinate) (along t s p)
  along_within s sense = abs_within (along t s p) (flipped s (coordinate p (other_axis t)) sense other_small)
