-- The places of the points that have all near neighbours in the box, by the digits of a raster number from the first on.
-- Laws for any number of axes.
use Rattle.std.proofs.Common.{◌≡◌, ◌+◌, ◌-◌, ◌*◌, ◌/◌, ◌%◌, ◌<◌, ◌≤◌, ℕ, zero, suc, ℤ, pos, ◌≤ℤ◌, ◌∷◌, length, drop, ap, sym, ◌∙◌, subst, arith, mul_comm}
use Rattle.std.specs.Prelude.{nat_abs}
use Rattle.std.proofs.lemmas.Int.{ints}
use Rattle.std.proofs.lemmas.List.{drop_more, drop_all}
use Rattle.std.proofs.lemmas.Nat.{div_below}
use Rattle.std.proofs.Math.Nat.{mod-eq_of_lt}
use Rattle.shape_terms.specs.Points.{Point, coordinate, sides_of, box_count, raster_point}
use Rattle.shape_adj.proofs.Inner.{IsApart}

-- the point with the raster number i is one unit or more from each face of the box
abbrev pub IsApartPlace : Point → ℕ → Type 0
IsApartPlace n i = IsApart n (raster_point (sides_of n) i) (length n)

-- it is that if the point on the axes from k on is, whose number in their box is left
pub record IsLeft (n : Point) (i k left : ℕ) : Type 0 where
  pub below : left < box_count (sides_of (drop k n))
  pub apart : IsApartPlace (drop k n) left → IsApartPlace n i

first_apart : (x : ℤ) (n : Point) (i : ℕ) → pos 1 ≤ℤ x → 1 ≤ i % nat_abs x → i % nat_abs x < nat_abs x - 1 → IsApartPlace n (i / nat_abs x)
    → IsApartPlace (x ∷ n) i
first_apart x n i some low high h zero l = (omega (arith, ints, low), omega (arith, ints, high, some))
first_apart x n i some low high h (suc j) l = h j (omega arith)

module _ (n : Point) (i k left : ℕ) (l : k < length n) (x : ℤ) (there : x ≡ coordinate n k) (some : pos 1 ≤ℤ x) (low : 1 ≤ left % nat_abs x)
    (high : left % nat_abs x < nat_abs x - 1) (h : IsLeft n i k left) where
  cut : drop k n ≡ x ∷ drop (k + 1) n
  cut = drop_more n k (pos 0) l ∙ ap (λ y. y ∷ drop (k + 1) n) (sym there)

  below_all : left < nat_abs x * box_count (sides_of (drop (k + 1) n))
  below_all = subst (λ (m : Point). left < box_count (sides_of m)) cut h.below

  -- one axis more
  pub left_more : IsLeft n i (k + 1) (left / nat_abs x)
  left_more = record {
    below = div_below left (nat_abs x) (box_count (sides_of (drop (k + 1) n))) (omega arith)
        (subst (λ m. left < m) (mul_comm (nat_abs x) (box_count (sides_of (drop (k + 1) n)))) below_all);
    apart = λ a. h.apart (subst (λ m. IsApartPlace m left) (sym cut) (first_apart x (drop (k + 1) n) left some low high a));
  }

-- what is left before the last axis is the coordinate on it
pub left_end : (n : Point) (i k left : ℕ) → k + 1 ≡ length n → (x : ℤ) → x ≡ coordinate n k → pos 1 ≤ℤ x → 1 ≤ left → left < nat_abs x - 1 → IsLeft n i k left
    → IsApartPlace n i
left_end n i k left e x there some low high h =
    let m : left % nat_abs x ≡ left = mod-eq_of_lt (omega arith) in
    let r = left_more n i k left (omega arith) x there some (omega arith) (omega arith) h in
    r.apart (subst (λ m. IsApartPlace m (left / nat_abs x)) (sym (drop_all (k + 1) n (omega arith))) (λ j b. absurd (omega arith)))
