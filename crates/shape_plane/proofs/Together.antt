-- Two rows together: what their combination says, and what it leaves of the second slope.
-- Plain variables alone stand here.
use Rattle.std.proofs.Common.{◌≡◌, ℕ, ◌+◌, ◌*◌, ◌<◌, ◌≤◌, inl, inr, List, length, ap, sym, subst, ◌∙◌, arith, Bool}
use Rattle.std.specs.Prelude.{IsTrue, ◌↔◌, ℤ, pos, ◌+ℤ◌, ◌*ℤ◌, ◌≤ℤ◌, ◌<ℤ◌, unsigned_abs, neg_ℤ}
use Rattle.std.proofs.lemmas.Int.{ints, by_lt_z}
use Rattle.shape_terms.specs.Limits.{most_solid, plane_gap, plane_row}
use Rattle.shape_plane.specs.declared.row.Row.{Row}
use Rattle.shape_plane.specs.declared.bound.Bound.{Bound}
use Rattle.shape_plane.specs.declared.combination.Combination.{Combination}
use Rattle.shape_plane.specs.Rows.{row_at, IsGap, AreOpposite, IsSmall, IsSteep, Meets}
use Rattle.shape_plane.specs.Combinations.{IsCombination}
use Rattle.shape_plane.specs.Ranges.{LeaveRoom}
use Rattle.shape_terms.proofs.Products.{rings}
use Rattle.shape_terms.proofs.Order.{mul-le_ℤ, mul-lt_ℤ}

pub not_flat : (y w : ℤ) → AreOpposite y w → y ≡ pos 0 → ⊥
not_flat y w (inl h) e = omega (arith, ints, e, h.0)
not_flat y w (inr h) e = omega (arith, ints, e, h.0)

pub not_flat_back : (y w : ℤ) → AreOpposite y w → w ≡ pos 0 → ⊥
not_flat_back y w (inl h) e = omega (arith, ints, e, h.1)
not_flat_back y w (inr h) e = omega (arith, ints, e, h.1)

-- the signs are opposite where the product is below 0
pub opposite_signs : (y w : ℤ) → (y *ℤ w) <ℤ pos 0 → AreOpposite y w
opposite_signs y w h = by_lt_z y (pos 0) (λ (l : y <ℤ pos 0). inl (l, above l)) (λ (l : pos 0 ≤ℤ y). let b = below l in inr (rises b, b))
  where
    above : y <ℤ pos 0 → pos 0 <ℤ w
    above l = by_lt_z (pos 0) w (λ (k : pos 0 <ℤ w). k)
        (λ (k : w ≤ℤ pos 0). absurd (let e = mul-le_ℤ (neg_ℤ y) w (pos 0) (omega (arith, ints, l)) k in omega (arith, ints, rings, e, h)))

    below : pos 0 ≤ℤ y → w <ℤ pos 0
    below l = by_lt_z w (pos 0) (λ (k : w <ℤ pos 0). k)
        (λ (k : pos 0 ≤ℤ w). absurd (let e = mul-le_ℤ y (pos 0) w l k in omega (arith, ints, rings, e, h)))

    rises : w <ℤ pos 0 → pos 0 <ℤ y
    rises l = by_lt_z (pos 0) y (λ (k : pos 0 <ℤ y). k)
        (λ (k : y ≤ℤ pos 0). absurd (let e = mul-le_ℤ (neg_ℤ w) y (pos 0) (omega (arith, ints, l)) k in omega (arith, ints, rings, e, h)))

pub product_below : (y w : ℤ) → AreOpposite y w → (y *ℤ w) <ℤ pos 0
product_below y w (inl h) = let e = mul-lt_ℤ w y (pos 0) h.1 h.0 in omega (arith, ints, rings, e)
product_below y w (inr h) = let e = mul-lt_ℤ y w (pos 0) h.0 h.1 in omega (arith, ints, rings, e)

pub opposite_told : (b : Bool) (y w v : ℤ) → v ≡ y *ℤ w → IsTrue b ↔ (v <ℤ pos 0) → IsTrue b ↔ AreOpposite y w
opposite_told b y w v e h = (
  λ t. opposite_signs y w (subst (λ (u : ℤ). u <ℤ pos 0) e (h.0 t)),
  λ o. h.1 (subst (λ (u : ℤ). u <ℤ pos 0) (sym e) (product_below y w o)),
)

-- a coefficient of a small row is small
pub second_small : (r : Row) → IsSmall r → unsigned_abs r.y ≤ plane_gap
second_small r h = small r.y (λ e. (h.steep e).y_small)
  where
    small : (y : ℤ) → ((y ≡ pos 0 → ⊥) → unsigned_abs y ≤ plane_gap) → unsigned_abs y ≤ plane_gap
    small y f = by_lt_z (pos 0) y (λ (l : pos 0 <ℤ y). f (λ e. omega (arith, ints, l, e)))
        (λ (l : y ≤ℤ pos 0). by_lt_z y (pos 0) (λ (k : y <ℤ pos 0). f (λ e. omega (arith, ints, k, e))) (λ (k : pos 0 ≤ℤ y). omega (arith, ints, l, k)))

-- the second slope is gone
pub gone : (y w : ℤ) → AreOpposite y w → pos 0 ≡ pos (unsigned_abs w) *ℤ y +ℤ pos (unsigned_abs y) *ℤ w
gone y w (inl h) = let a : pos (unsigned_abs w) ≡ w = omega (arith, ints, h.1) in let b : pos (unsigned_abs y) ≡ neg_ℤ y = omega (arith, ints, h.0) in
    rw (a, b) (omega (arith, ints, rings))
gone y w (inr h) = let a : pos (unsigned_abs w) ≡ neg_ℤ w = omega (arith, ints, h.1) in let b : pos (unsigned_abs y) ≡ y = omega (arith, ints, h.0) in
    rw (a, b) (omega (arith, ints, rings))

some_size : (y w : ℤ) → AreOpposite y w → pos 1 ≤ℤ pos (unsigned_abs y)
some_size y w (inl h) = omega (arith, ints, h.0)
some_size y w (inr h) = omega (arith, ints, h.0)

pub regrouped : (v w x1 z1 x2 z2 p q : ℤ) → v *ℤ (x1 *ℤ p +ℤ z1 *ℤ q) +ℤ w *ℤ (x2 *ℤ p +ℤ z2 *ℤ q) ≡ (v *ℤ x1 +ℤ w *ℤ x2) *ℤ p +ℤ (v *ℤ z1 +ℤ w *ℤ z2) *ℤ q
regrouped v w x1 z1 x2 z2 p q = omega (arith, ints, rings)

-- the combination says that the two rows leave room
room_of : (x1 y1 z1 x2 y2 z2 v w x z p q : ℤ) → v ≡ y2 → w ≡ neg_ℤ y1 → x ≡ v *ℤ x1 +ℤ w *ℤ x2 → z ≡ v *ℤ z1 +ℤ w *ℤ z2 → (x *ℤ p +ℤ z *ℤ q) <ℤ pos 0
    → (y2 *ℤ (x1 *ℤ p +ℤ z1 *ℤ q)) <ℤ (y1 *ℤ (x2 *ℤ p +ℤ z2 *ℤ q))
room_of x1 y1 z1 x2 y2 z2 v w x z p q ev ew ex ez h = apart v w y1 y2 (x1 *ℤ p +ℤ z1 *ℤ q) (x2 *ℤ p +ℤ z2 *ℤ q) ev ew
    (rw (ex, ez, ← regrouped v w x1 z1 x2 z2 p q) at h)
  where
    apart : (v w y1 y2 l m : ℤ) → v ≡ y2 → w ≡ neg_ℤ y1 → (v *ℤ l +ℤ w *ℤ m) <ℤ pos 0 → (y2 *ℤ l) <ℤ (y1 *ℤ m)
    apart v w y1 y2 l m ev ew h = let a = ap (λ (t : ℤ). t *ℤ l) ev in let b = ap (λ (t : ℤ). t *ℤ m) ew in omega (arith, ints, rings, a, b, h)

pub leave_room : (rows : List Row) (c : Combination) (i j : ℕ) (p q : ℤ) → c.first ≡ i → c.second ≡ j → IsCombination rows c
    → c.first_weight ≡ pos (unsigned_abs (row_at rows j).y) → c.second_weight ≡ pos (unsigned_abs (row_at rows i).y)
    → Meets p q c.bound.x c.bound.z → LeaveRoom p q (row_at rows i) (row_at rows j)
leave_room rows c i j p q ei ej h v w m = room (row_at rows i) (row_at rows j) v w (x_of ei ej) (z_of ei ej)
  where
    x_of : c.first ≡ i → c.second ≡ j → c.bound.x ≡ c.first_weight *ℤ (row_at rows i).x +ℤ c.second_weight *ℤ (row_at rows j).x
    x_of ei ej = h.x ∙ (λ l. c.first_weight *ℤ (row_at rows (ei l)).x +ℤ c.second_weight *ℤ (row_at rows (ej l)).x)

    z_of : c.first ≡ i → c.second ≡ j → c.bound.z ≡ c.first_weight *ℤ (row_at rows i).z +ℤ c.second_weight *ℤ (row_at rows j).z
    z_of ei ej = h.z ∙ (λ l. c.first_weight *ℤ (row_at rows (ei l)).z +ℤ c.second_weight *ℤ (row_at rows (ej l)).z)

    room : (r s : Row) → c.first_weight ≡ pos (unsigned_abs s.y) → c.second_weight ≡ pos (unsigned_abs r.y)
        → c.bound.x ≡ c.first_weight *ℤ r.x +ℤ c.second_weight *ℤ s.x → c.bound.z ≡ c.first_weight *ℤ r.z +ℤ c.second_weight *ℤ s.z → LeaveRoom p q r s
    room r s v w x z = (
      λ a b. room_of r.x r.y r.z s.x s.y s.z c.first_weight c.second_weight c.bound.x c.bound.z p q (omega (arith, ints, v, b)) (omega (arith, ints, w, a)) x z
          m,
      λ a b. room_of s.x s.y s.z r.x r.y r.z c.second_weight c.first_weight c.bound.x c.bound.z p q (omega (arith, ints, w, b)) (omega (arith, ints, v, a))
          (omega (arith, ints, x)) (omega (arith, ints, z)) m,
    )

-- the combination of two rows is small
pub combined_small : (a b : Row) (v w x z : ℤ) → IsSteep a → IsSteep b → v ≡ pos (unsigned_abs b.y) → w ≡ pos (unsigned_abs a.y)
    → ((m n : ℕ) → unsigned_abs v ≤ m → unsigned_abs a.x ≤ n → unsigned_abs w ≤ m → unsigned_abs b.x ≤ n → unsigned_abs x ≤ m * n + m * n)
    → ((m n : ℕ) → unsigned_abs v ≤ m → unsigned_abs a.z ≤ n → unsigned_abs w ≤ m → unsigned_abs b.z ≤ n → unsigned_abs z ≤ m * n + m * n)
    → (unsigned_abs x ≤ plane_row) × (unsigned_abs z ≤ plane_row)
combined_small a b v w x z sa sb ev ew sx sz =
    let v_high : unsigned_abs v ≤ plane_gap = (let m = sb.y_small in rw ev m) in
    let w_high : unsigned_abs w ≤ plane_gap = (let m = sa.y_small in rw ew m) in
    (sx plane_gap most_solid v_high (omega (arith, sa.x_small)) w_high (omega (arith, sb.x_small)), sz plane_gap most_solid v_high sa.z_small w_high sb.z_small)

pub combined_of : (rows : List Row) (i j : ℕ) (v w : ℤ) (o : Bound) (a b : Row) → i < length rows → j < length rows → a ≡ row_at rows i → b ≡ row_at rows j
    → IsSteep a → IsSteep b
    → AreOpposite (row_at rows i).y (row_at rows j).y → IsGap (row_at rows j).cause → v ≡ pos (unsigned_abs b.y) → w ≡ pos (unsigned_abs a.y)
    → o.x ≡ pos (unsigned_abs b.y) *ℤ a.x +ℤ pos (unsigned_abs a.y) *ℤ b.x → o.z ≡ pos (unsigned_abs b.y) *ℤ a.z +ℤ pos (unsigned_abs a.y) *ℤ b.z
    → unsigned_abs o.x ≤ plane_row → unsigned_abs o.z ≤ plane_row
    → IsCombination rows (record { first = i; first_weight = v; second = j; second_weight = w; bound = o })
combined_of rows i j v w o a b hi hj ea eb sa sb p k ev ew ex ez sx sz = record {
  first = hi;
  second = hj;
  first_low = omega (arith, ints, ev);
  first_high = (let m = sb.y_small in rw ev m);
  second_low = (let m = some_size a.y b.y opposite in rw ew m);
  second_high = (let m = sa.y_small in rw ew m);
  x = rw (ev, ew) ex ∙ (λ l. v *ℤ (ea l).x +ℤ w *ℤ (eb l).x);
  y = rw (ev, ew) (gone a.y b.y opposite) ∙ (λ l. v *ℤ (ea l).y +ℤ w *ℤ (eb l).y);
  z = rw (ev, ew) ez ∙ (λ l. v *ℤ (ea l).z +ℤ w *ℤ (eb l).z);
  x_small = sx;
  z_small = sz;
  kind = inr k;
}
  where
    opposite : AreOpposite a.y b.y
    opposite = subst (λ (r : Row). AreOpposite r.y b.y) (sym ea) (subst (λ (r : Row). AreOpposite (row_at rows i).y r.y) (sym eb) p)
