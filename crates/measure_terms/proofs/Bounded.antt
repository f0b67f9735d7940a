-- In the plane what does not reach the corner of the frame is bounded, and nothing else: a hole is a bounded component.
-- All that lies out of the box is joined to the corner, and from the corner a straight walk to the left has no end.
use Rattle.std.proofs.Common.{◌≡◌, ◌⊎◌, inl, inr, ℕ, zero, suc, ◌+◌, ◌≤◌, Bool, refl, sym, subst, arith, [], ◌∷◌, length}
use Rattle.std.specs.Prelude.{ℤ, pos, negsuc, ◌+ℤ◌, ◌-ℤ◌, ◌≤ℤ◌, nat_abs}
use Rattle.std.proofs.lemmas.Int.{ints}
use Rattle.std.proofs.lemmas.Bool.{cases_Bool, cases_lt}
use Rattle.shape_terms.specs.Points.{Point, IsPoint, coordinate}
use Rattle.shape_terms.specs.Adjacency.{Side}
use Rattle.shape_terms.specs.Pictures.{Picture}
use Rattle.shape_terms.specs.Parts.{Connected, HasParts}
use Rattle.shape_terms.proofs.AdjacencySymmetric.{side_sym}
use Rattle.shape_terms.proofs.Paths.{ends_in, joined_to, turned_back, in_greater}
use Rattle.shape_terms.proofs.Successor.{Place, point, held, two_axes}
use Rattle.measure_terms.specs.ComponentContours.{IsComponent, Complement}
use Rattle.measure_terms.specs.Holes.{corner, Enclosed, IsBounded, InHole}
use Rattle.measure_terms.proofs.OverSteps.{place_is}
use Rattle.measure_terms.proofs.Parted.{Beside}
use Rattle.measure_terms.proofs.Planes.{path_of_points}
use Rattle.measure_terms.proofs.OneContour.{bare_is_none}
use Rattle.measure_terms.proofs.Fields.{Boxed, boxed_object, two_sides}

-- ---- straight walks

module _ (S : Place → Type 0) where
  row_walk : (n : ℕ) (x u y : ℤ) → nat_abs (x -ℤ u) ≡ n → ((t : ℤ) → S (t, y)) → Connected Beside S (x, y) (u, y)
  row_walk zero x u y e s = subst (λ (p : Place). Connected Beside S (x, y) p) (place_is x y u y (omega (arith, ints)) refl) (Connected.here (s x))
  row_walk (suc n) x u y e s = elim (ways x u n e) [
    | inl h ↦ Connected.onward (s x) (3, omega arith, place_is (x +ℤ negsuc 0) (y +ℤ pos 0) (x +ℤ negsuc 0) y refl (omega (arith, ints)))
        (row_walk n (x +ℤ negsuc 0) u y h s)
    | inr h ↦ Connected.onward (s x) (1, omega arith, place_is (x +ℤ pos 1) (y +ℤ pos 0) (x +ℤ pos 1) y refl (omega (arith, ints)))
        (row_walk n (x +ℤ pos 1) u y h s)
  ]
    where
      ways : (x u : ℤ) (n : ℕ) → nat_abs (x -ℤ u) ≡ suc n → (nat_abs (x +ℤ negsuc 0 -ℤ u) ≡ n) ⊎ (nat_abs (x +ℤ pos 1 -ℤ u) ≡ n)
      ways x u n e = by (x -ℤ u) refl
        where
          by : (z : ℤ) → z ≡ x -ℤ u → (nat_abs (x +ℤ negsuc 0 -ℤ u) ≡ n) ⊎ (nat_abs (x +ℤ pos 1 -ℤ u) ≡ n)
          by (pos zero) f = absurd (omega (arith, ints))
          by (pos (suc m)) f = inl (omega (arith, ints))
          by (negsuc m) f = inr (omega (arith, ints))

  column_walk : (n : ℕ) (x y v : ℤ) → nat_abs (y -ℤ v) ≡ n → ((t : ℤ) → S (x, t)) → Connected Beside S (x, y) (x, v)
  column_walk zero x y v e s = subst (λ (p : Place). Connected Beside S (x, y) p) (place_is x y x v refl (omega (arith, ints))) (Connected.here (s y))
  column_walk (suc n) x y v e s = elim (ways y v n e) [
    | inl h ↦ Connected.onward (s y) (0, omega arith, place_is (x +ℤ pos 0) (y +ℤ negsuc 0) x (y +ℤ negsuc 0) (omega (arith, ints)) refl)
        (column_walk n x (y +ℤ negsuc 0) v h s)
    | inr h ↦ Connected.onward (s y) (2, omega arith, place_is (x +ℤ pos 0) (y +ℤ pos 1) x (y +ℤ pos 1) (omega (arith, ints)) refl)
        (column_walk n x (y +ℤ pos 1) v h s)
  ]
    where
      ways : (x u : ℤ) (n : ℕ) → nat_abs (x -ℤ u) ≡ suc n → (nat_abs (x +ℤ negsuc 0 -ℤ u) ≡ n) ⊎ (nat_abs (x +ℤ pos 1 -ℤ u) ≡ n)
      ways x u n e = by (x -ℤ u) refl
        where
          by : (z : ℤ) → z ≡ x -ℤ u → (nat_abs (x +ℤ negsuc 0 -ℤ u) ≡ n) ⊎ (nat_abs (x +ℤ pos 1 -ℤ u) ≡ n)
          by (pos zero) f = absurd (omega (arith, ints))
          by (pos (suc m)) f = inl (omega (arith, ints))
          by (negsuc m) f = inr (omega (arith, ints))

  -- along a row and then along a column
  ell : (x y u v : ℤ) → ((t : ℤ) → S (t, y)) → ((t : ℤ) → S (u, t)) → Connected Beside S (x, y) (u, v)
  ell x y u v r c = joined_to (row_walk (nat_abs (x -ℤ u)) x u y refl r) (column_walk (nat_abs (y -ℤ v)) u y v refl c)

-- ---- out of the box

module _ (X : Picture) (axes : length X.sides ≡ 2) (K : Point → Bool) (part : IsComponent X K) (w h : ℕ) (sides : X.sides ≡ w ∷ h ∷ []) where
  Out : Place → Type 0
  Out p = Complement (IsPoint 2) K (point p)

  out : (p : Place) → (Boxed w h p → ⊥) → Out p
  unfolding Out
  out p n = (
    refl,
    bare_is_none X axes K part p (elim (cases_Bool (held X p)) [
      | inl t ↦ absurd (n (boxed_object X w h sides p t))
      | inr f ↦ f
    ]),
  )

  left_of : (x y : ℤ) → (x +ℤ pos 1) ≤ℤ pos 0 → Out (x, y)
  left_of x y l = out (x, y) (λ b. absurd (omega (arith, ints, b.left)))

  over_it : (x y : ℤ) → (y +ℤ pos 1) ≤ℤ pos 0 → Out (x, y)
  over_it x y l = out (x, y) (λ b. absurd (omega (arith, ints, b.upper)))

  right_of : (x y : ℤ) → pos w ≤ℤ x → Out (x, y)
  right_of x y l = out (x, y) (λ b. absurd (omega (arith, ints, b.right)))

  under_it : (x y : ℤ) → pos h ≤ℤ y → Out (x, y)
  under_it x y l = out (x, y) (λ b. absurd (omega (arith, ints, b.lower)))

  along_row : (x y : ℤ) → ((t : ℤ) → Out (t, y)) → Connected Side (Complement (IsPoint 2) K) (point (x, y)) corner
  unfolding Out
  along_row x y r = path_of_points (Complement (IsPoint 2) K) (ell Out x y (negsuc 0) (negsuc 0) r (λ t. left_of (negsuc 0) t (omega (arith, ints))))

  along_column : (x y : ℤ) → ((t : ℤ) → Out (x, t)) → Connected Side (Complement (IsPoint 2) K) (point (x, y)) corner
  unfolding Out
  along_column x y c = turned_back side_sym
      (path_of_points (Complement (IsPoint 2) K) (ell Out (negsuc 0) (negsuc 0) x y (λ t. over_it t (negsuc 0) (omega (arith, ints))) c))

  -- each place is in the box or reaches the corner
  boxed_or_joined : (x y : ℤ) → Boxed w h (x, y) ⊎ Connected Side (Complement (IsPoint 2) K) (point (x, y)) corner
  boxed_or_joined (negsuc n) y = inr (along_column (negsuc n) y (λ t. left_of (negsuc n) t (omega (arith, ints))))
  boxed_or_joined (pos n) (negsuc m) = inr (along_row (pos n) (negsuc m) (λ t. over_it t (negsuc m) (omega (arith, ints))))
  boxed_or_joined (pos n) (pos m) = elim (cases_lt n w) [
    | inr l ↦ inr (along_column (pos n) (pos m) (λ t. right_of (pos n) t (omega (arith, ints))))
    | inl a ↦ elim (cases_lt m h) [
      | inr l ↦ inr (along_row (pos n) (pos m) (λ t. under_it t (pos m) (omega (arith, ints))))
      | inl b ↦ inl (record { left = omega (arith, ints); right = omega (arith, ints); upper = omega (arith, ints); lower = omega (arith, ints) })
    ]
  ]

  boxed_bounded : (p : Place) → Boxed w h p → (k : ℕ) → nat_abs (coordinate (point p) k) ≤ w + h
  boxed_bounded p b zero = omega (arith, ints, b.left, b.right)
  boxed_bounded p b (suc zero) = omega (arith, ints, b.upper, b.lower)
  boxed_bounded p b (suc (suc k)) = omega (arith, ints)

  enclosed_bounded : (p : Point) → Enclosed (IsPoint 2) K p → IsBounded K p
  enclosed_bounded p e = (w + h, reached)
    where
      reached : (q : Point) → Connected Side (Complement (IsPoint 2) K) p q → (k : ℕ) → nat_abs (coordinate q k) ≤ w + h
      reached q c k =
          let t = two_axes q (ends_in c).0 in
          elim (boxed_or_joined t.0.0 t.0.1) [
            | inl b ↦ subst (λ (r : Point). nat_abs (coordinate r k) ≤ w + h) (sym t.1) (boxed_bounded t.0 b k)
            | inr j ↦ absurd (e.1 (joined_to c (subst (λ (r : Point). Connected Side (Complement (IsPoint 2) K) r corner) (sym t.1) j)))
          ]

  -- the row over the box goes on to the left
  bounded_enclosed : (p : Point) → Complement (IsPoint 2) K p → IsBounded K p → Enclosed (IsPoint 2) K p
  unfolding Out
  bounded_enclosed p y b = (
    y,
    λ c.
        (let far = path_of_points (Complement (IsPoint 2) K)
        (row_walk Out (nat_abs (negsuc 0 -ℤ negsuc b.0)) (negsuc 0) (negsuc b.0) (negsuc 0) refl (λ t. over_it t (negsuc 0) (omega (arith, ints)))) in
        let l = b.1 (point (negsuc b.0, negsuc 0)) (joined_to c far) 0 in
        absurd (omega (arith, ints))),
  )

-- ---- the same components

same_parts : {A : Type 0} (R : A → A → Type 0) (Y Z : A → Type 0) (n : ℕ) → ((a : A) → Y a → Z a) → ((a : A) → Z a → Y a) → HasParts R Y n → HasParts R Z n
same_parts R Y Z n f g (label, p) = (
  label,
  record {
    in_range = λ a z. p.in_range a (g a z);
    used = λ k l m. (let u = p.used k l m in (u.0, f u.0 u.1, u.2));
    adjacent = λ a b y z r. p.adjacent a b (g a y) (g b z) r;
    connected = λ a b y z e. in_greater f (p.connected a b (g a y) (g b z) e);
  },
)

-- the holes of a component are as many as the components of what it encloses
pub bounded_parts : (X : Picture) → length X.sides ≡ 2 → (K : Point → Bool) → IsComponent X K → (n : ℕ) → HasParts Side (Enclosed (IsPoint 2) K) n
    → HasParts Side (InHole K) n
bounded_parts X axes K part n parts =
    let (w, h, e) = two_sides X.sides axes in
    same_parts Side (Enclosed (IsPoint 2) K) (InHole K) n (λ p c. (c.0, enclosed_bounded X axes K part w h e p c))
    (λ p c. bounded_enclosed X axes K part w h e p c.0 c.1) parts
