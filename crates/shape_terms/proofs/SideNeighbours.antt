-- The side neighbours of a point are exactly its Side points, each once.
-- Laws for any number of axes.
use Rattle.std.proofs.Common.{◌≡◌, ℕ, zero, suc, ◌+◌, ◌≤◌, ◌<◌, refl, ap, sym, ◌∙◌, subst, arith, [], ◌∷◌, length, map, inl, inr, lit<, List}
use Rattle.std.specs.Prelude.{◌≢◌, AllPairs, ◌⊎◌, ℤ, pos, negsuc, ◌+ℤ◌, ◌-ℤ◌, nat_abs, Contains, All}
use Rattle.std.specs.List.{AllZip, AllByRecursion, range_with_len, flat_map}
use Rattle.std.proofs.lemmas.Int.{ints}
use Rattle.std.proofs.lemmas.List.Sums.{sum_by-cons}
use Rattle.std.proofs.lemmas.List.Elements.{All-from_recursion}
use Rattle.shape_terms.specs.Points.{Point, coordinate, axis_distances}
use Rattle.shape_terms.specs.Adjacency.{moved, along, origin, city_distance, side_steps, side_points, Near, Side}
use native.Mathlib.Decide.{ℕ_discrete}
use Rattle.shape_terms.proofs.ApartLists.{Apart, apart_points, apart_pairs}
use Rattle.shape_terms.proofs.Members.{Contains-map, Contains-flat_map, Contains-range}
use Rattle.shape_terms.proofs.ShiftedSteps.{length-origin, moved-origin}

-- ---- distances

pub city-cons : (x y : ℤ) (p q : Point) → city_distance (x ∷ p) (y ∷ q) ≡ nat_abs (x -ℤ y) + city_distance p q
city-cons x y p q = sum_by-cons (λ g. g) (nat_abs (x -ℤ y)) (axis_distances p q)

pub no_step : (u : Point) → moved u [] ≡ u
no_step [] = refl
no_step (x ∷ u) = refl

stays : (p : Point) → moved p (moved (origin (length p)) []) ≡ p
stays p = ap (moved p) (no_step (origin (length p))) ∙ moved-origin p

pub none_apart : (p : Point) → city_distance p p ≡ 0
none_apart [] = refl
none_apart (x ∷ p) = let s = city-cons x x p p in let r = none_apart p in omega (arith, ints)

pub same_place : (p q : Point) → length p ≡ length q → city_distance p q ≡ 0 → p ≡ q
same_place [] [] l h = refl
same_place [] (y ∷ q) l h = absurd (omega arith)
same_place (x ∷ p) [] l h = absurd (omega arith)
same_place (x ∷ p) (y ∷ q) l h =
    let s = city-cons x y p q in
    let e : x ≡ y = omega (arith, ints) in
    let r = same_place p q (omega arith) (omega arith) in
    λ i. e i ∷ r i

-- the point n steps along the axis k
abbrev beside : Point → ℕ → ℤ → Point
beside p k n = moved p (moved (origin (length p)) (along k n))

beside_side : (p : Point) (k : ℕ) (n : ℤ) → k < length p → nat_abs n ≡ 1 → Side p (beside p k n)
beside_side [] k n h a = absurd (omega arith)
beside_side (x ∷ p) zero n h a =
    let o = stays p in
    let l = ap length o in
    let s = city-cons x (x +ℤ (pos 0 +ℤ n)) p (moved p (moved (origin (length p)) [])) in
    let z : city_distance p (moved p (moved (origin (length p)) [])) ≡ 0 = ap (city_distance p) o ∙ none_apart p in
    (omega arith, omega (arith, ints))
beside_side (x ∷ p) (suc k) n h a =
    let r = beside_side p k n (omega arith) a in
    let s = city-cons x (x +ℤ (pos 0 +ℤ pos 0)) p (beside p k n) in
    (ap suc r.0, omega (arith, ints, r.1))

all_from : (p : Point) (a n : ℕ) → a + n ≤ length p
    → AllByRecursion (Side p)
    (map (moved p) (flat_map (λ k. moved (origin (length p)) (along k (negsuc 0)) ∷ moved (origin (length p)) (along k (pos 1)) ∷ []) (range_with_len a n)))
all_from p a zero h = tt
all_from p a (suc n) h = (beside_side p a (negsuc 0) (omega arith) refl, (beside_side p a (pos 1) (omega arith) refl, all_from p (a + 1) n (omega arith)))

-- each side neighbour of a point is a Side point of it
pub side_points_side : (p : Point) → All (Side p) (side_points p)
side_points_side p = All-from_recursion (Side p) (side_points p) (all_from p 0 (length p) (omega arith))

unit_sign : (z : ℤ) → nat_abs z ≡ 1 → (z ≡ negsuc 0) ⊎ (z ≡ pos 1)
unit_sign (pos zero) h = absurd (omega arith)
unit_sign (pos (suc zero)) h = inr refl
unit_sign (pos (suc (suc n))) h = absurd (omega arith)
unit_sign (negsuc zero) h = inl refl
unit_sign (negsuc (suc n)) h = absurd (omega arith)

split_one : (a b : ℕ) → a + b ≡ 1 → ((a ≡ 1) × (b ≡ 0)) ⊎ ((a ≡ 0) × (b ≡ 1))
split_one zero b h = inr (refl, omega arith)
split_one (suc a) b h = inl (omega arith, omega arith)

axis_of : (p q : Point) → Side p q → (k : ℕ) × (n : ℤ) × (k < length p) × (nat_abs n ≡ 1) × (beside p k n ≡ q)
axis_of [] [] h = absurd (omega (arith, h.1))
axis_of [] (y ∷ q) h = absurd (omega (arith, h.0))
axis_of (x ∷ p) [] h = absurd (omega (arith, h.0))
axis_of (x ∷ p) (y ∷ q) h = by_split (λ s. axis_of p q s) (split_one (nat_abs (x -ℤ y)) (city_distance p q) (sym (city-cons x y p q) ∙ h.1))
  where
    of_rest : x ≡ y → (k : ℕ) × (n : ℤ) × (k < length p) × (nat_abs n ≡ 1) × (beside p k n ≡ q)
        → (k : ℕ) × (n : ℤ) × (k < suc (length p)) × (nat_abs n ≡ 1) × (beside (x ∷ p) k n ≡ y ∷ q)
    of_rest e (k, n, b, a, f) =
        let g : x +ℤ (pos 0 +ℤ pos 0) ≡ y = omega (arith, ints) in
        (suc k, n, omega arith, a, λ i. g i ∷ f i)

    by_split : (Side p q → (k : ℕ) × (n : ℤ) × (k < length p) × (nat_abs n ≡ 1) × (beside p k n ≡ q)) → ((nat_abs (x -ℤ y) ≡ 1) × (city_distance p q ≡ 0))
        ⊎ ((nat_abs (x -ℤ y) ≡ 0) × (city_distance p q ≡ 1))
        → (k : ℕ) × (n : ℤ) × (k < suc (length p)) × (nat_abs n ≡ 1) × (beside (x ∷ p) k n ≡ y ∷ q)
    by_split r (inl e) =
        let a : nat_abs (y -ℤ x) ≡ 1 = omega (arith, ints, e.0) in
        let g : x +ℤ (pos 0 +ℤ (y -ℤ x)) ≡ y = omega (arith, ints) in
        let l : length p ≡ length q = omega (arith, h.0) in
        let f : moved p (moved (origin (length p)) []) ≡ q = stays p ∙ same_place p q l e.1 in
        (0, y -ℤ x, omega arith, a, λ i. g i ∷ f i)
    by_split r (inr e) =
        let g : x ≡ y = omega (arith, ints, e.0) in
        let l : length p ≡ length q = omega (arith, h.0) in
        of_rest g (r (l, e.1))

-- each Side point of a point is one of its side neighbours
pub side_listed : (p q : Point) → Side p q → Contains (side_points p) q
side_listed p q h = of_axis (axis_of p q h)
  where
    among : (k : ℕ) (n : ℤ) → (n ≡ negsuc 0) ⊎ (n ≡ pos 1)
        → Contains (moved (origin (length p)) (along k (negsuc 0)) ∷ moved (origin (length p)) (along k (pos 1)) ∷ []) (moved (origin (length p)) (along k n))
    among k n (inl e) = (0, lit< tt, ap (λ m. moved (origin (length p)) (along k m)) (sym e))
    among k n (inr e) = (1, lit< tt, ap (λ m. moved (origin (length p)) (along k m)) (sym e))

    of_axis : (k : ℕ) × (n : ℤ) × (k < length p) × (nat_abs n ≡ 1) × (beside p k n ≡ q) → Contains (side_points p) q
    of_axis (k, n, b, a, e) =
        subst (λ w. Contains (side_points p) w) e (Contains-map (moved p) (side_steps (length p)) (moved (origin (length p)) (along k n))
        (Contains-flat_map (λ j. moved (origin (length p)) (along j (negsuc 0)) ∷ moved (origin (length p)) (along j (pos 1)) ∷ [])
        (range_with_len 0 (length p)) k (moved (origin (length p)) (along k n))
        (Contains-range (length p) k b) (among k n (unit_sign n a))))

-- ---- each of them stands there once

step_here : (d k : ℕ) (n : ℤ) → k < d → coordinate (moved (origin d) (along k n)) k ≡ n
step_here zero k n h = absurd (omega arith)
step_here (suc d) zero n h = omega (arith, ints)
step_here (suc d) (suc k) n h = step_here d k n (omega arith)

step_elsewhere : (d j k : ℕ) (n : ℤ) → j ≢ k → coordinate (moved (origin d) (along k n)) j ≡ pos 0
step_elsewhere zero zero zero n h = absurd (h refl)
step_elsewhere zero (suc j) zero n h = refl
step_elsewhere zero zero (suc k) n h = refl
step_elsewhere zero (suc j) (suc k) n h = still_zero j k n (λ e. h (ap suc e))
  where
    still_zero : (j k : ℕ) (n : ℤ) → j ≢ k → coordinate (along k n) j ≡ pos 0
    still_zero zero zero n h = absurd (h refl)
    still_zero (suc j) zero n h = refl
    still_zero zero (suc k) n h = refl
    still_zero (suc j) (suc k) n h = still_zero j k n (λ e. h (ap suc e))
step_elsewhere (suc d) zero zero n h = absurd (h refl)
step_elsewhere (suc d) (suc j) zero n h = rw (no_step (origin d)) (origin_zero d j)
  where
    origin_zero : (d j : ℕ) → coordinate (origin d) j ≡ pos 0
    origin_zero zero j = refl
    origin_zero (suc d) zero = refl
    origin_zero (suc d) (suc j) = origin_zero d j
step_elsewhere (suc d) zero (suc k) n h = refl
step_elsewhere (suc d) (suc j) (suc k) n h = step_elsewhere d j k n (λ e. h (ap suc e))

-- steps along two axes, and to two sides of one, differ
other_step : (d j k : ℕ) (n m : ℤ) → j < d → k < d → (n ≡ pos 0 → ⊥) → (j ≡ k → n ≡ m → ⊥) → moved (origin d) (along j n) ≢ moved (origin d) (along k m)
other_step d j k n m l r some other e = elim (ℕ_discrete j k) [
  | yes i ↦ (
      let a = step_here d j n l in
      let b = step_here d k m r in
      let c : coordinate (moved (origin d) (along j n)) j ≡ coordinate (moved (origin d) (along k m)) k = ap (λ (v : Point). coordinate v j) e
      ∙ ap (coordinate (moved (origin d) (along k m))) i in
      other i (sym a ∙ (c ∙ b)))
  | no i ↦ (
      let a = step_here d j n l in
      let b = step_elsewhere d j k m i in
      let c : coordinate (moved (origin d) (along j n)) j ≡ coordinate (moved (origin d) (along k m)) j = ap (λ (v : Point). coordinate v j) e in
      some (sym a ∙ (c ∙ b)))
]

axis_steps : ℕ → ℕ → List Point
axis_steps d k = moved (origin d) (along k (negsuc 0)) ∷ moved (origin d) (along k (pos 1)) ∷ []

later_steps : (d j : ℕ) (n : ℤ) → j < d → (n ≡ pos 0 → ⊥) → (a m : ℕ) → j < a → a + m ≤ d
    → AllByRecursion (λ y. moved (origin d) (along j n) ≢ y) (flat_map (axis_steps d) (range_with_len a m))
unfolding axis_steps
later_steps d j n l some a zero h b = tt
later_steps d j n l some a (suc m) h b = (
  other_step d j a n (negsuc 0) l (omega arith) some (λ e. absurd (omega arith)),
  (other_step d j a n (pos 1) l (omega arith) some (λ e. absurd (omega arith)), later_steps d j n l some (a + 1) m (omega arith) (omega arith)),
)

apart_steps : (d a m : ℕ) → a + m ≤ d → Apart (flat_map (axis_steps d) (range_with_len a m))
unfolding axis_steps Apart
apart_steps d a zero h = tt
apart_steps d a (suc m) h = (
  (
    other_step d a a (negsuc 0) (pos 1) (omega arith) (omega arith) below (λ i e. sides e),
    later_steps d a (negsuc 0) (omega arith) below (a + 1) m
        (omega arith) (omega arith),
  ),
  (later_steps d a (pos 1) (omega arith) above (a + 1) m (omega arith) (omega arith), apart_steps d (a + 1) m (omega arith)),
)
  where
    below : negsuc 0 ≡ pos 0 → ⊥
    below e = cc

    above : pos 1 ≡ pos 0 → ⊥
    above e = omega (arith, ints)

    sides : negsuc 0 ≡ pos 1 → ⊥
    sides e = cc

length_step : (d k : ℕ) (n : ℤ) → k < d → length (moved (origin d) (along k n)) ≡ d
length_step zero k n h = absurd (omega arith)
length_step (suc d) zero n h = ap suc (ap length (no_step (origin d)) ∙ length-origin d)
length_step (suc d) (suc k) n h = ap suc (length_step d k n (omega arith))

step_lengths : (d a m : ℕ) → a + m ≤ d → AllByRecursion (λ v. length v ≡ d) (flat_map (axis_steps d) (range_with_len a m))
unfolding axis_steps
step_lengths d a zero h = tt
step_lengths d a (suc m) h = (length_step d a (negsuc 0) (omega arith), (length_step d a (pos 1) (omega arith), step_lengths d (a + 1) m (omega arith)))

-- each side neighbour of a point is listed once
pub side_points_distinct : (p : Point) → AllPairs (λ x y. x ≢ y) (side_points p)
unfolding axis_steps
side_points_distinct p =
    apart_pairs (side_points p)
    (apart_points p (side_steps (length p)) (step_lengths (length p) 0 (length p) (omega arith)) (apart_steps (length p) 0 (length p) (omega arith)))

-- ---- a side neighbour is near

close_by : (p q : Point) → length p ≡ length q → city_distance p q ≤ 1 → AllZip (λ x y. nat_abs (x -ℤ y) ≤ 1) p q
close_by [] [] l h = tt
close_by [] (y ∷ q) l h = absurd (omega arith)
close_by (x ∷ p) [] l h = absurd (omega arith)
close_by (x ∷ p) (y ∷ q) l h = let s = city-cons x y p q in (omega arith, close_by p q (omega arith) (omega arith))

pub side_is_near : (p q : Point) → Side p q → Near p q
side_is_near p q h = (
  (λ e. let a : city_distance p q ≡ 0 = ap (city_distance p) (sym e) ∙ none_apart p in let b = h.1 in omega arith),
  close_by p q h.0 (let b = h.1 in omega arith),
)
