-- The near neighbours of a point are exactly the points Near it, each once.
-- Laws for any number of axes.
use Rattle.std.proofs.Common.{◌≡◌, ℕ, zero, suc, ◌+◌, ◌≤◌, refl, ap, sym, ◌∙◌, subst, arith, List, [], ◌∷◌, length, map, Bool, true, false, cond, inl, inr}
use Rattle.std.proofs.Common.{lit<}
use Rattle.std.specs.Prelude.{◌≢◌, AllPairs, ◌⊎◌, ℤ, pos, negsuc, ◌+ℤ◌, ◌-ℤ◌, nat_abs, Contains, All, filter, not, sum, ◌==◌}
use Rattle.std.specs.List.{AllByRecursion, AllZip, flat_map}
use Rattle.std.proofs.lemmas.Bool.{eqb-true}
use Rattle.std.proofs.lemmas.Int.{ints}
use Rattle.std.proofs.lemmas.List.Sums.{sum_by-cons}
use Rattle.std.proofs.lemmas.List.Elements.{All-from_recursion}
use Rattle.shape_terms.specs.Points.{Point}
use Rattle.shape_terms.specs.Adjacency.{moved, cube_steps, near_steps, near_points, Near}
use Rattle.shape_terms.proofs.ApartLists.{Apart, same_step, apart_pairs}
use Rattle.shape_terms.proofs.Members.{Contains-map, Contains-flat_map, Contains-filter}

sum_abs-cons : (y : ℤ) (v : Point) → sum (map nat_abs (y ∷ v)) ≡ nat_abs y + sum (map nat_abs v)
sum_abs-cons y v = sum_by-cons (λ x. x) (nat_abs y) (map nat_abs v)

-- a step of no length leads nowhere
stays : (p v : Point) → length v ≡ length p → sum (map nat_abs v) ≡ 0 → moved p v ≡ p
stays [] [] l h = refl
stays [] (y ∷ v) l h = absurd (omega arith)
stays (x ∷ p) [] l h = refl
stays (x ∷ p) (y ∷ v) l h =
    let s = sum_abs-cons y v in
    let e : x +ℤ y ≡ x = omega (arith, ints) in
    let r = stays p v (omega arith) (omega arith) in
    λ i. e i ∷ r i

-- and only such a step does
still : (p v : Point) → length v ≡ length p → moved p v ≡ p → sum (map nat_abs v) ≡ 0
still [] [] l e = refl
still [] (y ∷ v) l e = absurd (omega arith)
still (x ∷ p) [] l e = refl
still (x ∷ p) (y ∷ v) l e =
    let s = sum_abs-cons y v in
    let a : x +ℤ y ≡ x = cc in
    let b : moved p v ≡ p = cc in
    let r = still p v (omega arith) b in
    omega (arith, ints)

-- a step of d coordinates, each -1, 0 or 1
IsSmall : ℕ → Point → Type 0
IsSmall d v = (length v ≡ d) × AllByRecursion (λ y. nat_abs y ≤ 1) v

small_cons : (d : ℕ) (y : ℤ) (v : Point) → nat_abs y ≤ 1 → IsSmall d v → IsSmall (suc d) (y ∷ v)
unfolding IsSmall
small_cons d y v h s = (ap suc s.0, (h, s.1))

all_flat : (d : ℕ) (vs : List Point) → AllByRecursion (IsSmall d) vs
    → AllByRecursion (IsSmall (suc d)) (flat_map (λ v. (negsuc 0 ∷ v) ∷ (pos 0 ∷ v) ∷ (pos 1 ∷ v) ∷ []) vs)
all_flat d [] a = tt
all_flat d (v ∷ vs) a = (
  small_cons d (negsuc 0) v (omega (arith, ints)) a.0,
  (small_cons d (pos 0) v (omega (arith, ints)) a.0, (small_cons d (pos 1) v (omega (arith, ints)) a.0, all_flat d vs a.1)),
)

all_cube : (d : ℕ) → AllByRecursion (IsSmall d) (cube_steps d)
unfolding IsSmall
all_cube zero = ((refl, tt), tt)
all_cube (suc d) = all_flat d (cube_steps d) (all_cube d)

-- a small step of some length leads to a point Near the first
near_by_step : (p v : Point) → IsSmall (length p) v → ((sum (map nat_abs v) ≡ 0) → ⊥) → Near p (moved p v)
unfolding IsSmall
near_by_step p v s h = ((λ e. h (still p v s.0 (sym e))), close p v s.0 s.1)
  where
    close : (p v : Point) → length v ≡ length p → AllByRecursion (λ y. nat_abs y ≤ 1) v → AllZip (λ x y. nat_abs (x -ℤ y) ≤ 1) p (moved p v)
    close [] [] l a = tt
    close [] (y ∷ v) l a = absurd (omega arith)
    close (x ∷ p) [] l a = absurd (omega arith)
    close (x ∷ p) (y ∷ v) l a = (omega (arith, ints, a.0), close p v (omega arith) a.1)

not_zero : (n : ℕ) → not (n == 0) ≡ true → (n ≡ 0 → ⊥)
not_zero zero h e = cc
not_zero (suc n) h e = omega arith

some_length : (n : ℕ) → (n ≡ 0 → ⊥) → not (n == 0) ≡ true
some_length n h = by_test (n == 0) refl
  where
    by_test : (t : Bool) → (n == 0) ≡ t → not (n == 0) ≡ true
    by_test true e = absurd (h (eqb-true n 0 e))
    by_test false e = ap not e

all_near : (p : Point) (vs : List Point) → AllByRecursion (IsSmall (length p)) vs
    → AllByRecursion (Near p) (map (moved p) (filter (λ v. not (sum (map nat_abs v) == 0)) vs))
all_near p [] a = tt
all_near p (v ∷ vs) a = by_test (not (sum (map nat_abs v) == 0)) refl (all_near p vs a.1)
  where
    by_test : (b : Bool) → not (sum (map nat_abs v) == 0) ≡ b → AllByRecursion (Near p) (map (moved p) (filter (λ w. not (sum (map nat_abs w) == 0)) vs))
        → AllByRecursion (Near p)
        (map (moved p) (cond b (v ∷ filter (λ w. not (sum (map nat_abs w) == 0)) vs) (filter (λ w. not (sum (map nat_abs w) == 0)) vs)))
    by_test true e r = (near_by_step p v a.0 (not_zero (sum (map nat_abs v)) e), r)
    by_test false e r = r

-- each near neighbour of a point is Near it
pub near_points_near : (p : Point) → All (Near p) (near_points p)
near_points_near p = All-from_recursion (Near p) (near_points p) (all_near p (cube_steps (length p)) (all_cube (length p)))

-- the step from a point to one with coordinates at most 1 away is small
step_to : (p q : Point) → AllZip (λ x y. nat_abs (x -ℤ y) ≤ 1) p q → (v : Point) × Contains (cube_steps (length p)) v × (length v ≡ length p) × (moved p v ≡ q)
step_to [] [] h = ([], (0, lit< tt, refl), refl, refl)
step_to [] (y ∷ q) h = absurd h
step_to (x ∷ p) [] h = absurd h
step_to (x ∷ p) (y ∷ q) h = of_step (step_to p q h.1)
  where
    by_first : (z : ℤ) → nat_abs z ≤ 1 → (z ≡ negsuc 0) ⊎ ((z ≡ pos 0) ⊎ (z ≡ pos 1))
    by_first (pos zero) b = inr (inl refl)
    by_first (pos (suc zero)) b = inr (inr refl)
    by_first (pos (suc (suc n))) b = absurd (omega arith)
    by_first (negsuc zero) b = inl refl
    by_first (negsuc (suc n)) b = absurd (omega arith)

    among : (z : ℤ) (v : Point) → (z ≡ negsuc 0) ⊎ ((z ≡ pos 0) ⊎ (z ≡ pos 1)) → Contains ((negsuc 0 ∷ v) ∷ (pos 0 ∷ v) ∷ (pos 1 ∷ v) ∷ []) (z ∷ v)
    among z v (inl e) = (0, lit< tt, ap (λ w. w ∷ v) (sym e))
    among z v (inr (inl e)) = (1, lit< tt, ap (λ w. w ∷ v) (sym e))
    among z v (inr (inr e)) = (2, lit< tt, ap (λ w. w ∷ v) (sym e))

    of_step : (v : Point) × Contains (cube_steps (length p)) v × (length v ≡ length p) × (moved p v ≡ q)
        → (v : Point) × Contains (cube_steps (suc (length p))) v × (length v ≡ suc (length p)) × (moved (x ∷ p) v ≡ y ∷ q)
    of_step (v, c, l, e) =
        let b : nat_abs (y -ℤ x) ≤ 1 = omega (arith, ints, h.0) in
        let f : x +ℤ (y -ℤ x) ≡ y = omega (arith, ints) in (
          (y -ℤ x) ∷ v,
          Contains-flat_map (λ w. (negsuc 0 ∷ w) ∷ (pos 0 ∷ w) ∷ (pos 1 ∷ w) ∷ []) (cube_steps (length p)) v ((y -ℤ x) ∷ v) c
              (among (y -ℤ x) v (by_first (y -ℤ x) b)),
          ap suc l,
          λ i. f i ∷ e i,
        )

-- each point Near a point is one of its near neighbours
pub near_listed : (p q : Point) → Near p q → Contains (near_points p) q
near_listed p q h = of_step (step_to p q h.1)
  where
    of_step : (v : Point) × Contains (cube_steps (length p)) v × (length v ≡ length p) × (moved p v ≡ q) → Contains (near_points p) q
    of_step (v, c, l, e) =
        let n : sum (map nat_abs v) ≡ 0 → ⊥ = λ z. h.0 (sym (stays p v l z) ∙ e) in
        subst (λ w. Contains (near_points p) w) e
        (Contains-map (moved p) (near_steps (length p)) v
        (Contains-filter (λ w. not (sum (map nat_abs w) == 0)) (cube_steps (length p)) v c (some_length (sum (map nat_abs v)) n)))

-- ---- each of them stands there once

other_tails : (a : ℤ) (v : Point) (vs : List Point) → AllByRecursion (λ w. v ≢ w) vs
    → AllByRecursion (λ u. (a ∷ v) ≢ u) (flat_map (λ w. (negsuc 0 ∷ w) ∷ (pos 0 ∷ w) ∷ (pos 1 ∷ w) ∷ []) vs)
other_tails a v [] h = tt
other_tails a v (w ∷ vs) h =
    ((λ e. h.0 (tail_of (negsuc 0) w e)), ((λ e. h.0 (tail_of (pos 0) w e)), ((λ e. h.0 (tail_of (pos 1) w e)), other_tails a v vs h.1)))
  where
    tail_of : (b : ℤ) (w : Point) → (a ∷ v) ≡ (b ∷ w) → v ≡ w
    tail_of b w e = cc

apart_flat : (vs : List Point) → Apart vs → Apart (flat_map (λ w. (negsuc 0 ∷ w) ∷ (pos 0 ∷ w) ∷ (pos 1 ∷ w) ∷ []) vs)
unfolding Apart
apart_flat [] h = tt
apart_flat (v ∷ vs) h = (
  (heads (negsuc 0) (pos 0) (λ e. cc), (heads (negsuc 0) (pos 1) (λ e. cc), other_tails (negsuc 0) v vs h.0)),
  ((heads (pos 0) (pos 1) (λ e. omega (arith, ints)), other_tails (pos 0) v vs h.0), (other_tails (pos 1) v vs h.0, apart_flat vs h.1)),
)
  where
    heads : (a b : ℤ) → (a ≡ b → ⊥) → (a ∷ v) ≢ (b ∷ v)
    heads a b n e = n cc

apart_cube : (d : ℕ) → Apart (cube_steps d)
unfolding Apart
apart_cube zero = (tt, tt)
apart_cube (suc d) = apart_flat (cube_steps d) (apart_cube d)

apart_near : (p : Point) (vs : List Point) → AllByRecursion (IsSmall (length p)) vs → Apart vs
    → Apart (map (moved p) (filter (λ v. not (sum (map nat_abs v) == 0)) vs))
unfolding Apart IsSmall
apart_near p [] a h = tt
apart_near p (v ∷ vs) a h = by_test (not (sum (map nat_abs v) == 0)) (apart_near p vs a.1 h.1)
  where
    apart_from : (ws : List Point) → AllByRecursion (IsSmall (length p)) ws → AllByRecursion (λ w. v ≢ w) ws
        → AllByRecursion (λ q. moved p v ≢ q) (map (moved p) (filter (λ w. not (sum (map nat_abs w) == 0)) ws))
    apart_from [] b g = tt
    apart_from (w ∷ ws) b g = by_other (not (sum (map nat_abs w) == 0)) (apart_from ws b.1 g.1)
      where
        by_other : (t : Bool) → AllByRecursion (λ q. moved p v ≢ q) (map (moved p) (filter (λ u. not (sum (map nat_abs u) == 0)) ws))
            → AllByRecursion (λ q. moved p v ≢ q)
            (map (moved p) (cond t (w ∷ filter (λ u. not (sum (map nat_abs u) == 0)) ws) (filter (λ u. not (sum (map nat_abs u) == 0)) ws)))
        by_other true r = ((λ e. g.0 (same_step p v w a.0.0 b.0.0 e)), r)
        by_other false r = r

    by_test : (t : Bool) → Apart (map (moved p) (filter (λ w. not (sum (map nat_abs w) == 0)) vs))
        → Apart (map (moved p) (cond t (v ∷ filter (λ w. not (sum (map nat_abs w) == 0)) vs) (filter (λ w. not (sum (map nat_abs w) == 0)) vs)))
    by_test true r = (apart_from vs a.1 h.0, r)
    by_test false r = r

-- each near neighbour of a point is listed once
pub near_points_distinct : (p : Point) → AllPairs (λ x y. x ≢ y) (near_points p)
near_points_distinct p = apart_pairs (near_points p) (apart_near p (cube_steps (length p)) (all_cube (length p)) (apart_cube (length p)))
