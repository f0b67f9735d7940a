-- The contours of a component that begin with a lower side bound its holes, one each; and one more contour begins with an upper side.
-- What is enclosed is a part of what is not in the component, and whole components of it.
use Rattle.std.proofs.Common.{◌≡◌, ◌≢◌, ◌⊎◌, inl, inr, ℕ, suc, ◌+◌, Bool, true, false, cond, refl, ap, subst, arith, List, [], ◌∷◌, length}
use Rattle.std.specs.Prelude.{Contains, AllPairs, filter, ◌==◌}
use Rattle.std.proofs.lemmas.Bool.{cases_Bool, both_ways}
use Rattle.std.proofs.lemmas.Bool.Decides.{nat_tests}
use Rattle.std.proofs.lemmas.List.Elements.{All-contains, All-filter, filter_passes}
use Rattle.shape_terms.specs.Points.{Point}
use Rattle.shape_terms.specs.Adjacency.{Side}
use Rattle.shape_terms.specs.Pictures.{Picture}
use Rattle.shape_terms.specs.Contours.{Crack, AreCycles, first_of_cycle}
use Rattle.shape_terms.specs.Parts.{Connected, HasParts}
use Rattle.shape_terms.proofs.AdjacencySymmetric.{side_sym}
use Rattle.shape_terms.proofs.Found.{All-each}
use Rattle.shape_terms.proofs.Members.{Contains-filter}
use Rattle.shape_terms.proofs.Paths.{joined_to, turned_back, in_greater}
use Rattle.shape_terms.proofs.SameCycles.{pairs-head, pairs-tail, head_in, later_in, in_cases, in_none}
use Rattle.shape_terms.proofs.Successor.{Place, point, held, placed}
use Rattle.measure_terms.specs.ComponentContours.{IsComponent, Complement, over, contours_of, BoundComponents}
use Rattle.measure_terms.specs.Holes.{corner, Enclosed, begins_low, inner_contours}
use Rattle.measure_terms.proofs.Around.{HasAround}
use Rattle.measure_terms.proofs.Reaching.{IsWide}
use Rattle.measure_terms.proofs.OneContour.{cycle_of, is_cycle, is_crack, first_in}
use Rattle.measure_terms.proofs.FirstCrack.{first_level}
use Rattle.measure_terms.proofs.ContoursBound.{contours_bound}
use Rattle.measure_terms.proofs.OuterContour.{low_apart, high_joined}
use Rattle.measure_terms.proofs.Counting.{as_many}
use Rattle.measure_terms.proofs.ManyContours.{pairs_filter, contours_once, contour_crack}

-- ---- lists of which one element fails a test

-- no element fails
all_pass : {A : Type 0} (p : A → Bool) (xs : List A) → ((x : A) → Contains xs x → p x ≡ true) → length (filter p xs) ≡ length xs
all_pass p [] h = refl
all_pass p (x ∷ xs) h = rw (h x (head_in x xs)) (ap suc (all_pass p xs (λ y i. h y (later_in x xs y i))))

kept : {A : Type 0} (b : Bool) (x : A) (xs : List A) → b ≡ true → length (cond b (x ∷ xs) xs) ≡ suc (length xs)
kept b x xs e = rw e refl

passed : {A : Type 0} (b : Bool) (x : A) (xs : List A) → b ≡ false → length (cond b (x ∷ xs) xs) ≡ length xs
passed b x xs e = rw e refl

-- one does, and no two
one_fails : {A : Type 0} (p : A → Bool) (xs : List A) → AllPairs (λ x y. x ≢ y) xs
    → ((x y : A) → Contains xs x → Contains xs y → p x ≡ false → p y ≡ false → x ≡ y)
    → (z : A) → Contains xs z → p z ≡ false → length xs ≡ 1 + length (filter p xs)
one_fails p [] once same z i f = absurd (in_none z i)
one_fails p (x ∷ xs) once same z i f = elim (cases_Bool (p x)) [
  | inr n ↦ (let rest = all_pass p xs (λ y j. elim (cases_Bool (p y)) [
    | inl t ↦ t
    | inr g ↦ absurd (All-contains (λ y. x ≢ y) xs y (pairs-head (λ x y. x ≢ y) x xs once) j (same x y (head_in x xs) (later_in x xs y j) n g))
  ]) in
      let e = passed (p x) x (filter p xs) n in
      omega arith)
  | inl t ↦ elim (in_cases x xs z i) [
    | inl e ↦ absurd (both_ways (p z) f (subst (λ y. p y ≡ true) e t))
    | inr j ↦ (let rest = one_fails p xs (pairs-tail (λ x y. x ≢ y) x xs once) (λ u v k l. same u v (later_in x xs u k) (later_in x xs v l)) z j f in
        let e = kept (p x) x (filter p xs) t in
        omega arith)
  ]
]

-- ---- what stands in a filtered list

of_filter : {A : Type 0} (p : A → Bool) (xs : List A) (x : A) → Contains (filter p xs) x → Contains xs x × (p x ≡ true)
of_filter p xs x i = (
  All-contains (Contains xs) (filter p xs) x (All-filter p (Contains xs) xs (All-each (Contains xs) xs (λ x j. j))) i,
  All-contains (λ x. p x ≡ true) (filter p xs) x (filter_passes p xs) i,
)

is_two : (n : ℕ) → (n == 2) ≡ true → n ≡ 2
is_two n e = grind (arith, nat_tests)

two_is : (n : ℕ) → n ≡ 2 → (n == 2) ≡ true
two_is n e = grind (arith, nat_tests)

zero_is_not : (n : ℕ) → n ≡ 0 → (n == 2) ≡ false
zero_is_not n e = grind (arith, nat_tests)

module _ (F : Point → Type 0) (flat : (p : Point) → F p → length p ≡ 2) (X : Picture) (axes : length X.sides ≡ 2)
    (around : HasAround (λ (p : Place). F (point p)) (held X)) (wide : IsWide (λ (p : Place). F (point p)))
    (K : Point → Bool) (part : IsComponent X K) (cycles : List (List Crack)) (are : AreCycles X cycles)
    (seed : F part.some.0) (far : Complement F K corner) where
  bounds : BoundComponents (contours_of K cycles) (Complement F K)
  bounds = contours_bound F flat X axes around wide K part cycles are seed

  -- a contour begins with an upper or with a lower side
  pub level : (xs : List Crack) → Contains (contours_of K cycles) xs → ((first_of_cycle xs).side ≡ 0) ⊎ ((first_of_cycle xs).side ≡ 2)
  level xs i =
      let k = is_crack X axes K part cycles are xs (cycle_of X axes K part cycles are xs i) (first_of_cycle xs)
      (first_in X axes K part cycles are xs (is_cycle X axes K part cycles are xs i)) in
      first_level X axes K part cycles are xs i (placed X axes (first_of_cycle xs) k)

  begins_in : (xs : List Crack) → Contains (contours_of K cycles) xs → Contains xs (first_of_cycle xs)
  begins_in xs i = first_in X axes K part cycles are xs (is_cycle X axes K part cycles are xs i)

  -- over all cracks of a contour that begins with an upper side the corner is reached, and over none of one that begins with a lower side
  reaches_corner : (xs : List Crack) → Contains (contours_of K cycles) xs → (first_of_cycle xs).side ≡ 0 → (c : Crack) → Contains xs c
      → Connected Side (Complement F K) (over c) corner
  reaches_corner xs i e c j =
      joined_to (bounds.along xs i c (first_of_cycle xs) j (begins_in xs i)) (high_joined F flat X axes around wide K part cycles are xs i seed far e)

  not_corner : (xs : List Crack) → Contains (contours_of K cycles) xs → (first_of_cycle xs).side ≡ 2 → (c : Crack) → Contains xs c
      → Connected Side (Complement F K) (over c) corner → ⊥
  not_corner xs i e c j p =
      low_apart F flat X axes around wide K part cycles are xs i e (joined_to (bounds.along xs i (first_of_cycle xs) c (begins_in xs i) j) p)

  -- ---- the contours of holes

  enclosed_path : {p q : Point} → Connected Side (Complement F K) p q → (Connected Side (Complement F K) p corner → ⊥) → Connected Side (Enclosed F K) p q
  enclosed_path (Connected.here y) n = Connected.here (y, n)
  enclosed_path (Connected.onward y s c) n = Connected.onward (y, n) s (enclosed_path c (λ d. n (Connected.onward y s d)))

  hole_is : (xs : List Crack) → Contains (inner_contours K cycles) xs → Contains (contours_of K cycles) xs × ((first_of_cycle xs).side ≡ 2)
  hole_is xs i = let r = of_filter begins_low (contours_of K cycles) xs i in (r.0, is_two (first_of_cycle xs).side r.1)

  pub holes_bound : BoundComponents (inner_contours K cycles) (Enclosed F K)
  holes_bound = record {
    along = λ xs i c d j l. (let r = hole_is xs i in enclosed_path (bounds.along xs r.0 c d j l) (not_corner xs r.0 r.1 c j));
    apart = λ xs ys i j c d k l p. bounds.apart xs ys (hole_is xs i).0 (hole_is ys j).0 c d k l (in_greater (λ r y. y.0) p);
    each = λ q y. (let t = bounds.each q y.0 in
        let low : (first_of_cycle t.0).side ≡ 2 = elim (level t.0 t.1) [
          | inl z ↦ absurd (y.1 (joined_to t.2.2 (reaches_corner t.0 t.1 z t.2.0 t.2.1)))
          | inr w ↦ w
        ] in
        (t.0, Contains-filter begins_low (contours_of K cycles) t.0 t.1 (two_is (first_of_cycle t.0).side low), (t.2.0, t.2.1, enclosed_path t.2.2 y.1)));
  }

  -- ---- how many

  module _ (decided : (p : Point) → Dec (Complement F K p)) where
    is_enclosed : (p : Point) → Dec (Enclosed F K p)
    is_enclosed p = elim (decided p) [
      | no n ↦ no (λ h. n h.0)
      | yes y ↦ (let t = bounds.each p y in elim (level t.0 t.1) [
        | inl z ↦ no (λ h. h.1 (joined_to t.2.2 (reaches_corner t.0 t.1 z t.2.0 t.2.1)))
        | inr w ↦ yes (y, λ c. not_corner t.0 t.1 w t.2.0 t.2.1 (joined_to (turned_back side_sym t.2.2) c))
      ])
    ]

    pub as_many_holes : HasParts Side (Enclosed F K) (length (inner_contours K cycles))
    as_many_holes = as_many (inner_contours K cycles) (Enclosed F K) is_enclosed holes_bound
        (pairs_filter (λ x y. x ≢ y) begins_low (contours_of K cycles) (contours_once X K cycles are))
        (λ xs i. contour_crack X K cycles are xs (hole_is xs i).0)

  high_is : (xs : List Crack) → Contains (contours_of K cycles) xs → begins_low xs ≡ false → (first_of_cycle xs).side ≡ 0
  high_is xs i f = elim (level xs i) [
    | inl z ↦ z
    | inr w ↦ absurd (both_ways (begins_low xs) f (two_is (first_of_cycle xs).side w))
  ]

  pub one_more : length (contours_of K cycles) ≡ 1 + length (inner_contours K cycles)
  one_more =
      let t = bounds.each corner far in
      let high : (first_of_cycle t.0).side ≡ 0 = elim (level t.0 t.1) [
        | inl z ↦ z
        | inr w ↦ absurd (not_corner t.0 t.1 w t.2.0 t.2.1 (turned_back side_sym t.2.2))
      ] in
      one_fails begins_low (contours_of K cycles) (contours_once X K cycles are)
      (λ xs ys i j f g. let c = first_of_cycle xs in let d = first_of_cycle ys in
      bounds.apart xs ys i j c d (begins_in xs i) (begins_in ys j)
      (joined_to (reaches_corner xs i (high_is xs i f) c (begins_in xs i)) (turned_back side_sym (reaches_corner ys j (high_is ys j g) d (begins_in ys j)))))
      t.0 t.1 (zero_is_not (first_of_cycle t.0).side high)
