-- A set has one number of components.
-- Laws over any set and adjacency alone.
use Rattle.std.proofs.Common.{◌≡◌, ℕ, zero, suc, ◌-◌, ◌≤◌, ◌<◌, refl, ◌∙◌, ap, arith, List, [], ◌∷◌, length, map, true, false, eqb, inl, inr}
use Rattle.std.specs.Prelude.{◌⊎◌}
use Rattle.std.specs.List.{AllByRecursion, IsDistinct, list_any}
use Rattle.std.proofs.Math.ListN.{length-map}
use Rattle.std.proofs.lemmas.Map.Steps.{length-le_from_distinct_below}
use Rattle.std.proofs.lemmas.Bool.{eqb-true, or_cases, ne_eqb}
use Rattle.shape_terms.specs.Parts.{Connected, NamesParts, HasParts}
use Rattle.shape_terms.proofs.Paths.{starts_in}

-- a label is the same along a path
pub along_path : {A : Type 0} {R : A → A → Type 0} {Y : A → Type 0} {p q : A} → (f : A → ℕ) → ((x y : A) → Y x → Y y → R x y → f x ≡ f y) → Connected R Y p q
    → f p ≡ f q
along_path f h (Connected.here y) = refl
along_path f h (Connected.onward {p = p} {q = q} y s c) = h p q y (starts_in c) s ∙ along_path f h c

module _ {A : Type 0} (R : A → A → Type 0) (Y : A → Type 0) (n m : ℕ) (f g : A → ℕ) (F : NamesParts R Y n f) (G : NamesParts R Y m g) where
  -- a point of each of the first k parts
  points_upto : (k : ℕ) → k ≤ n → List A
  points_upto zero h = []
  points_upto (suc k) h = (F.used (suc k) (omega arith) h).0 ∷ points_upto k (omega arith)

  length_points : (k : ℕ) (h : k ≤ n) → length (points_upto k h) ≡ k
  unfolding points_upto
  length_points zero h = refl
  length_points (suc k) h = ap suc (length_points k (omega arith))

  in_set : (k : ℕ) (h : k ≤ n) → AllByRecursion (λ x. Y x × (f x ≤ k)) (points_upto k h)
  unfolding points_upto
  in_set zero h = tt
  in_set (suc k) h = (
    ((F.used (suc k) (omega arith) h).1, (omega (arith, (F.used (suc k) (omega arith) h).2))),
    wider (points_upto k (omega arith)) (in_set k (omega arith)),
  )
    where
      wider : (xs : List A) → AllByRecursion (λ x. Y x × (f x ≤ k)) xs → AllByRecursion (λ x. Y x × (f x ≤ suc k)) xs
      wider [] a = tt
      wider (x ∷ xs) a = ((a.0.0, omega (arith, a.0.1)), wider xs a.1)

  -- a point of a later part has another label of the second kind
  fresh : (x : A) → Y x → (k : ℕ) → f x ≡ suc k → (xs : List A) → AllByRecursion (λ y. Y y × (f y ≤ k)) xs
      → AllByRecursion (λ l. eqb (g x - 1) l ≡ false) (map (λ y. g y - 1) xs)
  fresh x yx k e [] a = tt
  fresh x yx k e (y ∷ xs) a = (
    ne_eqb (g x - 1) (g y - 1) (λ q. let c = G.connected x y yx a.0.0 (omega (arith, G.in_range x yx, G.in_range y a.0.0)) in
        let d = along_path f F.adjacent c in omega (arith, a.0.1)),
    fresh x yx k e xs a.1,
  )

  distinct : (k : ℕ) (h : k ≤ n) → IsDistinct eqb (map (λ x. g x - 1) (points_upto k h))
  unfolding points_upto IsDistinct
  distinct zero h = tt
  distinct (suc k) h = (
    fresh (F.used (suc k) (omega arith) h).0 (F.used (suc k) (omega arith) h).1 k (F.used (suc k) (omega arith) h).2 (points_upto k (omega arith))
        (in_set k (omega arith)),
    distinct k (omega arith),
  )

  below : (xs : List A) (k : ℕ) → AllByRecursion (λ x. Y x × (f x ≤ k)) xs → (q : ℕ) → list_any (eqb q) (map (λ x. g x - 1) xs) ≡ true → q < m
  below [] k a q h = cc
  below (x ∷ xs) k a q h = of_cases (or_cases (eqb q (g x - 1)) (list_any (eqb q) (map (λ y. g y - 1) xs)) h) (below xs k a.1 q)
    where
      of_cases : (eqb q (g x - 1) ≡ true) ⊎ (list_any (eqb q) (map (λ y. g y - 1) xs) ≡ true) → (list_any (eqb q) (map (λ y. g y - 1) xs) ≡ true → q < m)
          → q < m
      of_cases (inl e) r = let b = eqb-true q (g x - 1) e in omega (arith, G.in_range x a.0.0)
      of_cases (inr e) r = r e

  no_more_by : (h : n ≤ n) → n ≤ m
  no_more_by h =
      let l : length (points_upto n h) ≡ n = length_points n h in
      let e : length (map (λ x. g x - 1) (points_upto n h)) ≡ length (points_upto n h) = length-map (points_upto n h) (λ x. g x - 1) in
      let b : length (map (λ x. g x - 1) (points_upto n h)) ≤ m = length-le_from_distinct_below (map (λ x. g x - 1) (points_upto n h)) m (distinct n h)
      (below (points_upto n h) n (in_set n h)) in
      omega arith

  no_more : n ≤ m
  no_more = no_more_by (omega arith)

-- the number of components is one
pub one_count : {A : Type 0} (R : A → A → Type 0) (Y : A → Type 0) (n m : ℕ) → HasParts R Y n → HasParts R Y m → n ≡ m
one_count R Y n m (f, F) (g, G) =
    let a = no_more R Y n m f g F G in
    let b = no_more R Y m n g f G F in
    omega arith
