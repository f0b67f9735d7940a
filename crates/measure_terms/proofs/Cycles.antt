-- What stands on a cycle of cracks is decided, and a crack stands on it exactly where its successor does.
-- A property that goes from each crack to the next holds of all of a cycle or of none.
use Rattle.std.proofs.Common.{◌≡◌, inl, inr, Bool, true, false, refl, sym, ◌∙◌, ap, subst, arith, List, [], ◌∷◌, length}
use Rattle.std.specs.Prelude.{Contains}
use Rattle.std.proofs.lemmas.Bool.{false≢true}
use native.Mathlib.Decide.{ℕ_discrete}
use Rattle.shape_terms.specs.Pictures.{Picture}
use Rattle.shape_terms.specs.Contours.{Crack, IsCrack, successor, Follow, IsCycle}
use Rattle.shape_terms.proofs.PointTests.{same_point}
use Rattle.shape_terms.proofs.Successor.{successor_once}
use Rattle.shape_terms.proofs.SameCycles.{head_in, later_in, in_cases, in_none, reaches, cycle_on}

-- ---- whether a crack stands in a list

same_crack : (c d : Crack) → Dec (c ≡ d)
same_crack c d = elim (same_point c.pixel d.pixel) [
  | yes e ↦ elim (ℕ_discrete c.side d.side) [
    | yes f ↦ yes (λ i. record { pixel = e i; side = f i })
    | no f ↦ no (λ g. f (ap (λ (c : Crack). c.side) g))
  ]
  | no e ↦ no (λ g. e (ap (λ (c : Crack). c.pixel) g))
]

stands : (xs : List Crack) (c : Crack) → Dec (Contains xs c)
stands [] c = no (in_none c)
stands (d ∷ xs) c = elim (same_crack d c) [
  | yes e ↦ yes (0, omega arith, e)
  | no e ↦ elim (stands xs c) [
    | yes i ↦ yes (later_in d xs c i)
    | no i ↦ no (λ j. elim (in_cases d xs c j) [ inl f ↦ e f | inr k ↦ i k ])
  ]
]

abbrev truth : {A : Type 0} → Dec A → Bool
truth (yes a) = true
truth (no n) = false

truth_true : {A : Type 0} (d : Dec A) → A → truth d ≡ true
truth_true (yes a) b = refl
truth_true (no n) b = absurd (n b)

truth_of : {A : Type 0} (d : Dec A) → truth d ≡ true → A
truth_of (yes a) e = a
truth_of (no n) e = absurd (false≢true e)

pub has : List Crack → Crack → Bool
has xs c = truth (stands xs c)

pub has_it : (xs : List Crack) (c : Crack) → Contains xs c → has xs c ≡ true
unfolding has
has_it xs c i = truth_true (stands xs c) i

pub it_has : (xs : List Crack) (c : Crack) → has xs c ≡ true → Contains xs c
unfolding has
it_has xs c e = truth_of (stands xs c) e

pub equal_values : (a b : Bool) → (a ≡ true → b ≡ true) → (b ≡ true → a ≡ true) → a ≡ b
equal_values true b f g = sym (f refl)
equal_values false true f g = g refl
equal_values false false f g = refl

-- ---- cycles

module _ (X : Picture) where
  -- a property that goes on to the successor
  spread : (M : Crack → Type 0) → ((c : Crack) → M c → M (successor X c)) → (f c : Crack) (xs : List Crack) → Follow X f (c ∷ xs) → M c → (x : Crack)
      → Contains (c ∷ xs) x → M x
  spread M on f c [] h m x i = elim (in_cases c [] x i) [ inl e ↦ subst M e m | inr n ↦ absurd (in_none x n) ]
  spread M on f c (d ∷ xs) h m x i = elim (in_cases c (d ∷ xs) x i) [
    | inl e ↦ subst M e m
    | inr n ↦ spread M on f d xs h.1 (subst M h.0 (on c m)) x n
  ]

  pub all_of_cycle : (M : Crack → Type 0) → ((c : Crack) → M c → M (successor X c)) → (xs : List Crack) → IsCycle X xs → (c x : Crack) → Contains xs c
      → Contains xs x → M c → M x
  all_of_cycle M on [] y c x i j m = absurd y
  all_of_cycle M on (d ∷ xs) y c x i j m = spread M on d d xs y.1 (reaches X M on d (d ∷ xs) y.1 c i m) x j

  pub on_cycle : (xs : List Crack) → IsCycle X xs → (c : Crack) → Contains xs c → Contains xs (successor X c)
  on_cycle [] y c i = absurd y
  on_cycle (d ∷ xs) y c i = cycle_on X d xs y c i

  last_one : (f : Crack) (xs : List Crack) → Follow X f xs → (y : Crack) × Contains xs y × (successor X y ≡ f)
  last_one f [] h = absurd h
  last_one f (c ∷ []) h = (c, head_in c [], h)
  last_one f (c ∷ d ∷ xs) h = let r = last_one f (d ∷ xs) h.1 in (r.0, later_in c (d ∷ xs) r.0 r.1, r.2)

  one_before : (f c : Crack) (xs : List Crack) → Follow X f (c ∷ xs) → (x : Crack) → Contains xs x → (y : Crack) × Contains (c ∷ xs) y × (successor X y ≡ x)
  one_before f c [] h x i = absurd (in_none x i)
  one_before f c (d ∷ xs) h x i = elim (in_cases d xs x i) [
    | inl e ↦ (c, head_in c (d ∷ xs), h.0 ∙ e)
    | inr j ↦ (let r = one_before f d xs h.1 x j in (r.0, later_in c (d ∷ xs) r.0 r.1, r.2))
  ]

  -- a crack whose successor is on a cycle is on it
  pub off_cycle : length X.sides ≡ 2 → (xs : List Crack) → IsCycle X xs → ((x : Crack) → Contains xs x → IsCrack X x) → (c : Crack) → IsCrack X c
      → Contains xs (successor X c) → Contains xs c
  off_cycle axes [] y a c k i = absurd y
  off_cycle axes (d ∷ xs) y a c k i =
      let r = elim (in_cases d xs (successor X c) i) as (λ _. (z : Crack) × Contains (d ∷ xs) z × (successor X z ≡ successor X c)) [
        | inl e ↦ (let q = last_one d (d ∷ xs) y.1 in (q.0, q.1, q.2 ∙ e))
        | inr j ↦ one_before d d xs y.1 (successor X c) j
      ] in
      subst (Contains (d ∷ xs)) (successor_once X axes r.0 c (a r.0 r.1) k r.2) r.1
