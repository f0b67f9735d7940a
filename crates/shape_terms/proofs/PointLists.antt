-- Lists of points no two of which are equal: whether a point is among them, and how many they are.
-- Laws of lists alone; what the points are does not matter here.
use Rattle.std.proofs.Common.{◌≡◌, ◌<◌, ◌≤◌, ap, subst, arith, List, [], ◌∷◌, ◌++◌, length, inl, inr}
use Rattle.std.specs.Prelude.{◌≢◌, AllPairs, Contains}
use Rattle.std.proofs.lemmas.List.{length-append}
use Rattle.std.proofs.lemmas.List.Elements.{All-contains, Contains-append_left, Contains-append_right, Contains-append_cases}
use Rattle.std.proofs.Math.IntN.{ℤ_discrete}
use mathlib.Core.List.{List-discrete}
use Rattle.shape_terms.specs.Points.{Point}
use Rattle.shape_terms.proofs.SameCycles.{head_in, later_in, in_cases, in_none, pairs-head, pairs-tail}

-- a point stands in a list or not
pub is_there : (points : List Point) (p : Point) → Dec (Contains points p)
is_there [] p = no (λ c. in_none p c)
is_there (q ∷ points) p = elim (List-discrete ℤ_discrete q p) [
  | yes e ↦ yes (subst (Contains (q ∷ points)) e (head_in q points))
  | no n ↦ elim (is_there points p) [
    | yes c ↦ yes (later_in q points p c)
    | no m ↦ no (λ c. elim (in_cases q points p c) [ inl e ↦ n e | inr d ↦ m d ])
  ]
]

-- ---- lists of elements no two of which are equal

-- an element of the one list is related to each of the list behind it
pub across : {A : Type 0} (R : A → A → Type 0) (xs ys : List A) (x y : A) → AllPairs R (xs ++ ys) → Contains xs x → Contains ys y → R x y
across R [] ys x y h c d = absurd (in_none x c)
across R (z ∷ xs) ys x y h c d = elim (in_cases z xs x c) [
  | inl e ↦ subst (λ w. R w y) e (All-contains (R z) (xs ++ ys) y (pairs-head R z (xs ++ ys) h) (Contains-append_right xs ys y d))
  | inr m ↦ across R xs ys x y (pairs-tail R z (xs ++ ys) h) m d
]

-- the list without one of its elements
record Without {A : Type 0} (ys : List A) (y : A) : Type 0 where
  before : List A
  after : List A
  is : ys ≡ before ++ y ∷ after

without : {A : Type 0} (ys : List A) (y : A) → Contains ys y → Without ys y
without [] y c = absurd (in_none y c)
without (z ∷ ys) y c = elim (in_cases z ys y c) [
  | inl e ↦ record { before = []; after = ys; is = λ i. e i ∷ ys }
  | inr m ↦ (let r = without ys y m in record { before = z ∷ r.before; after = r.after; is = ap (λ l. z ∷ l) r.is })
]

-- what stands in the list and is another stands in the rest
other_stays : {A : Type 0} (before after : List A) (x y : A) → (y ≡ x → ⊥) → Contains (before ++ y ∷ after) x → Contains (before ++ after) x
other_stays before after x y n c = elim (Contains-append_cases before (y ∷ after) x c) [
  | inl b ↦ Contains-append_left before after x b
  | inr a ↦ elim (in_cases y after x a) [ inl e ↦ absurd (n e) | inr m ↦ Contains-append_right before after x m ]
]

-- elements of a list that are apart are fewer than its elements where one of these is not among them
fewer : {A : Type 0} (xs ys : List A) (y : A) → AllPairs (λ a b. a ≢ b) xs → ((x : A) → Contains xs x → Contains ys x) → Contains ys y → (Contains xs y → ⊥)
    → length xs < length ys
fewer [] ys y once each there out =
    let w = without ys y there in
    omega (arith, ap length w.is, length-append w.before (y ∷ w.after))
fewer (x ∷ xs) ys y once each there out =
    let w = without ys x (each x (head_in x xs)) in
    let more = fewer xs (w.before ++ w.after) y (pairs-tail (λ a b. a ≢ b) x xs once)
    (λ z c. other_stays w.before w.after z x (All-contains (λ b. x ≢ b) xs z (pairs-head (λ a b. a ≢ b) x xs once) c)
    (subst (λ l. Contains l z) w.is (each z (later_in x xs z c))))
    (other_stays w.before w.after y x (λ e. out (subst (Contains (x ∷ xs)) e (head_in x xs))) (subst (λ l. Contains l y) w.is there))
    (λ c. out (later_in x xs y c)) in
    omega (arith, more, ap length w.is, length-append w.before (x ∷ w.after), length-append w.before w.after)

-- elements of a list that are apart are no more than its elements
pub no_more : {A : Type 0} (xs ys : List A) → AllPairs (λ a b. a ≢ b) xs → ((x : A) → Contains xs x → Contains ys x) → length xs ≤ length ys
no_more [] ys once each = omega arith
no_more (x ∷ xs) ys once each =
    let w = without ys x (each x (head_in x xs)) in
    let more = no_more xs (w.before ++ w.after) (pairs-tail (λ a b. a ≢ b) x xs once)
    (λ z c. other_stays w.before w.after z x (All-contains (λ b. x ≢ b) xs z (pairs-head (λ a b. a ≢ b) x xs once) c)
    (subst (λ l. Contains l z) w.is (each z (later_in x xs z c)))) in
    omega (arith, more, ap length w.is, length-append w.before (x ∷ w.after), length-append w.before w.after)

-- as many points of a list as it has, all apart, are all its points
pub all_there : (xs ys : List Point) → AllPairs (λ p q. p ≢ q) xs → ((p : Point) → Contains xs p → Contains ys p) → length xs ≡ length ys → (p : Point)
    → Contains ys p → Contains xs p
all_there xs ys once each same p c = elim (is_there xs p) [
  | yes h ↦ h
  | no n ↦ absurd (let f = fewer xs ys p once each c n in omega (arith, f, same))
]
