-- A set of cells has one alternating sum, so a set of points has one Euler number: two lists of a set have as many cells of each kind.
-- Lists and sets alone; how a number is found is not told here.
use Rattle.std.proofs.Common.{◌≡◌, ◌⊎◌, inl, inr, ℕ, suc, ◌+◌, ◌≤◌, Bool, List, [], ◌∷◌, sym, ap, ◌∙◌, arith}
use Rattle.std.specs.Prelude.{ℤ, pos, ◌-ℤ◌, ◌≢◌, ◌==◌, AllPairs, Contains, count_by, cond}
use Rattle.std.proofs.lemmas.List.Elements.{All-contains}
use Rattle.std.proofs.lemmas.List.Sums.{sum_by-cons}
use Rattle.shape_terms.specs.Points.{Point}
use Rattle.shape_terms.proofs.SameCycles.{head_in, later_in, in_cases}
use Rattle.measure_terms.specs.Cells.{IsAlternatingSum, IsCell, IsEulerNumber, cells_of, dimension}

-- ---- two lists with the same elements

-- the second list is the first without one place of an element
record Without {A : Type 0} (f : A → Bool) (x : A) (xs ys : List A) : Type 0 where
  count : count_by f xs ≡ cond (f x) 1 0 + count_by f ys
  others : (y : A) → Contains xs y → (x ≡ y) ⊎ Contains ys y

count-cons : {A : Type 0} (f : A → Bool) (x : A) (xs : List A) → count_by f (x ∷ xs) ≡ cond (f x) 1 0 + count_by f xs
count-cons f x xs = sum_by-cons (λ y. cond (f y) 1 0) x xs

take_out : {A : Type 0} (f : A → Bool) (x : A) (xs : List A) → Contains xs x → (ys : List A) × Without f x xs ys
take_out f x [] c = absurd (let l = c.1 in omega (arith, l))
take_out f x (z ∷ xs) c = elim (in_cases z xs x c) [
  | inl e ↦ (
    xs,
    record {
      count = count-cons f z xs ∙ ap (λ y. cond (f y) 1 0 + count_by f xs) e;
      others = λ y d. elim (in_cases z xs y d) [ inl g ↦ inl (sym e ∙ g) | inr h ↦ inr h ];
    },
  )
  | inr d ↦ (
      let r = take_out f x xs d in
      let n = r.1.count in
      let a = count-cons f z xs in
      let b = count-cons f z r.0 in (
        z ∷ r.0,
        record {
          count = omega (arith, n, a, b);
          others = λ y m. elim (in_cases z xs y m) [
            | inl g ↦ inr (let h = head_in z r.0 in (0, omega arith, g))
            | inr h ↦ elim (r.1.others y h) [ inl g ↦ inl g | inr k ↦ inr (later_in z r.0 y k) ]
          ];
        },
      ))
]

pub front_apart : {A : Type 0} (x : A) (xs : List A) → AllPairs (λ b c. b ≢ c) (x ∷ xs) → (y : A) → Contains xs y → x ≡ y → ⊥
front_apart x xs a y c e = let l = c.1 in a 0 (suc c.0) y (omega arith) (omega (arith, l)) (e ∙ sym c.2)

-- a list without repetition whose elements are all in another has no more of a kind
pub no_more_of : {A : Type 0} (f : A → Bool) (xs ys : List A) → AllPairs (λ b c. b ≢ c) xs → ((x : A) → Contains xs x → Contains ys x)
    → count_by f xs ≤ count_by f ys
no_more_of f [] ys a h = omega arith
no_more_of f (x ∷ xs) ys a h =
    let t = take_out f x ys (h x (head_in x xs)) in
    let rest = no_more_of f xs t.0 (λ i j d l m. a (suc i) (suc j) d (omega (arith, l)) (omega (arith, m)))
    (λ y c. elim (t.1.others y (h y (later_in x xs y c))) [ inl e ↦ absurd (front_apart x xs a y c e) | inr d ↦ d ]) in
    let n = t.1.count in
    let m = count-cons f x xs in
    omega (arith, rest, n, m)

-- ---- one sum

module _ (T : Point → Type 0) (n m : ℤ) (h : IsAlternatingSum T n) (k : IsAlternatingSum T m) where
  same_count : (d : ℕ) → cells_of d h.cells ≡ cells_of d k.cells
  same_count d =
      let a = no_more_of (λ c. dimension c == d) h.cells k.cells h.once (λ c i. k.all c (All-contains T h.cells c h.only i)) in
      let b = no_more_of (λ c. dimension c == d) k.cells h.cells k.once (λ c i. h.all c (All-contains T k.cells c k.only i)) in
      omega (arith, a, b)

  pub one_sum : n ≡ m
  one_sum = h.sum ∙ (λ i. pos (same_count 0 i + same_count 2 i) -ℤ pos (same_count 1 i + same_count 3 i)) ∙ sym k.sum

-- a set of points has one Euler number
pub euler_once : (S : Point → Type 0) (n m : ℤ) → IsEulerNumber S n → IsEulerNumber S m → n ≡ m
euler_once S n m h k = one_sum (IsCell S) n m h k
