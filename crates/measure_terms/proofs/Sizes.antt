-- Sizes of sets: of the same set, of a set with one element more, of two sets together, of an image; and that a set has one.
-- Sets alone.
use Rattle.std.proofs.Common.{◌≡◌, ◌≢◌, ◌⊎◌, inl, inr, ℕ, suc, ◌+◌, true, List, [], ◌∷◌, length, map, get_or, subst, sym, ap, ◌∙◌, arith, refl, add-zero}
use Rattle.std.specs.Prelude.{AllPairs, Contains, count_by}
use Rattle.std.proofs.lemmas.List.{get_or-map, length-map}
use Rattle.std.proofs.lemmas.List.Elements.{All-cons, All-weaker, All-contains, All-map}
use Rattle.std.proofs.lemmas.List.Sums.{sum_by-cons}
use Rattle.shape_terms.proofs.SameCycles.{head_in, later_in, in_cases}
use Rattle.measure_terms.specs.Crossings.{IsSizeOf}
use Rattle.measure_terms.proofs.CellSums.{apart_cons}
use Rattle.measure_terms.proofs.CellsOnce.{no_more_of, front_apart}

pub same_size : {A : Type 0} (S T : A → Type 0) (n : ℕ) → ((x : A) → S x → T x) → ((x : A) → T x → S x) → IsSizeOf S n → IsSizeOf T n
same_size S T n to back h = record {
  elements = h.elements;
  only = All-weaker S T to h.elements h.only;
  all = λ x t. h.all x (back x t);
  once = h.once;
  size = h.size;
}

pub no_elements : {A : Type 0} (T : A → Type 0) → ((x : A) → T x → ⊥) → IsSizeOf T 0
no_elements T none = record {
  elements = [];
  only = λ i d l. absurd (omega (arith, l));
  all = λ x t. absurd (none x t);
  once = λ i j d a l. absurd (omega (arith, l));
  size = refl;
}

-- an element that is not in the set
pub one_more : {A : Type 0} (T U : A → Type 0) (x : A) (n : ℕ) → (T x → ⊥) → ((y : A) → T y → U y) → U x → ((y : A) → U y → T y ⊎ (x ≡ y)) → IsSizeOf T n
    → IsSizeOf U (n + 1)
one_more T U x n new old here only h = record {
  elements = x ∷ h.elements;
  only = All-cons U x h.elements here (All-weaker T U old h.elements h.only);
  all = λ y u. elim (only y u) [ inl t ↦ later_in x h.elements y (h.all y t) | inr e ↦ subst (Contains (x ∷ h.elements)) e (head_in x h.elements) ];
  once = apart_cons x h.elements (λ i. new (All-contains T h.elements x h.only i)) h.once;
  size = (let e = h.size in omega (arith, e));
}

-- ---- two sets

listed_more : {A : Type 0} (T : A → Type 0) (us : List A) (n : ℕ) → AllPairs (λ x y. x ≢ y) us → ((x : A) → Contains us x → T x → ⊥) → IsSizeOf T n
    → IsSizeOf (λ x. T x ⊎ Contains us x) (n + length us)
listed_more T [] n a apart h =
    rw (add-zero n) (same_size T (λ x. T x ⊎ Contains [] x) n (λ x t. inl t) (λ x u. elim u [ inl t ↦ t | inr c ↦ absurd (let l = c.1 in omega (arith, l)) ]) h)
listed_more T (u ∷ us) n a apart h =
    let rest = listed_more T us n (λ i j d l m. a (suc i) (suc j) d (omega (arith, l)) (omega (arith, m))) (λ x c. apart x (later_in u us x c)) h in
    let e : n + length us + 1 ≡ n + length (u ∷ us) = omega arith in
    subst (IsSizeOf (λ x. T x ⊎ Contains (u ∷ us) x)) e (one_more (λ x. T x ⊎ Contains us x) (λ x. T x ⊎ Contains (u ∷ us) x) u (n + length us)
    (λ t. elim t [ inl p ↦ apart u (head_in u us) p | inr c ↦ front_apart u us a u c refl ])
    (λ x t. elim t [ inl p ↦ inl p | inr c ↦ inr (later_in u us x c) ])
    (inr (head_in u us))
    (λ x t. elim t [ inl p ↦ inl (inl p) | inr c ↦ elim (in_cases u us x c) [ inl q ↦ inr q | inr d ↦ inl (inr d) ] ])
    rest)

-- two sets without a common element
pub both_sizes : {A : Type 0} (T U V : A → Type 0) (m n : ℕ) → ((x : A) → T x → U x → ⊥) → ((x : A) → T x → V x) → ((x : A) → U x → V x)
    → ((x : A) → V x → T x ⊎ U x)
    → IsSizeOf T m → IsSizeOf U n → IsSizeOf V (m + n)
both_sizes {A} T U V m n apart left right only h k =
    let us = k.elements in
    let of_us : (x : A) → Contains us x → U x = λ x c. All-contains U us x k.only c in
    let more = listed_more T us m k.once (λ x c t. apart x t (of_us x c)) h in
    subst (λ i. IsSizeOf V (m + i)) (sym k.size) (same_size (λ x. T x ⊎ Contains us x) V (m + length us)
    (λ x t. elim t [ inl p ↦ left x p | inr c ↦ right x (of_us x c) ])
    (λ x v. elim (only x v) [ inl t ↦ inl t | inr u ↦ inr (k.all x u) ])
    more)

-- ---- images

apart_map : {A B : Type 0} (f : A → B) (xs : List A) → ((x y : A) → f x ≡ f y → x ≡ y) → AllPairs (λ x y. x ≢ y) xs → AllPairs (λ x y. x ≢ y) (map f xs)
apart_map f [] one a i j d l m = absurd (omega (arith, m))
apart_map f (x ∷ xs) one a i j d l m =
    let long = length-map (x ∷ xs) f in
    let p = get_or-map f (x ∷ xs) i x d (omega (arith, l, m, long)) in
    let q = get_or-map f (x ∷ xs) j x d (omega (arith, m, long)) in
    λ e. a i j x l (omega (arith, m, long)) (one (get_or (x ∷ xs) i x) (get_or (x ∷ xs) j x) (sym p ∙ e ∙ q))

in_map : {A B : Type 0} (f : A → B) (xs : List A) (x : A) → Contains xs x → Contains (map f xs) (f x)
in_map f xs x c =
    let l = c.1 in
    let long = length-map xs f in
    (c.0, omega (arith, l, long), get_or-map f xs c.0 x (f x) l ∙ ap f c.2)

-- a set that has one element for each of another
pub image_size : {A B : Type 0} (f : A → B) (T : A → Type 0) (U : B → Type 0) (n : ℕ) → ((x y : A) → f x ≡ f y → x ≡ y) → ((x : A) → T x → U (f x))
    → ((y : B) → U y → (x : A) × T x × (f x ≡ y))
    → IsSizeOf T n → IsSizeOf U n
image_size f T U n one to back h = record {
  elements = map f h.elements;
  only = All-map U f h.elements (All-weaker T (λ x. U (f x)) to h.elements h.only);
  all = λ y u. (let x = back y u in subst (Contains (map f h.elements)) x.2 (in_map f h.elements x.0 (h.all x.0 x.1)));
  once = apart_map f h.elements one h.once;
  size = h.size ∙ sym (length-map h.elements f);
}

-- ---- one size

count_all : {A : Type 0} (xs : List A) → count_by (λ x. true) xs ≡ length xs
count_all [] = refl
count_all (x ∷ xs) =
    let r = count_all xs in
    let c = sum_by-cons (λ y. 1) x xs in
    omega (arith, r, c)

-- a set has one size
pub size_once : {A : Type 0} (T : A → Type 0) (m n : ℕ) → IsSizeOf T m → IsSizeOf T n → m ≡ n
size_once T m n h k =
    let a = no_more_of (λ x. true) h.elements k.elements h.once (λ x i. k.all x (All-contains T h.elements x h.only i)) in
    let b = no_more_of (λ x. true) k.elements h.elements k.once (λ x i. h.all x (All-contains T k.elements x k.only i)) in
    let c = count_all h.elements in
    let d = count_all k.elements in
    let e = h.size in
    let f = k.size in
    omega (arith, a, b, c, d, e, f)
