-- A picture has one list of cycles: what the definition says of it determines it.
-- Nothing is used of the successor but that it is a function.
use Rattle.std.proofs.Common.{◌≡◌, ◌≢◌, zero, suc, refl, ap, sym, ◌∙◌, subst, arith, List, [], ◌∷◌, ◌⊎◌, inl, inr}
use Rattle.std.specs.Prelude.{All, AllPairs, Contains, flat_map}
use Rattle.std.proofs.lemmas.List.Elements.{All-head, All-tail, Contains-append_left, Contains-append_right, Contains-append_cases, All-contains}
use Rattle.shape_terms.specs.Pictures.{Picture}
use Rattle.shape_terms.specs.Contours.{Crack, successor, CrackBefore, Follow, IsCycle, BeginsLeast, AreCycles, first_of_cycle, IsCrack}
use Rattle.shape_terms.proofs.CrackOrder.{crack_before_once, crack_not_before_itself}

pub pairs-tail : {A : Type 0} (R : A → A → Type 0) (x : A) (xs : List A) → AllPairs R (x ∷ xs) → AllPairs R xs
pairs-tail R x xs h = λ i j d l m. h (suc i) (suc j) d (omega arith) (omega arith)

pub pairs-head : {A : Type 0} (R : A → A → Type 0) (x : A) (xs : List A) → AllPairs R (x ∷ xs) → All (R x) xs
pairs-head R x xs h = λ k d l. h 0 (suc k) d (omega arith) (omega arith)

pub head_in : {A : Type 0} (x : A) (xs : List A) → Contains (x ∷ xs) x
head_in x xs = (0, omega arith, refl)

pub later_in : {A : Type 0} (y : A) (xs : List A) (x : A) → Contains xs x → Contains (y ∷ xs) x
later_in y xs x (k, h, e) = (suc k, omega arith, e)

-- an element of a list is its head or stands in its tail
pub in_cases : {A : Type 0} (y : A) (xs : List A) (x : A) → Contains (y ∷ xs) x → (y ≡ x) ⊎ Contains xs x
in_cases y xs x (zero, h, e) = inl e
in_cases y xs x (suc k, h, e) = inr (k, omega arith, e)

pub in_none : {A : Type 0} (x : A) → Contains {X = A} [] x → ⊥
in_none x (k, h, e) = absurd (omega arith)

-- ---- two cycles with one head are one
follow_same : (X : Picture) (f d : Crack) (xs ys : List Crack) → Follow X f (d ∷ xs) → Follow X f (d ∷ ys) → All (λ x. f ≢ x) xs → All (λ x. f ≢ x) ys → xs ≡ ys
follow_same X f d [] [] h k a b = refl
follow_same X f d [] (y ∷ ys) h k a b = absurd (All-head (λ x. f ≢ x) y ys b (sym h ∙ k.0))
follow_same X f d (x ∷ xs) [] h k a b = absurd (All-head (λ x. f ≢ x) x xs a (sym k ∙ h.0))
follow_same X f d (x ∷ xs) (y ∷ ys) h k a b =
    let e : y ≡ x = sym k.0 ∙ h.0 in
    let t : xs ≡ ys = follow_same X f x xs ys h.1 (subst (λ z. Follow X f (z ∷ ys)) e k.1) (All-tail (λ x. f ≢ x) x xs a) (All-tail (λ x. f ≢ x) y ys b) in
    cc

pub cycle_same : (X : Picture) (c : Crack) (xs ys : List Crack) → IsCycle X (c ∷ xs) → IsCycle X (c ∷ ys) → xs ≡ ys
cycle_same X c xs ys h k = follow_same X c c xs ys h.1 k.1 (pairs-head (λ x y. x ≢ y) c xs h.0) (pairs-head (λ x y. x ≢ y) c ys k.0)

-- ---- a set that is closed under the successor and meets a cycle has its first crack
pub reaches : (X : Picture) (M : Crack → Type 0) → ((c : Crack) → M c → M (successor X c)) → (f : Crack) (xs : List Crack) → Follow X f xs → (x : Crack)
    → Contains xs x → M x → M f
reaches X M on f [] h x i m = absurd h
reaches X M on f (c ∷ []) h x i m = elim (in_cases c [] x i) [ inl e ↦ subst M h (on c (subst M (sym e) m)) | inr n ↦ absurd (in_none x n) ]
reaches X M on f (c ∷ d ∷ xs) h x i m = elim (in_cases c (d ∷ xs) x i) [
  | inl e ↦ reaches X M on f (d ∷ xs) h.1 d (head_in d xs) (subst M h.0 (on c (subst M (sym e) m)))
  | inr n ↦ reaches X M on f (d ∷ xs) h.1 x n m
]

-- the successor of a crack of the list is one of them, or the first
follow_on : (X : Picture) (f : Crack) (xs : List Crack) → Follow X f xs → (x : Crack) → Contains xs x → Contains xs (successor X x) ⊎ (successor X x ≡ f)
follow_on X f [] h x i = absurd h
follow_on X f (c ∷ []) h x i = elim (in_cases c [] x i) [ inl e ↦ inr (subst (λ z. successor X z ≡ f) e h) | inr n ↦ absurd (in_none x n) ]
follow_on X f (c ∷ d ∷ xs) h x i = elim (in_cases c (d ∷ xs) x i) [
  | inl e ↦ inl (subst (Contains (c ∷ d ∷ xs)) (sym h.0 ∙ ap (successor X) e) (later_in c (d ∷ xs) d (head_in d xs)))
  | inr n ↦ elim (follow_on X f (d ∷ xs) h.1 x n) [ inl k ↦ inl (later_in c (d ∷ xs) _ k) | inr k ↦ inr k ]
]

pub cycle_on : (X : Picture) (c : Crack) (xs : List Crack) → IsCycle X (c ∷ xs) → (x : Crack) → Contains (c ∷ xs) x → Contains (c ∷ xs) (successor X x)
cycle_on X c xs h x i = elim (follow_on X c (c ∷ xs) h.1 x i) [ inl k ↦ k | inr e ↦ subst (Contains (c ∷ xs)) (sym e) (head_in c xs) ]

-- two cycles that meet, each of which begins with its least crack, are one
pub meeting_same : (X : Picture) (a b : List Crack) → IsCycle X a → IsCycle X b → BeginsLeast a → BeginsLeast b → (x : Crack) → Contains a x → Contains b x
    → a ≡ b
meeting_same X [] b ha hb la lb x i j = absurd ha
meeting_same X (c ∷ xs) [] ha hb la lb x i j = absurd hb
meeting_same X (c ∷ xs) (d ∷ ys) ha hb la lb x i j =
    let d_in : Contains (c ∷ xs) d = reaches X (Contains (c ∷ xs)) (cycle_on X c xs ha) d (d ∷ ys) hb.1 x j i in
    let c_in : Contains (d ∷ ys) c = reaches X (Contains (d ∷ ys)) (cycle_on X d ys hb) c (c ∷ xs) ha.1 x i j in
    elim (in_cases c xs d d_in) [
      | inl e ↦ (let t : xs ≡ ys = cycle_same X c xs ys ha (subst (λ z. IsCycle X (z ∷ ys)) (sym e) hb) in cc)
      | inr k ↦ elim (in_cases d ys c c_in) [
        | inl e ↦ (let t : xs ≡ ys = cycle_same X c xs ys ha (subst (λ z. IsCycle X (z ∷ ys)) e hb) in cc)
        | inr l ↦ absurd (crack_before_once c d (All-contains (CrackBefore c) xs d la k) (All-contains (CrackBefore d) ys c lb l))
      ]
    ]

-- ---- lists of cycles
Rises : List (List Crack) → Type 0
Rises xs = AllPairs (λ x y. CrackBefore (first_of_cycle x) (first_of_cycle y)) xs

-- each list of the one stands in the other
same_rising : (xs ys : List (List Crack)) → Rises xs → Rises ys → ((x : List Crack) → Contains xs x → Contains ys x)
    → ((y : List Crack) → Contains ys y → Contains xs y) → xs ≡ ys
unfolding Rises
same_rising [] [] h k a b = refl
same_rising [] (y ∷ ys) h k a b = absurd (in_none y (b y (head_in y ys)))
same_rising (x ∷ xs) [] h k a b = absurd (in_none x (a x (head_in x xs)))
same_rising (x ∷ xs) (y ∷ ys) h k a b =
    let R : List Crack → List Crack → Type 0 = λ u v. CrackBefore (first_of_cycle u) (first_of_cycle v) in
    let e : x ≡ y = first x y xs ys (pairs-head R x xs h) (pairs-head R y ys k) (a x (head_in x xs)) (b y (head_in y ys)) in
    let t : xs ≡ ys = same_rising xs ys (pairs-tail R x xs h) (pairs-tail R y ys k)
    (λ z i. elim (in_cases y ys z (a z (later_in x xs z i)))
    [ inl q ↦ absurd (crack_not_before_itself _ _ (ap first_of_cycle (e ∙ q)) (All-contains (R x) xs z (pairs-head R x xs h) i)) | inr q ↦ q ])
    (λ z i. elim (in_cases x xs z (b z (later_in y ys z i)))
    [ inl q ↦ absurd (crack_not_before_itself _ _ (ap first_of_cycle (sym e ∙ q)) (All-contains (R y) ys z (pairs-head R y ys k) i)) | inr q ↦ q ]) in
    cc
  where
    first : (x y : List Crack) (xs ys : List (List Crack)) → All (λ v. CrackBefore (first_of_cycle x) (first_of_cycle v)) xs
        → All (λ v. CrackBefore (first_of_cycle y) (first_of_cycle v)) ys → Contains (y ∷ ys) x → Contains (x ∷ xs) y → x ≡ y
    first x y xs ys h k i j = elim (in_cases y ys x i) [
      | inl e ↦ sym e
      | inr l ↦ elim (in_cases x xs y j) [
        | inl e ↦ e
        | inr m ↦ absurd (crack_before_once (first_of_cycle x) (first_of_cycle y)
            (All-contains (λ v. CrackBefore (first_of_cycle x) (first_of_cycle v)) xs y h m)
            (All-contains (λ v. CrackBefore (first_of_cycle y) (first_of_cycle v)) ys x k l))
      ]
    ]

-- the cracks of a list of the lists, and the list of a crack
pub of_list : {A : Type 0} (xss : List (List A)) (xs : List A) (x : A) → Contains xss xs → Contains xs x → Contains (flat_map (λ y. y) xss) x
of_list [] xs x i j = absurd (in_none xs i)
of_list (ys ∷ xss) xs x i j = elim (in_cases ys xss xs i) [
  | inl e ↦ Contains-append_left ys (flat_map (λ y. y) xss) x (subst (λ z. Contains z x) (sym e) j)
  | inr k ↦ Contains-append_right ys (flat_map (λ y. y) xss) x (of_list xss xs x k j)
]

pub list_of : {A : Type 0} (xss : List (List A)) (x : A) → Contains (flat_map (λ y. y) xss) x → (xs : List A) × (Contains xss xs) × (Contains xs x)
list_of [] x i = absurd (in_none x i)
list_of (ys ∷ xss) x i = elim (Contains-append_cases ys (flat_map (λ y. y) xss) x i) [
  | inl k ↦ (ys, head_in ys xss, k)
  | inr k ↦ (let r = list_of xss x k in (r.0, later_in ys xss r.0 r.1, r.2))
]

-- a cycle of the one list stands in the other
crosses : (X : Picture) (a b : List (List Crack)) → AreCycles X a → AreCycles X b → (x : List Crack) → Contains a x → Contains b x
crosses X a b h k [] i = absurd (All-contains (IsCycle X) a [] h.cycle i)
crosses X a b h k (c ∷ xs) i =
    let is : IsCrack X c = (h.each c).1 (of_list a (c ∷ xs) c i (head_in c xs)) in
    let r = list_of b c ((k.each c).0 is) in
    let e : r.0 ≡ c ∷ xs = meeting_same X r.0 (c ∷ xs) (All-contains (IsCycle X) b r.0 k.cycle r.1) (All-contains (IsCycle X) a (c ∷ xs) h.cycle i)
    (All-contains BeginsLeast b r.0 k.least r.1) (All-contains BeginsLeast a (c ∷ xs) h.least i) c r.2 (head_in c xs) in
    subst (Contains b) e r.1

-- the cycles of a picture are determined
pub cycles_same : (X : Picture) (a b : List (List Crack)) → AreCycles X a → AreCycles X b → a ≡ b
unfolding Rises
cycles_same X a b h k = same_rising a b h.rising k.rising (crosses X a b h k) (crosses X b a k h)
