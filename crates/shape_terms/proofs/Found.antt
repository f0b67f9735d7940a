-- The cycles of the cracks that were passed by number, and their marks; once all were passed they are those of the picture.
-- How a cycle is traced and marked belongs elsewhere.
use Rattle.std.proofs.Common.{◌≡◌, ◌≢◌, ℕ, zero, suc, ◌+◌, ◌*◌, ◌<◌, ◌≤◌, Bool, true, false, ap, sym, ◌∙◌, subst, arith, List, [], ◌∷◌, ◌++◌, length, get_or}
use Rattle.std.proofs.Common.{◌⊎◌, inl, inr}
use Rattle.std.specs.Prelude.{AllPairs, All, Contains, flat_map}
use Rattle.std.proofs.lemmas.List.Elements.{All-push, All-append, All-contains, All-nil, All-weaker, Contains-get_or, Contains-append_left}
use Rattle.std.proofs.lemmas.List.Elements.{Contains-append_right, Contains-append_cases}
use Rattle.std.proofs.lemmas.List.Concat.{flat_map-append}
use Rattle.std.proofs.lemmas.List.Quantifiers.{all_pairs_push}
use Rattle.std.proofs.lemmas.List.{append-nil}
use native.Mathlib.Decide.{dec_lt, ℕ_discrete}
use Rattle.shape_terms.specs.Points.{box_count}
use Rattle.shape_terms.specs.Pictures.{Picture}
use Rattle.shape_terms.specs.Contours.{Crack, IsCrack, CrackBefore, Follow, IsCycle, BeginsLeast, AreCycles, first_of_cycle}
use Rattle.shape_terms.proofs.Successor.{successor_crack}
use Rattle.shape_terms.specs.CrackNumbers.{crack_number, numbered, IsLevel, MarksCycle}
use Rattle.shape_terms.proofs.Numbered.{is_numbered, number_below, number_rises}
use Rattle.shape_terms.proofs.SameCycles.{pairs-head, pairs-tail, head_in, later_in, in_cases, in_none, reaches, cycle_on, of_list, list_of}

pub pairs-cons : {A : Type 0} (R : A → A → Type 0) (x : A) (xs : List A) → All (R x) xs → AllPairs R xs → AllPairs R (x ∷ xs)
pairs-cons R x xs h k i zero d l m = absurd (omega arith)
pairs-cons R x xs h k zero (suc j) d l m = h j d (omega arith)
pairs-cons R x xs h k (suc i) (suc j) d l m = k i j d (omega arith) (omega arith)

pub All-each : {A : Type 0} (P : A → Type 0) (xs : List A) → ((x : A) → Contains xs x → P x) → All P xs
All-each P xs h k d l = h (get_or xs k d) (Contains-get_or xs k d l)

pub pairs-append : {A : Type 0} (R : A → A → Type 0) (xs ys : List A) → AllPairs R xs → AllPairs R ys → ((x y : A) → Contains xs x → Contains ys y → R x y)
    → AllPairs R (xs ++ ys)
pairs-append R [] ys h k f = k
pairs-append R (x ∷ xs) ys h k f = pairs-cons R x (xs ++ ys)
    (All-append (R x) xs ys (pairs-head R x xs h) (All-each (R x) ys (λ y j. f x y (head_in x xs) j)))
    (pairs-append R xs ys (pairs-tail R x xs h) k (λ u v i j. f u v (later_in x xs u i) j))

joined-push : {A : Type 0} (xss : List (List A)) (ys : List A) → flat_map (λ c. c) (xss ++ ys ∷ []) ≡ flat_map (λ c. c) xss ++ (ys ++ [])
joined-push xss ys = flat_map-append (λ (c : List _). c) xss (ys ∷ [])

-- all cracks of a list that follows from a crack are cracks
follow_cracks : (X : Picture) → length X.sides ≡ 2 → (f c : Crack) (xs : List Crack) → IsCrack X c → Follow X f (c ∷ xs) → (x : Crack) → Contains (c ∷ xs) x
    → IsCrack X x
follow_cracks X axes f c [] k h x i = elim (in_cases c [] x i) [ inl e ↦ subst (IsCrack X) e k | inr n ↦ absurd (in_none x n) ]
follow_cracks X axes f c (d ∷ xs) k h x i = elim (in_cases c (d ∷ xs) x i) [
  | inl e ↦ subst (IsCrack X) e k
  | inr n ↦ follow_cracks X axes f d xs (subst (IsCrack X) h.0 (successor_crack X axes c k)) h.1 x n
]

-- the cycles of all cracks with numbers below i, whose level cracks are marked
pub record Found (X : Picture) (i : ℕ) (marks : ℕ → Bool) (cycles : List (List Crack)) : Type 0 where
  pub cycle : All (IsCycle X) cycles
  pub least : All BeginsLeast cycles
  pub once : AllPairs (λ x y. x ≢ y) (flat_map (λ c. c) cycles)
  pub rising : AllPairs (λ x y. CrackBefore (first_of_cycle x) (first_of_cycle y)) cycles
  pub cracks : (x : Crack) → Contains (flat_map (λ c. c) cycles) x → IsCrack X x
  pub begun : All (λ x. crack_number X.sides (first_of_cycle x) < i) cycles
  pub marked : (x : Crack) → IsCrack X x → marks (crack_number X.sides x) ≡ true → Contains (flat_map (λ c. c) cycles) x
  pub marks_all : (x : Crack) → Contains (flat_map (λ c. c) cycles) x → IsLevel x → marks (crack_number X.sides x) ≡ true
  pub passed : (x : Crack) → IsCrack X x → crack_number X.sides x < i → Contains (flat_map (λ c. c) cycles) x

module _ (X : Picture) (axes : length X.sides ≡ 2) where
  pub found_none : (marks : ℕ → Bool) → ((j : ℕ) → marks j ≡ false) → Found X 0 marks []
  found_none marks none = record {
    cycle = All-nil (IsCycle X);
    least = All-nil BeginsLeast;
    once = λ i j d l m. absurd (omega arith);
    rising = λ i j d l m. absurd (omega arith);
    cracks = λ x i. absurd (in_none x i);
    begun = All-nil (λ x. crack_number X.sides (first_of_cycle x) < 0);
    marked = λ x k e. let f : false ≡ true = sym (none (crack_number X.sides x)) ∙ e in cc;
    marks_all = λ x i l. absurd (in_none x i);
    passed = λ x k l. absurd (omega arith);
  }

  -- a number that is not that of a crack, or that of one on a cycle that was found
  pub found_skip : (i : ℕ) (marks : ℕ → Bool) (cycles : List (List Crack)) → Found X i marks cycles
      → (IsCrack X (numbered X.sides i) → Contains (flat_map (λ c. c) cycles) (numbered X.sides i)) → Found X (i + 1) marks cycles
  found_skip i marks cycles f s = record {
    cycle = f.cycle;
    least = f.least;
    once = f.once;
    rising = f.rising;
    cracks = f.cracks;
    begun = All-weaker (λ x. crack_number X.sides (first_of_cycle x) < i) (λ x. crack_number X.sides (first_of_cycle x) < i + 1) (λ x l. omega arith) cycles
        f.begun;
    marked = f.marked;
    marks_all = f.marks_all;
    passed = passed;
  }
    where
      passed : (x : Crack) → IsCrack X x → crack_number X.sides x < i + 1 → Contains (flat_map (λ c. c) cycles) x
      passed x k l = elim (ℕ_discrete (crack_number X.sides x) i) [
        | no n ↦ f.passed x k (omega arith)
        | yes e ↦ (let q = is_numbered X x k ∙ ap (numbered X.sides) e in subst (Contains (flat_map (λ c. c) cycles)) (sym q) (s (subst (IsCrack X) q k)))
      ]

  -- the cycle of an unmarked level crack comes last
  module _ (i : ℕ) (marks marks' : ℕ → Bool) (cycles : List (List Crack)) (f : Found X i marks cycles) (s : Crack) (k : IsCrack X s)
      (n : crack_number X.sides s ≡ i) (level : IsLevel s) (new : marks i ≡ false)
      (xs : List Crack) (cyc : IsCycle X (s ∷ xs)) (m : MarksCycle X.sides (s ∷ xs) marks marks') where
    ours : (x : Crack) → Contains (s ∷ xs) x → IsCrack X x
    ours x j = follow_cracks X axes s s xs k cyc.1 x j

    -- a crack of the new cycle is on none before
    apart : (x : Crack) → Contains (s ∷ xs) x → Contains (flat_map (λ c. c) cycles) x → ⊥
    apart x j p =
        let r = list_of cycles x p in
        let on : Contains r.0 s = meets r.0 (All-contains (IsCycle X) cycles r.0 f.cycle r.1) r.2 in
        let t : marks i ≡ true = subst (λ j. marks j ≡ true) n (f.marks_all s (of_list cycles r.0 s r.1 on) level) in
        let u : false ≡ true = sym new ∙ t in
        cc
      where
        meets : (ys : List Crack) → IsCycle X ys → Contains ys x → Contains ys s
        meets [] y q = absurd y
        meets (d ∷ ys) y q = reaches X (Contains (d ∷ ys)) (cycle_on X d ys y) s (s ∷ xs) cyc.1 x j q

    after : (x : Crack) → Contains xs x → CrackBefore s x
    after x j =
        let q = ours x (later_in s xs x j) in
        let away : s ≢ x = All-contains (λ y. s ≢ y) xs x (pairs-head (λ x y. x ≢ y) s xs cyc.0) j in
        let l : i < crack_number X.sides x = elim (dec_lt i (crack_number X.sides x)) [
          | yes l ↦ l
          | no l ↦ elim (ℕ_discrete (crack_number X.sides x) i) [
            | yes e ↦ absurd (away (is_numbered X s k ∙ (ap (numbered X.sides) (n ∙ sym e) ∙ sym (is_numbered X x q))))
            | no e ↦ absurd (apart x (later_in s xs x j) (f.passed x q (omega arith)))
          ]
        ] in
        number_rises X s x k q (omega arith)

    before : (y : List Crack) → Contains cycles y → CrackBefore (first_of_cycle y) s
    before y j =
        let l = All-contains (λ x. crack_number X.sides (first_of_cycle x) < i) cycles y f.begun j in
        let q = f.cracks (first_of_cycle y) (of_list cycles y (first_of_cycle y) j (first_in y (All-contains (IsCycle X) cycles y f.cycle j))) in
        number_rises X (first_of_cycle y) s q k (omega arith)
      where
        first_in : (y : List Crack) → IsCycle X y → Contains y (first_of_cycle y)
        first_in [] c = absurd c
        first_in (d ∷ ys) c = head_in d ys

    all_is : flat_map (λ c. c) (cycles ++ (s ∷ xs) ∷ []) ≡ flat_map (λ c. c) cycles ++ (s ∷ xs)
    all_is = joined-push cycles (s ∷ xs) ∙ ap (λ (l : List Crack). flat_map (λ c. c) cycles ++ l) (append-nil (s ∷ xs))

    split : (x : Crack) → Contains (flat_map (λ c. c) (cycles ++ (s ∷ xs) ∷ [])) x → Contains (flat_map (λ c. c) cycles) x ⊎ Contains (s ∷ xs) x
    split x j = Contains-append_cases (flat_map (λ c. c) cycles) (s ∷ xs) x (subst (λ (l : List Crack). Contains l x) all_is j)

    old_in : (x : Crack) → Contains (flat_map (λ c. c) cycles) x → Contains (flat_map (λ c. c) (cycles ++ (s ∷ xs) ∷ [])) x
    old_in x j = subst (λ (l : List Crack). Contains l x) (sym all_is) (Contains-append_left (flat_map (λ c. c) cycles) (s ∷ xs) x j)

    new_in : (x : Crack) → Contains (s ∷ xs) x → Contains (flat_map (λ c. c) (cycles ++ (s ∷ xs) ∷ [])) x
    new_in x j = subst (λ (l : List Crack). Contains l x) (sym all_is) (Contains-append_right (flat_map (λ c. c) cycles) (s ∷ xs) x j)

    pub found_more : Found X (i + 1) marks' (cycles ++ (s ∷ xs) ∷ [])
    found_more = record {
      cycle = All-push (IsCycle X) cycles (s ∷ xs) f.cycle cyc;
      least = All-push BeginsLeast cycles (s ∷ xs) f.least (All-each (CrackBefore s) xs after);
      once = subst (AllPairs (λ x y. x ≢ y)) (sym all_is)
          (pairs-append (λ x y. x ≢ y) (flat_map (λ c. c) cycles) (s ∷ xs) f.once cyc.0
          (λ x y p q e. apart y q (subst (Contains (flat_map (λ c. c) cycles)) e p)));
      rising = all_pairs_push (λ x y. CrackBefore (first_of_cycle x) (first_of_cycle y)) cycles (s ∷ xs) f.rising
          (λ k d l. before (get_or cycles k d) (Contains-get_or cycles k d l));
      cracks = λ x j. elim (split x j) [ inl p ↦ f.cracks x p | inr p ↦ ours x p ];
      begun = All-push (λ x. crack_number X.sides (first_of_cycle x) < i + 1) cycles (s ∷ xs)
          (All-weaker (λ x. crack_number X.sides (first_of_cycle x) < i) (λ x. crack_number X.sides (first_of_cycle x) < i + 1) (λ x l. omega arith) cycles
          f.begun) (omega arith);
      marked = λ x q e. elim (m.none (crack_number X.sides x) e) [
        | inl o ↦ old_in x (f.marked x q o)
        | inr o ↦ new_in x (subst (Contains (s ∷ xs)) (is_numbered X o.0 (ours o.0 o.1) ∙ (ap (numbered X.sides) o.2 ∙ sym (is_numbered X x q))) o.1)
      ];
      marks_all = λ x j l. elim (split x j) [ inl p ↦ m.kept (crack_number X.sides x) (f.marks_all x p l) | inr p ↦ m.added x p l ];
      passed = passed;
    }
      where
        passed : (x : Crack) → IsCrack X x → crack_number X.sides x < i + 1 → Contains (flat_map (λ c. c) (cycles ++ (s ∷ xs) ∷ [])) x
        passed x q l = elim (ℕ_discrete (crack_number X.sides x) i) [
          | no d ↦ old_in x (f.passed x q (omega arith))
          | yes e ↦ new_in x (subst (Contains (s ∷ xs)) (is_numbered X s k ∙ (ap (numbered X.sides) (n ∙ sym e) ∙ sym (is_numbered X x q))) (head_in s xs))
        ]

  -- all numbers passed: the cycles of the picture
  pub found_all : (i : ℕ) (marks : ℕ → Bool) (cycles : List (List Crack)) → Found X i marks cycles → box_count X.sides * 4 ≤ i → AreCycles X cycles
  found_all i marks cycles f l = record {
    cycle = f.cycle;
    least = f.least;
    once = f.once;
    each = λ c. ((λ q. f.passed c q (let b = number_below X c q in omega arith)), f.cracks c);
    rising = f.rising;
  }
