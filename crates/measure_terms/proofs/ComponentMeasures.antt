-- The measures of the facts of a component are those of its points: bounds that are reached, sums and counts.
-- Laws of lists alone.
use Rattle.std.proofs.Common.{◌≡◌, ◌⊎◌, inl, inr, ◌+◌, ◌<◌, ◌≤◌, ℕ, Bool, true, false, List, [], ◌∷◌, map, get_or, refl, sym, ap, ◌∙◌, arith, subst}
use Rattle.std.specs.Prelude.{sum_by, ◌==◌, ◌&&◌, ◌||◌, cond, nat_le, min, nat_abs, Some, None, count_by, sum}
use Rattle.std.specs.List.{Contains, fold, find, list_any}
use Rattle.std.specs.Option.{option_map, is_some}
use Rattle.std.proofs.lemmas.Bool.{cond-true, cond-false, cases_Bool}
use Rattle.std.proofs.lemmas.List.{length-map}
use Rattle.std.proofs.lemmas.List.Sums.{sum-map}
use Rattle.std.proofs.lemmas.List.Folds.{fold-map}
use Rattle.shape_terms.specs.Points.{Point, coordinate, raster_number}
use Rattle.shape_terms.specs.Pictures.{Picture, at}
use Rattle.shape_terms.proofs.Members.{Contains-later}
use Rattle.shape_terms.proofs.SameCycles.{head_in, in_cases}
use Rattle.measure_terms.specs.Facts.{Fact, near_count}
use Rattle.measure_terms.specs.Measures.{measures_of, least, greatest, span, coordinates, depth, is_left, is_end, is_junction}
use Rattle.measure_terms.specs.Components.{IsLeastOf, IsGreatestOf, IsSpanOf, AreMeasuresOf}
use Rattle.measure_terms.proofs.ComponentPoints.{fact}

-- ---- bounds

greatest_bound : (f : Point → ℕ) (ps : List Point) (p : Point) → Contains ps p → f p ≤ greatest (map f ps)
greatest_bound f [] p c = absurd (omega (arith, c.1))
greatest_bound f (q ∷ ps) p c = elim (in_cases q ps p c) [
  | inl e ↦ (let h = ap f e in omega (arith, h))
  | inr d ↦ (let r = greatest_bound f ps p d in omega (arith, r))
]

reached_more : (f : Point → ℕ) (p q : Point) (ps : List Point) → (r : Point) × Contains (q ∷ ps) r × (f r ≡ greatest (map f (q ∷ ps)))
    → (r : Point) × Contains (p ∷ q ∷ ps) r × (f r ≡ greatest (map f (p ∷ q ∷ ps)))
reached_more f p q ps r =
    let e = r.2 in
    let split : (f p ≤ greatest (map f (q ∷ ps))) ⊎ (greatest (map f (q ∷ ps)) < f p) = grind arith in
    elim split [
      | inl l ↦ (r.0, Contains-later p (q ∷ ps) r.0 r.1, omega (arith, e, l))
      | inr l ↦ (p, head_in p (q ∷ ps), omega (arith, l))
    ]

greatest_reached : (f : Point → ℕ) (p : Point) (ps : List Point) → (q : Point) × Contains (p ∷ ps) q × (f q ≡ greatest (map f (p ∷ ps)))
greatest_reached f p [] = (p, head_in p [], omega arith)
greatest_reached f p (q ∷ ps) = reached_more f p q ps (greatest_reached f q ps)

is_greatest : (f : Point → ℕ) (p : Point) (ps : List Point) → IsGreatestOf f (p ∷ ps) (greatest (map f (p ∷ ps)))
is_greatest f p ps = record { bound = greatest_bound f (p ∷ ps); reached = greatest_reached f p ps }

fold_bound : (a : ℕ) (xs : List ℕ) → fold min a xs ≤ a
fold_bound a [] = omega arith
fold_bound a (x ∷ xs) = let r = fold_bound (min a x) xs in omega (arith, r)

rest_bound : (a : ℕ) (f : Point → ℕ) (ps : List Point) (p : Point) → Contains ps p → fold min a (map f ps) ≤ f p
rest_bound a f [] p c = absurd (omega (arith, c.1))
rest_bound a f (q ∷ ps) p c = elim (in_cases q ps p c) [
  | inl e ↦ (let h = ap f e in let r = fold_bound (min a (f q)) (map f ps) in omega (arith, h, r))
  | inr d ↦ rest_bound (min a (f q)) f ps p d
]

rest_reached : (a : ℕ) (f : Point → ℕ) (ps : List Point) → (fold min a (map f ps) ≡ a) ⊎ ((q : Point) × Contains ps q × (f q ≡ fold min a (map f ps)))
rest_reached a f [] = inl refl
rest_reached a f (q ∷ ps) =
    let split : (min a (f q) ≡ a) ⊎ (min a (f q) ≡ f q) = grind arith in
    elim (rest_reached (min a (f q)) f ps) [
      | inl e ↦ elim split [
        | inl s ↦ inl (e ∙ s)
        | inr s ↦ inr (q, head_in q ps, sym (e ∙ s))
      ]
      | inr r ↦ inr (r.0, Contains-later q ps r.0 r.1, r.2)
    ]

is_least : (f : Point → ℕ) (p : Point) (ps : List Point) → IsLeastOf f (p ∷ ps) (least (map f (p ∷ ps)))
is_least f p ps = record {
  bound = λ q c. elim (in_cases p ps q c) [
    | inl e ↦ (let h = ap f e in let r = fold_bound (f p) (map f ps) in omega (arith, h, r))
    | inr d ↦ rest_bound (f p) f ps q d
  ];
  reached = elim (rest_reached (f p) f ps) [
    | inl e ↦ (p, head_in p ps, sym e)
    | inr r ↦ (r.0, Contains-later p ps r.0 r.1, r.2)
  ];
}

-- ---- spans

map_twice : {A B C : Type 0} (g : B → C) (h : A → B) (xs : List A) → map g (map h xs) ≡ map (λ x. g (h x)) xs
map_twice g h [] = refl
map_twice g h (x ∷ xs) = λ i. g (h x) ∷ map_twice g h xs i

span_is : (object : Picture) (squares : List ℕ) (left : Picture) (labels : List ℕ) (k : ℕ) (p : Point) (ps : List Point)
    → IsSpanOf k (p ∷ ps) (span k (map (fact object squares left labels) (p ∷ ps)))
span_is object squares left labels k p ps =
    let f = λ (q : Point). nat_abs (coordinate q k) in
    let e : coordinates k (map (fact object squares left labels) (p ∷ ps)) ≡ map f (p ∷ ps) =
    map_twice (λ g. nat_abs (coordinate g.point k)) (fact object squares left labels) (p ∷ ps) in
    record {
      least = subst (λ (xs : List ℕ). IsLeastOf f (p ∷ ps) (least xs)) (sym e) (is_least f p ps);
      greatest = subst (λ (xs : List ℕ). IsGreatestOf f (p ∷ ps) (greatest xs)) (sym e) (is_greatest f p ps);
      sum = ap sum e ∙ sum-map f (p ∷ ps);
    }

-- ---- counts and tests

counts_are : {A B : Type 0} (q : B → Bool) (r : A → Bool) (h : A → B) (xs : List A) → ((x : A) → q (h x) ≡ r x) → count_by q (map h xs) ≡ count_by r xs
counts_are q r h xs e = fold-map (λ a y. a + cond (q y) 1 0) h 0 xs ∙ (λ i. fold (λ a x. a + cond (e x i) 1 0) 0 xs)

sums_are : {A B : Type 0} (q : B → ℕ) (h : A → B) (xs : List A) → sum_by q (map h xs) ≡ sum_by (λ x. q (h x)) xs
sums_are q h xs = sym (sum-map q (map h xs)) ∙ ap sum (map_twice q h xs) ∙ sum-map (λ x. q (h x)) xs

any_is : {A B : Type 0} (q : B → Bool) (h : A → B) (xs : List A) → list_any q (map h xs) ≡ list_any (λ x. q (h x)) xs
any_is q h [] = refl
any_is q h (x ∷ xs) = ap (λ b. q (h x) || b) (any_is q h xs)

found_is : (q : Fact → Bool) (r : Point → Bool) (h : Point → Fact) (xs : List Point) → ((x : Point) → q (h x) ≡ r x) → ((x : Point) → (h x).point ≡ x)
    → option_map (λ f. f.point) (find q (map h xs)) ≡ find r xs
found_is q r h [] e p = refl
found_is q r h (x ∷ xs) e p = elim (cases_Bool (r x)) [
  | inl t ↦ ap (option_map (λ f. f.point)) (cond-true (q (h x)) (Some (h x)) (find q (map h xs)) (e x ∙ t)) ∙ ap Some (p x)
      ∙ sym (cond-true (r x) (Some x) (find r xs) t)
  | inr n ↦ ap (option_map (λ f. f.point)) (cond-false (q (h x)) (Some (h x)) (find q (map h xs)) (e x ∙ n)) ∙ found_is q r h xs e p
      ∙ sym (cond-false (r x) (Some x) (find r xs) n)
]

left_is : (b : Bool) (n : ℕ) → is_some (cond b (Some n) None) ≡ b
left_is true n = refl
left_is false n = refl

end_is : (b : Bool) (n : ℕ) → is_end (cond b (Some n) None) ≡ (b && n == 1)
end_is true n = refl
end_is false n = refl

junction_is : (b : Bool) (n : ℕ) → is_junction (cond b (Some n) None) ≡ (b && nat_le 3 n)
junction_is true n = refl
junction_is false n = refl

-- ---- all measures

-- the measures of the facts of some points are those of the points
pub measures_are : (object : Picture) (squares : List ℕ) (left : Picture) (labels : List ℕ) (p : Point) (ps : List Point)
    → AreMeasuresOf object (λ q. get_or squares (raster_number left.sides q) 0) left (p ∷ ps) (measures_of (map (fact object squares left labels) (p ∷ ps)))
measures_are object squares left labels p ps =
    let h = fact object squares left labels in
    let square = λ (q : Point). get_or squares (raster_number left.sides q) 0 in
    let e : map (λ (f : Fact). f.square) (map h (p ∷ ps)) ≡ map square (p ∷ ps) = map_twice (λ f. f.square) h (p ∷ ps) in
    record {
      area = length-map (p ∷ ps) h;
      x = span_is object squares left labels 0 p ps;
      y = span_is object squares left labels 1 p ps;
      z = span_is object squares left labels 2 p ps;
      depth = subst (λ (xs : List ℕ). IsGreatestOf square (p ∷ ps) (greatest xs)) (sym e) (is_greatest square p ps);
      deepest = found_is (λ f. f.square == depth (map h (p ∷ ps))) (λ q. square q == depth (map h (p ∷ ps))) h (p ∷ ps) (λ q. refl) (λ q. refl);
      skeleton = counts_are is_left (at left) h (p ∷ ps) (λ q. left_is (at left q) (near_count left q));
      ends = counts_are (λ f. is_end f.left) (λ q. at left q && near_count left q == 1) h (p ∷ ps) (λ q. end_is (at left q) (near_count left q));
      junctions = counts_are (λ f. is_junction f.left) (λ q. at left q && nat_le 3 (near_count left q)) h (p ∷ ps)
          (λ q. junction_is (at left q) (near_count left q));
      exposed = sums_are (λ f. f.exposed) h (p ∷ ps);
      touches = any_is (λ f. f.rim) h (p ∷ ps);
    }
