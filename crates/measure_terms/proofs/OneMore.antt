-- The measures of an object with one point more, and the bounds of what is counted and summed.
-- Laws of lists alone.
use Rattle.std.proofs.Common.{◌≡◌, inl, inr, ◌+◌, ◌<◌, ◌≤◌, ℕ, zero, suc, Bool, true, false, List, [], ◌∷◌, ◌++◌, length, map, get_or, refl, sym, ap, ◌∙◌}
use Rattle.std.proofs.Common.{arith, length-append}
use Rattle.std.specs.Prelude.{sum_by, ◌==◌, min, max, Option, Some, None, cond, nat_abs, sum, count_by, ◌||◌, ◌&&◌, nat_le, nat_eq}
use Rattle.std.specs.List.{fold, find, list_any}
use Rattle.std.specs.Option.{option_map, is_some, option_or}
use Rattle.std.proofs.lemmas.Bool.{cond-true, cond-false, cases_Bool, and_right, and_from}
use Rattle.std.proofs.lemmas.List.{map-append, length-map}
use Rattle.std.proofs.lemmas.List.Sums.{fold-append, sum_by_push}
use Rattle.std.proofs.lemmas.List.Folds.{find-append, list_any-append}
use Rattle.shape_terms.specs.Points.{coordinate}
use Rattle.measure_terms.specs.Facts.{Fact}
use Rattle.measure_terms.specs.Measures.{measures_of, least, greatest, span, coordinates, depth, deepest, is_left, is_end, is_junction}
use Rattle.measure_terms.specs.OneMore.{span_with, measures_with}
use Rattle.std.proofs.lemmas.Bool.Decides.{nat_tests}
use Rattle.std.proofs.Math.Bool.{or-false}

-- ---- numbers in a list

not_none : (n : ℕ) → nat_eq (suc n) 0 ≡ false
not_none n = search (arith, nat_tests)

pub least_more : (xs : List ℕ) (x : ℕ) → least (xs ++ x ∷ []) ≡ cond (nat_eq (length xs) 0) x (min (least xs) x)
least_more [] x = refl
least_more (y ∷ xs) x = fold-append min y xs (x ∷ []) ∙ sym (cond-false (nat_eq (suc (length xs)) 0) x (min (fold min y xs) x) (not_none (length xs)))

pub greatest_more : (xs : List ℕ) (x : ℕ) → greatest (xs ++ x ∷ []) ≡ max (greatest xs) x
greatest_more [] x = omega arith
greatest_more (y ∷ xs) x = ap (max y) (greatest_more xs x) ∙ omega arith

-- no number in a list is above the greatest
pub below_greatest : (xs : List ℕ) (i : ℕ) → get_or xs i 0 ≤ greatest xs
below_greatest [] i = omega arith
below_greatest (x ∷ xs) zero = omega arith
below_greatest (x ∷ xs) (suc i) = let h = below_greatest xs i in omega arith

sum_more : (xs : List ℕ) (x : ℕ) → sum (xs ++ x ∷ []) ≡ sum xs + x
sum_more xs x = fold-append (λ a y. a + y) 0 xs (x ∷ [])

counts_more : {X : Type 0} (p : X → Bool) (xs : List X) (x : X) → count_by p (xs ++ x ∷ []) ≡ count_by p xs + cond (p x) 1 0
counts_more p xs x = fold-append (λ a y. a + cond (p y) 1 0) 0 xs (x ∷ [])

-- ---- the first of the greatest

-- none of the numbers is greater than the greatest
none_above : (fs : List Fact) (n : ℕ) → depth fs < n → find (λ f. f.square == n) fs ≡ None
none_above [] n h = refl
none_above (f ∷ fs) n h =
    let ne : (f.square == n) ≡ false = grind (arith, nat_tests) in
    cond-false (f.square == n) (Some f) (find (λ g. g.square == n) fs) ne ∙ none_above fs n (omega arith)

some_above : (gs : List Fact) (x : ℕ) → x < depth gs → 0 < length gs
some_above [] x h = omega arith
some_above (g ∷ gs) x h = omega arith

-- one of the numbers is the greatest
one_greatest : (fs : List Fact) → 0 < length fs → is_some (find (λ g. g.square == depth fs) fs) ≡ true
one_greatest [] l = absurd (omega arith)
one_greatest (f ∷ fs) l = elim (cases_Bool (nat_le (depth fs) f.square)) [
  | inl t ↦ (
      let e : (f.square == depth (f ∷ fs)) ≡ true = grind (arith, nat_tests) in
      ap is_some (cond-true (f.square == depth (f ∷ fs)) (Some f) (find (λ g. g.square == depth (f ∷ fs)) fs) e))
  | inr h ↦ (
      let ne : (f.square == depth (f ∷ fs)) ≡ false = grind (arith, nat_tests) in
      let s : depth (f ∷ fs) ≡ depth fs = grind (arith, nat_tests) in
      let a : f.square < depth fs = grind (arith, nat_tests) in
      ap is_some (cond-false (f.square == depth (f ∷ fs)) (Some f) (find (λ g. g.square == depth (f ∷ fs)) fs) ne ∙ ap (λ n. find (λ g. g.square == n) fs) s)
      ∙ one_greatest fs (some_above fs f.square a))
]

squares_more : (fs : List Fact) (f : Fact) → depth (fs ++ f ∷ []) ≡ max (depth fs) f.square
squares_more fs f = ap greatest (map-append (λ g. g.square) fs (f ∷ [])) ∙ greatest_more (map (λ g. g.square) fs) f.square

-- the first of all is the first before, unless the last one is greater
first_more : (fs : List Fact) (f : Fact) (n : ℕ) → n ≡ max (depth fs) f.square
    → find (λ g. g.square == n) (fs ++ f ∷ []) ≡ cond (is_some (find (λ g. g.square == depth fs) fs) && nat_le f.square (depth fs))
    (find (λ g. g.square == depth fs) fs) (Some f)
first_more [] f n e =
    let same : (f.square == n) ≡ true = grind (arith, nat_tests) in
    cond-true (f.square == n) (Some f) None same
first_more (h ∷ fs) f n e = elim (cases_Bool (nat_le f.square (depth (h ∷ fs)))) [
  | inl t ↦ (
      let s : n ≡ depth (h ∷ fs) = grind (arith, nat_tests) in
      let o = one_greatest (h ∷ fs) (omega arith) in
      find-append (λ g. g.square == n) (h ∷ fs) (f ∷ [])
      ∙ ap (λ m. option_or (find (λ g. g.square == m) (h ∷ fs)) (find (λ g. g.square == n) (f ∷ []))) s
      ∙ some_first (find (λ g. g.square == depth (h ∷ fs)) (h ∷ fs)) _ o
      ∙ sym (cond-true _ (find (λ g. g.square == depth (h ∷ fs)) (h ∷ fs)) (Some f) (and_from _ _ o t)))
  | inr t ↦ (
      let s : n ≡ f.square = grind (arith, nat_tests) in
      let a : depth (h ∷ fs) < n = grind (arith, nat_tests) in
      let same : (f.square == n) ≡ true = grind (arith, nat_tests) in
      find-append (λ g. g.square == n) (h ∷ fs) (f ∷ [])
      ∙ ap (λ o. option_or o (find (λ g. g.square == n) (f ∷ []))) (none_above (h ∷ fs) n a)
      ∙ cond-true (f.square == n) (Some f) None same
      ∙ sym (cond-false _ (find (λ g. g.square == depth (h ∷ fs)) (h ∷ fs)) (Some f) (and_right _ _ t)))
]
  where
    some_first : {X : Type 0} (a b : Option X) → is_some a ≡ true → option_or a b ≡ a
    some_first (Some x) b o = refl
    some_first None b o = cc

deepest_more : (fs : List Fact) (f : Fact) → deepest (fs ++ f ∷ []) ≡ cond (is_some (deepest fs) && nat_le f.square (depth fs)) (deepest fs) (Some f.point)
deepest_more fs f =
    ap (option_map (λ g. g.point)) (first_more fs f (depth (fs ++ f ∷ [])) (squares_more fs f))
    ∙ mapped (find (λ g. g.square == depth fs) fs) (nat_le f.square (depth fs)) f
  where
    mapped : (o : Option Fact) (b : Bool) (f : Fact)
        → option_map (λ (g : Fact). g.point) (cond (is_some o && b) o (Some f)) ≡ cond (is_some (option_map (λ (g : Fact). g.point) o) && b)
        (option_map (λ (g : Fact). g.point) o) (Some f.point)
    mapped None b f = refl
    mapped (Some o) true f = refl
    mapped (Some o) false f = refl

-- ---- all measures

span_more : (k : ℕ) (fs : List Fact) (f : Fact) → span k (fs ++ f ∷ []) ≡ span_with (length fs) (span k fs) (nat_abs (coordinate f.point k))
span_more k fs f =
    let x = nat_abs (coordinate f.point k) in
    let xs = coordinates k fs in
    let e : coordinates k (fs ++ f ∷ []) ≡ xs ++ x ∷ [] = map-append (λ g. nat_abs (coordinate g.point k)) fs (f ∷ []) in
    let l : length xs ≡ length fs = length-map fs (λ g. nat_abs (coordinate g.point k)) in
    let a = ap least e ∙ least_more xs x ∙ ap (λ n. cond (nat_eq n 0) x (min (least xs) x)) l in
    let b = ap greatest e ∙ greatest_more xs x in
    let c = ap sum e ∙ sum_more xs x in
    λ i. record { least = a i; greatest = b i; sum = c i }

-- the measures of an object whose last point has the fact f
pub measures_more : (fs : List Fact) (f : Fact) → measures_of (fs ++ f ∷ []) ≡ measures_with (measures_of fs) f
measures_more fs f =
    let n : length (fs ++ f ∷ []) ≡ length fs + 1 = omega (arith, length-append fs (f ∷ [])) in
    let x = span_more 0 fs f in
    let y = span_more 1 fs f in
    let z = span_more 2 fs f in
    let d = squares_more fs f in
    let p = deepest_more fs f in
    let s = counts_more is_left fs f in
    let e = counts_more (λ g. is_end g.left) fs f in
    let j = counts_more (λ g. is_junction g.left) fs f in
    let o : sum_by (λ (g : Fact). g.exposed) (fs ++ f ∷ []) ≡ sum_by (λ (g : Fact). g.exposed) fs + f.exposed = sum_by_push (λ g. g.exposed) fs f in
    let t : list_any (λ g. g.rim) (fs ++ f ∷ []) ≡ (list_any (λ g. g.rim) fs || f.rim) = list_any-append (λ g. g.rim) fs (f ∷ [])
    ∙ ap (λ b. list_any (λ g. g.rim) fs || b) (or-false f.rim) in
    λ i. record { area = n i; x = x i; y = y i; z = z i; depth = d i; deepest = p i; skeleton = s i; ends = e i; junctions = j i; exposed = o i; touches = t i }
