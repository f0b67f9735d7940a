-- What `near` lines tell that are the field of a picture: its object, and its least squared distances.
-- Laws of lines and pictures; no thinning stands here.
use Rattle.std.proofs.Common.{◌≡◌, inl, inr, ℕ, zero, suc, ◌<◌, Bool, true, false, List, [], ◌∷◌, length, get_or, map, refl, ap, sym, ◌∙◌, subst, arith, Some}
use Rattle.std.proofs.Common.{None}
use Rattle.std.specs.Prelude.{IsTrue, ◌&&◌, ◌||◌, if◌then◌else◌, filter, filter_map}
use Rattle.std.specs.List.{list_any, cons_option, AllByRecursion}
use Rattle.std.proofs.lemmas.Bool.{cases_Bool, cond-true, cond-false}
use Rattle.std.proofs.lemmas.Option.{slice_get_within, get_or_from_slice_get}
use Rattle.std.proofs.lemmas.List.Elements.{recursion_from_All}
use Rattle.shape_terms.specs.Points.{Point, in_box, box_points, box_count, raster_number, raster_point}
use Rattle.shape_terms.specs.Pictures.{Picture, at, Least}
use Rattle.shape_terms.specs.Distances.{NearFact, IsField}
use Rattle.shape_terms.proofs.Boxes.{raster_below, raster_point_in, raster_point-raster_number}
use Rattle.shape_terms.proofs.BoxLists.{length-box_points, get_or-box_points}
use Rattle.shape_terms.specs.Thinning.{HasDistance}
use Rattle.report_terms.specs.Lines.{Line}
use Rattle.report_terms.specs.Shows.{near_fact}
use Rattle.report_lines.specs.Said.{is_same_point, near_point, square_for, is_near, last_or, square_of, values_of}
use Rattle.report_lines.specs.Tells.{AreSquares}
use Rattle.report_lines.proofs.SamePoints.{same_yes, same_only}
use Rattle.report_lines.proofs.BoxValues.{length-values_of, get_or-values_of}

-- ---- the object

-- the points of `near` lines are those of their facts
near_points : (lines : List Line) → filter_map near_point lines ≡ map (λ (f : NearFact). f.p) (filter_map near_fact lines)
near_points [] = refl
near_points (Line.Near p q s ∷ lines) = ap (λ t. p ∷ t) (near_points lines)
near_points (_ ∷ lines) = near_points lines

and_false : (b : Bool) → (b && false) ≡ false
and_false true = refl
and_false false = refl

and_true : (b : Bool) → (b && true) ≡ b
and_true true = refl
and_true false = refl

or_true : (b : Bool) → (b || true) ≡ true
or_true true = refl
or_true false = refl

-- a point is among those that pass a test where it passes it and is among them all
any_filter : (f : Point → Bool) (qs : List Point) (p : Point) → list_any (is_same_point p) (filter f qs) ≡ (f p && list_any (is_same_point p) qs)
any_filter f [] p = sym (and_false (f p))
any_filter f (q ∷ qs) p =
    let rest = any_filter f qs p in
    let all = list_any (is_same_point p) qs in
    elim (cases_Bool (f q)) [
      | inl y ↦
          ap (list_any (is_same_point p)) (cond-true (f q) (q ∷ filter f qs) (filter f qs) y)
          ∙ elim (cases_Bool (is_same_point p q)) [
            | inl s ↦
                let there : f p ≡ true = ap f (same_only p q s) ∙ y in
                ap (λ b. b || list_any (is_same_point p) (filter f qs)) s ∙ sym (λ i. there i && (s i || all))
            | inr n ↦ ap (λ b. b || list_any (is_same_point p) (filter f qs)) n ∙ rest ∙ sym (ap (λ b. f p && (b || all)) n)
          ]
      | inr m ↦
          ap (list_any (is_same_point p)) (cond-false (f q) (q ∷ filter f qs) (filter f qs) m)
          ∙ rest
          ∙ elim (cases_Bool (is_same_point p q)) [
            | inl s ↦
                let none : f p ≡ false = ap f (same_only p q s) ∙ m in
                ap (λ b. b && all) none ∙ sym (ap (λ b. b && (is_same_point p q || all)) none)
            | inr n ↦ sym (ap (λ b. f p && (b || all)) n)
          ]
    ]

-- a point at a place of a list is among its points
any_at : (qs : List Point) (i : ℕ) (p : Point) → i < length qs → get_or qs i [] ≡ p → list_any (is_same_point p) qs ≡ true
any_at [] i p l e = absurd (omega (arith, l))
any_at (q ∷ qs) zero p l e = ap (λ b. b || list_any (is_same_point p) qs) (same_yes p q (sym e))
any_at (q ∷ qs) (suc i) p l e = ap (λ b. is_same_point p q || b) (any_at qs i p (omega (arith, l)) e) ∙ or_true (is_same_point p q)

any_box : (sides : List ℕ) (p : Point) → IsTrue (in_box sides p) → list_any (is_same_point p) (box_points sides) ≡ true
any_box sides p h =
    let l = raster_below sides p h in
    any_at (box_points sides) (raster_number sides p) p (omega (arith, l, length-box_points sides))
    (get_or-box_points sides (raster_number sides p) [] l ∙ raster_point-raster_number sides p h)

-- the `near` lines of the field of a picture are about its object points
pub near_is_object : (X : Picture) (lines : List Line) → IsField X (filter_map near_fact lines) → (p : Point) → IsTrue (in_box X.sides p)
    → is_near lines p ≡ at X p
near_is_object X lines field p h =
    ap (list_any (is_same_point p)) (near_points lines ∙ field.points)
    ∙ any_filter (at X) (box_points X.sides) p ∙ ap (λ b. at X p && b) (any_box X.sides p h) ∙ and_true (at X p)

-- ---- the distances

-- there is a number
is_some : List ℕ → Bool
is_some [] = false
is_some (n ∷ ns) = true

last_in : (P : ℕ → Type 0) (n : ℕ) (ns : List ℕ) → AllByRecursion P ns → is_some ns ≡ true → P (last_or n ns)
unfolding is_some
last_in P n [] h e = cc
last_in P n (m ∷ []) h e = h.0
last_in P n (m ∷ k ∷ ns) h e = last_in P m (k ∷ ns) h.1 refl

last_none : (n : ℕ) (ns : List ℕ) → is_some ns ≡ false → last_or n ns ≡ n
unfolding is_some
last_none n [] e = refl
last_none n (m ∷ ns) e = cc

-- a `near` line is about the point exactly where some line gives it a number
near_some : (lines : List Line) (p : Point) → is_near lines p ≡ is_some (filter_map (square_for p) lines)
unfolding is_some
near_some [] p = refl
near_some (Line.Near q r n ∷ lines) p = elim (cases_Bool (is_same_point p q)) [
  | inl y ↦ ap (λ b. b || is_near lines p) y ∙ sym (ap (λ b. is_some (cons_option (if b then Some n else None) (filter_map (square_for p) lines))) y)
  | inr f ↦ ap (λ b. b || is_near lines p) f ∙ near_some lines p
      ∙ sym (ap (λ b. is_some (cons_option (if b then Some n else None) (filter_map (square_for p) lines))) f)
]
near_some (_ ∷ lines) p = near_some lines p

-- each number that is given for a point is its squared distance
all_least : (X : Picture) (lines : List Line) (p : Point) → AllByRecursion (λ (f : NearFact). Least X f.p f.q f.s) (filter_map near_fact lines)
    → AllByRecursion (HasDistance X p) (filter_map (square_for p) lines)
all_least X [] p h = tt
all_least X (Line.Near q r n ∷ lines) p h =
    let rest = all_least X lines p h.1 in
    elim (cases_Bool (is_same_point p q)) [
      | inl y ↦
          subst (λ (b : Bool). AllByRecursion (HasDistance X p) (cons_option (if b then Some n else None) (filter_map (square_for p) lines))) (sym y)
          ((r, subst (λ x. Least X x r n) (sym (same_only p q y)) h.0), rest)
      | inr f ↦ subst (λ (b : Bool). AllByRecursion (HasDistance X p) (cons_option (if b then Some n else None) (filter_map (square_for p) lines))) (sym f) rest
    ]
all_least X (_ ∷ lines) p h = all_least X lines p h

-- the squares that are said are the least squared distances
pub squares_told : (X : Picture) (lines : List Line) → IsField X (filter_map near_fact lines) → AreSquares X (values_of X.sides (square_of lines))
squares_told X lines field =
    let squares = values_of X.sides (square_of lines) in
    let near = λ (i : ℕ) (l : i < box_count X.sides). near_is_object X lines field (raster_point X.sides i) (raster_point_in X.sides i l) in
    let least = recursion_from_All (λ (f : NearFact). Least X f.p f.q f.s) (filter_map near_fact lines) field.least in
    record {
      all = length-values_of X.sides (square_of lines);
      object = λ i n e t.
          let l : i < box_count X.sides = omega (arith, slice_get_within squares i n e, length-values_of X.sides (square_of lines)) in
          let p = raster_point X.sides i in
          subst (HasDistance X p) (sym (get_or-values_of X.sides (square_of lines) i 0 l) ∙ get_or_from_slice_get squares i n 0 e)
          (last_in (HasDistance X p) 0 (filter_map (square_for p) lines) (all_least X lines p least) (sym (near_some lines p) ∙ near i l ∙ t));
      background = λ i n e t.
          let l : i < box_count X.sides = omega (arith, slice_get_within squares i n e, length-values_of X.sides (square_of lines)) in
          let p = raster_point X.sides i in
          sym (sym (get_or-values_of X.sides (square_of lines) i 0 l) ∙ get_or_from_slice_get squares i n 0 e)
          ∙ last_none 0 (filter_map (square_for p) lines) (sym (near_some lines p) ∙ near i l ∙ t);
    }
