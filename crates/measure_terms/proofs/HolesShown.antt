-- The holes that a table counts for an object are those of its component, and one border more is its outer one.
-- By the law of the contours of a component, over the first cracks of the picture's cycles.
use Rattle.std.proofs.Common.{◌≡◌, ◌⊎◌, inl, inr, ℕ, suc, ◌+◌, ◌≤◌, ◌<◌, Bool, true, false, cond, refl, sym, ◌∙◌, ap, subst, arith, List, [], ◌∷◌, length, map}
use Rattle.std.specs.Prelude.{IsTrue, Contains, filter, count_by, ◌==◌, slice_index}
use Rattle.std.proofs.lemmas.Bool.{cases_Bool, both_ways}
use Rattle.std.proofs.lemmas.Bool.Decides.{nat_tests}
use Rattle.std.proofs.lemmas.List.{length-map}
use Rattle.std.proofs.lemmas.List.Sums.{length-filter}
use Rattle.std.proofs.lemmas.Simd.{map-map}
use Rattle.shape_terms.specs.Points.{Point, in_box, raster_number}
use Rattle.shape_terms.specs.Adjacency.{Near, Side}
use Rattle.shape_terms.specs.Pictures.{Picture, at}
use Rattle.shape_terms.specs.Contours.{Crack, first_of_cycle}
use Rattle.shape_terms.specs.Traces.{Contour, contour_of}
use Rattle.shape_terms.specs.Parts.{Object, LabelsObject, NamesParts, HasParts}
use Rattle.shape_terms.proofs.Boxes.{raster_below, raster_point-raster_number}
use Rattle.shape_terms.proofs.Numbered.{object_in_box}
use Rattle.shape_terms.proofs.SameCycles.{head_in, later_in}
use Rattle.measure_terms.specs.ComponentContours.{IsComponent, contours_of}
use Rattle.measure_terms.specs.Holes.{InHole, begins_low, inner_contours}
use Rattle.measure_terms.proofs.Labelled.{labelled_part}
use Rattle.measure_terms.proofs.Theorem.{jordan_in_the_plane, holes_in_the_plane}
use Rattle.measure_terms.specs.Borders.{Border}
use Rattle.measure_terms.specs.Objects.{label_at, is_hole, is_outer, bounds_of}
use Rattle.measure_terms.specs.Begins.{BeginAsContours}
use Rattle.measure_terms.specs.HolesShown.{has_label, borders_from, HolesShow}

-- ---- the component of a label

is_number : (n k : ℕ) → IsTrue (n == k) → n ≡ k
is_number n k t = grind (arith, nat_tests)

number_is : (n k : ℕ) → n ≡ k → IsTrue (n == k)
number_is n k e = grind (arith, nat_tests)

label_inside : (sides labels : List ℕ) (p : Point) → in_box sides p ≡ true → label_at sides labels p ≡ slice_index labels (raster_number sides p)
label_inside sides labels p t = rw t refl

label_outside : (sides labels : List ℕ) (p : Point) → in_box sides p ≡ false → label_at sides labels p ≡ 0
label_outside sides labels p f = rw f refl

module _ (X : Picture) (labels : List ℕ) (l : LabelsObject X labels) (k : ℕ) (some : 1 ≤ k) where
  abbrev own : Point → Bool
  own p = has_label X.sides labels k p

  abbrev label : Point → ℕ
  label p = slice_index labels (raster_number X.sides p)

  seen : (p : Point) → IsTrue (own p) → Object X p × (label p ≡ k)
  seen p t =
      let n : label_at X.sides labels p ≡ k = is_number (label_at X.sides labels p) k t in
      elim (cases_Bool (in_box X.sides p)) [
        | inr f ↦ (let z = label_outside X.sides labels p f in absurd (omega arith))
        | inl b ↦ (let e : label p ≡ k = sym (label_inside X.sides labels p b) ∙ n in
            elim (cases_Bool (at X p)) [
              | inl o ↦ (o, e)
              | inr f ↦ (let r = raster_point-raster_number X.sides p b in
                  let z = l.background (raster_number X.sides p) (raster_below X.sides p b) (ap (at X) r ∙ f) in absurd (omega arith))
            ])
      ]

  told : (p : Point) → Object X p → label p ≡ k → IsTrue (own p)
  told p o e = number_is (label_at X.sides labels p) k (label_inside X.sides labels p (object_in_box X p o) ∙ e)

  component_part : (n : ℕ) → NamesParts Near (Object X) n label → k ≤ n → IsComponent X own
  component_part n names few = labelled_part X n label names k some few own seen told

-- ---- counts over first cracks

-- how many of the cracks have a pixel of K
of_pixel : (K : Point → Bool) → List Crack → ℕ
of_pixel K cracks = length (filter (λ c. K c.pixel) cracks)

-- and how many of these have the side s
of_side : (K : Point → Bool) (s : ℕ) → List Crack → ℕ
of_side K s cracks = length (filter (λ c. c.side == s) (filter (λ c. K c.pixel) cracks))

filter_over : {A B : Type 0} (f : A → B) (p : B → Bool) (xs : List A) → filter p (map f xs) ≡ map f (filter (λ x. p (f x)) xs)
filter_over f p [] = refl
filter_over f p (x ∷ xs) = ap (λ l. cond (p (f x)) (f x ∷ l) l) (filter_over f p xs) ∙ by (p (f x)) (filter (λ x. p (f x)) xs)
  where
    by : (b : Bool) (l : List _) → cond b (f x ∷ map f l) (map f l) ≡ map f (cond b (x ∷ l) l)
    by true l = refl
    by false l = refl

-- as many as any things that have the cracks
module _ {A : Type 0} (f : A → Crack) (K : Point → Bool) where
  pixel_over : (xs : List A) → of_pixel K (map f xs) ≡ length (filter (λ x. K (f x).pixel) xs)
  unfolding of_pixel
  pixel_over xs = ap length (filter_over f (λ c. K c.pixel) xs) ∙ length-map (filter (λ x. K (f x).pixel) xs) f

  side_over : (s : ℕ) (xs : List A) → of_side K s (map f xs) ≡ length (filter (λ x. (f x).side == s) (filter (λ x. K (f x).pixel) xs))
  unfolding of_side
  side_over s xs =
      let of_k = filter (λ x. K (f x).pixel) xs in
      ap (λ (l : List Crack). length (filter (λ c. c.side == s) l)) (filter_over f (λ c. K c.pixel) xs)
      ∙ (ap length (filter_over f (λ c. c.side == s) of_k) ∙ length-map (filter (λ x. (f x).side == s) of_k) f)

-- ---- upper and lower first sides are all

is_zero : (n : ℕ) → (n ≡ 0) ⊎ (n ≡ 2) → (n == 2) ≡ false → (n == 0) ≡ true
is_zero n (inl e) f = grind (arith, nat_tests)
is_zero n (inr e) f = grind (arith, nat_tests)

no_zero : (n : ℕ) → (n == 2) ≡ true → (n == 0) ≡ false
no_zero n e = grind (arith, nat_tests)

one_of_two : (a b : Bool) (m n l : ℕ) → (b ≡ false → a ≡ true) → (b ≡ true → a ≡ false) → m + n ≡ l → cond a (suc m) m + cond b (suc n) n ≡ suc l
one_of_two true true m n l f g e = absurd (both_ways true (g refl) refl)
one_of_two true false m n l f g e = omega arith
one_of_two false true m n l f g e = omega arith
one_of_two false false m n l f g e = absurd (both_ways false refl (f refl))

length_kept : {A : Type 0} (b : Bool) (x : A) (xs : List A) → length (cond b (x ∷ xs) xs) ≡ cond b (suc (length xs)) (length xs)
length_kept true x xs = refl
length_kept false x xs = refl

-- the contours that begin with an upper side
abbrev high : List (List Crack) → List (List Crack)
high xss = filter (λ xs. (first_of_cycle xs).side == 0) xss

two_kinds : (xss : List (List Crack)) → ((xs : List Crack) → Contains xss xs → ((first_of_cycle xs).side ≡ 0) ⊎ ((first_of_cycle xs).side ≡ 2))
    → length (high xss) + length (filter begins_low xss) ≡ length xss
two_kinds [] h = refl
two_kinds (xs ∷ xss) h =
    let n = (first_of_cycle xs).side in
    let rest = two_kinds xss (λ ys i. h ys (later_in xs xss ys i)) in
    let a = length_kept (n == 0) xs (high xss) in
    let b = length_kept (n == 2) xs (filter begins_low xss) in
    rw (a, b) (one_of_two (n == 0) (n == 2) (length (high xss)) (length (filter begins_low xss)) (length xss)
    (is_zero n (h xs (head_in xs xss))) (no_zero n) rest)

-- ---- the law

-- the first cracks of the borders are those of the cycles
module _ (K : Point → Bool) (bs : List Border) (cycles : List (List Crack)) (same : map (λ (b : Border). b.start) bs ≡ map first_of_cycle cycles) where
  abbrev start : Border → Crack
  start b = b.start

  all_counted : length (filter (λ (b : Border). K b.start.pixel) bs) ≡ length (contours_of K cycles)
  all_counted = sym (pixel_over start K bs) ∙ (ap (of_pixel K) same ∙ pixel_over first_of_cycle K cycles)

  side_counted : (s : ℕ) → length (filter (λ (b : Border). b.start.side == s) (filter (λ (b : Border). K b.start.pixel) bs))
      ≡ length (filter (λ xs. (first_of_cycle xs).side == s) (contours_of K cycles))
  side_counted s = sym (side_over start K s bs) ∙ (ap (of_side K s) same ∙ side_over first_of_cycle K s cycles)

pub holes_shown : (X : Picture) → length X.sides ≡ 2 → (bs : List Border) → BeginAsContours X bs → (labels : List ℕ) → LabelsObject X labels
    → (n : ℕ) → NamesParts Near (Object X) n (λ p. slice_index labels (raster_number X.sides p)) → (k : ℕ) → k < n → HolesShow X labels (k + 1) bs
holes_shown X axes bs b labels l n names k few =
    let K = has_label X.sides labels (k + 1) in
    let own = borders_from X.sides labels (k + 1) bs in
    let cycles = b.are.cycles in
    let part = component_part X labels l (k + 1) (omega arith) n names (omega arith) in
    let same = b.starts ∙ (ap (map (λ (c : Contour). c.start)) b.are.contours_are ∙ map-map (λ (c : Contour). c.start) (contour_of X) cycles) in
    let j = jordan_in_the_plane X axes K cycles part b.are.are in
    let two = two_kinds (contours_of K cycles) j.level in
    let outer = j.outer in
    let all : length own ≡ length (contours_of K cycles) = all_counted K bs cycles same in
    let low : (bounds_of own).holes ≡ length (inner_contours K cycles) = sym (length-filter is_hole own) ∙ side_counted K bs cycles same 2 in
    let up : count_by is_outer own ≡ length (high (contours_of K cycles)) = sym (length-filter is_outer own) ∙ side_counted K bs cycles same 0 in
    record {
      component = part;
      outer = omega arith;
      others = omega arith;
      holes = subst (HasParts Side (InHole K)) (sym low) (holes_in_the_plane X axes K cycles part b.are.are);
    }
