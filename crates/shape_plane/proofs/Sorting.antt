-- Refused points in the order of their raster numbers, and how many points of a box there are.
-- How the code sorts belongs elsewhere.
use Rattle.std.proofs.Common.{◌≡◌, ℕ, ◌<◌, ◌≤◌, ◌⊎◌, inl, inr, List, [], ◌∷◌, length, get_or, set, sym, ap, subst, ◌∙◌, arith, get_or-set_other}
use Rattle.std.proofs.Common.{get_or-set_same}
use Rattle.std.specs.Prelude.{◌≢◌, ◌==◌, if◌then◌else◌, IsTrue, Contains, AllPairs, IsPermutation}
use Rattle.std.specs.List.{swap}
use Rattle.std.specs.Cmp.{nat_cmp_is}
use Rattle.std.specs.declared.cmp.Ordering.TheVariants.{Less}
use Rattle.std.proofs.lemmas.List.{get_or_default, length-set}
use Rattle.std.proofs.lemmas.List.Elements.{Contains-get_or}
use Rattle.std.proofs.lemmas.List.Edits.{length-swap}
use Rattle.std.proofs.lemmas.List.Sorted.{IsPermutation-keeps}
use native.Mathlib.Decide.{ℕ_discrete}
use Rattle.shape_terms.specs.Points.{Point, in_box, box_count, raster_number, raster_point}
use Rattle.shape_terms.specs.Steps.{Before}
use Rattle.shape_terms.proofs.Boxes.{raster_below, raster_point-raster_number}
use Rattle.shape_terms.proofs.RasterOrder.{raster_rises}
use Rattle.shape_terms.proofs.Pigeon.{pigeon}
use Rattle.shape_plane.specs.Trials.{Refusal}

-- ---- two elements that change their places

abbrev place : ℕ → ℕ → ℕ → ℕ
place i j k = if k == j then i else (if k == i then j else k)

at_last : (i j : ℕ) → place i j j ≡ i
at_last i j = grind arith

at_first : (i j : ℕ) → (i ≡ j → ⊥) → place i j i ≡ j
at_first i j n = grind arith

at_others : (i j k : ℕ) → (k ≡ j → ⊥) → (k ≡ i → ⊥) → place i j k ≡ k
at_others i j k n m = grind arith

place_below : (i j k n : ℕ) → i < n → j < n → k < n → place i j k < n
place_below i j k n hi hj hk = grind arith

place_once : (i j a b : ℕ) → place i j a ≡ place i j b → a ≡ b
place_once i j a b e = grind arith

get_swapped : {X : Type 0} (l : List X) (i j k : ℕ) (d : X) → i < length l → j < length l → get_or (swap l i j) k d ≡ get_or l (place i j k) d
get_swapped [] i j k d hi hj = absurd (omega arith)
get_swapped {X} (x ∷ ys) i j k d hi hj = elim (ℕ_discrete k j) [
  | yes e ↦ (
      ap (λ (n : ℕ). get_or (swap (x ∷ ys) i j) n d) e
      ∙ get_or-set_same (set (x ∷ ys) i (get_or (x ∷ ys) j x)) j (get_or (x ∷ ys) i x) d
      (let m = length-set (x ∷ ys) i (get_or (x ∷ ys) j x) in omega (arith, m, hj))
      ∙ get_or_default (x ∷ ys) i x d hi
      ∙ ap (λ (n : ℕ). get_or (x ∷ ys) n d) (sym (ap (place i j) e ∙ at_last i j)))
  | no n ↦ get_or-set_other (set (x ∷ ys) i (get_or (x ∷ ys) j x)) j k (get_or (x ∷ ys) i x) d n ∙ elim (ℕ_discrete k i) [
    | yes e ↦ (
        ap (λ (n : ℕ). get_or (set (x ∷ ys) i (get_or (x ∷ ys) j x)) n d) e
        ∙ get_or-set_same (x ∷ ys) i (get_or (x ∷ ys) j x) d hi
        ∙ get_or_default (x ∷ ys) j x d hj
        ∙ ap (λ (m : ℕ). get_or (x ∷ ys) m d) (sym (ap (place i j) e ∙ at_first i j (λ f. n (e ∙ f)))))
    | no m ↦ get_or-set_other (x ∷ ys) i k (get_or (x ∷ ys) j x) d m ∙ ap (λ (z : ℕ). get_or (x ∷ ys) z d) (sym (at_others i j k n m))
  ]
]

order : (a b : ℕ) → (a < b) ⊎ ((a ≡ b) ⊎ (b < a))
order a b = grind arith

pairs_swapped : {X : Type 0} (R : X → X → Type 0) → ((x y : X) → R x y → R y x) → (l : List X) (i j : ℕ) → i < length l → j < length l → AllPairs R l
    → AllPairs R (swap l i j)
pairs_swapped {X} R turn l i j hi hj h a b d lt lb = subst (λ (x : X). R x (get_or (swap l i j) b d)) (sym (get_swapped l i j a d hi hj))
    (subst (λ (y : X). R (get_or l (place i j a) d) y) (sym (get_swapped l i j b d hi hj)) (by (order (place i j a) (place i j b))))
  where
    below : b < length l
    below = let n = length-swap l i j in omega (arith, n, lb)

    by : (place i j a < place i j b) ⊎ ((place i j a ≡ place i j b) ⊎ (place i j b < place i j a)) → R (get_or l (place i j a) d) (get_or l (place i j b) d)
    by (inl less) = h (place i j a) (place i j b) d less (place_below i j b (length l) hi hj below)
    by (inr (inl e)) = absurd (let f = place_once i j a b e in omega (arith, f, lt))
    by (inr (inr more)) = turn (get_or l (place i j b) d) (get_or l (place i j a) d)
        (h (place i j b) (place i j a) d more (place_below i j a (length l) hi hj (omega (arith, below, lt))))

abbrev pub Apart : Refusal → Refusal → Type 0
Apart a b = a.point ≢ b.point

pub apart_sorted : (xs ys : List Refusal) → IsPermutation xs ys → AllPairs Apart xs → AllPairs Apart ys
apart_sorted xs ys p h = IsPermutation-keeps xs (AllPairs Apart) h (λ l i j hi hj k. pairs_swapped Apart (λ x y n e. n (sym e)) l i j hi hj k) ys p

-- ---- raster order

pub before_by_number : (sides : List ℕ) (p q : Point) → IsTrue (in_box sides p) → IsTrue (in_box sides q) → p ≢ q
    → raster_number sides p ≤ raster_number sides q → Before p q
before_by_number sides p q i j n l = raster_rises sides p q i j
    ∙ sym (nat_cmp_is (raster_number sides p) (raster_number sides q) Less
    (less (λ e. n (sym (raster_point-raster_number sides p i) ∙ ap (raster_point sides) e ∙ raster_point-raster_number sides q j))))
  where
    less : (raster_number sides p ≡ raster_number sides q → ⊥) → raster_number sides p < raster_number sides q
    less m = omega (arith, l, m)

-- ---- points of a box, each once

pub few_points : (sides : List ℕ) (ps : List Point) → AllPairs (λ p q. p ≡ q → ⊥) ps → ((p : Point) → Contains ps p → IsTrue (in_box sides p))
    → length ps ≤ box_count sides
few_points sides ps once inside = pigeon (box_count sides) (length ps) (λ k. raster_number sides (get_or ps k []))
    (λ i l. raster_below sides (get_or ps i []) (box i l)) apart
  where
    box : (i : ℕ) → i < length ps → IsTrue (in_box sides (get_or ps i []))
    box i l = inside (get_or ps i []) (Contains-get_or ps i [] l)

    same : (i j : ℕ) → i < length ps → j < length ps → raster_number sides (get_or ps i []) ≡ raster_number sides (get_or ps j [])
        → get_or ps i [] ≡ get_or ps j []
    same i j a b e = sym (raster_point-raster_number sides (get_or ps i []) (box i a)) ∙ ap (raster_point sides) e
        ∙ raster_point-raster_number sides (get_or ps j []) (box j b)

    apart : (i j : ℕ) → i < length ps → j < length ps → raster_number sides (get_or ps i []) ≡ raster_number sides (get_or ps j []) → i ≡ j
    apart i j a b e = by (order i j)
      where
        by : (i < j) ⊎ ((i ≡ j) ⊎ (j < i)) → i ≡ j
        by (inl l) = absurd (once i j [] l b (same i j a b e))
        by (inr (inl f)) = f
        by (inr (inr l)) = absurd (once j i [] l a (same j i b a (sym e)))
