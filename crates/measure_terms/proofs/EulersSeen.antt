-- Euler numbers by labels are those of components: the same sets of points; and of labels that were read so far.
-- Sets of points and labels alone.
use Rattle.std.proofs.Common.{◌≡◌, ◌⊎◌, inl, inr, ℕ, ◌+◌, ◌<◌, List, get_or, sym, ap, ◌∙◌, arith}
use Rattle.std.specs.Prelude.{ℤ, pos, IsTrue}
use Rattle.shape_terms.specs.Points.{Point, box_count, in_box, raster_number, raster_point}
use Rattle.shape_terms.proofs.Boxes.{raster_below, raster_point-raster_number}
use Rattle.measure_terms.specs.Feret.{HasLabel}
use Rattle.measure_terms.specs.Cells.{IsCell, IsEulerNumber}
use Rattle.measure_terms.specs.Seen.{IsSeen}
use Rattle.measure_terms.proofs.CellSums.{same_sum, no_cells}
use Rattle.measure_terms.proofs.OneCubeMore.{IsWith}

-- the same set of points has the same Euler number
pub same_euler : (S T : Point → Type 0) (n : ℤ) → ((p : Point) → S p → T p) → ((p : Point) → T p → S p) → IsEulerNumber S n → IsEulerNumber T n
same_euler S T n to back h = same_sum (IsCell S) (IsCell T) n
    (λ c t. record { point = t.point; within = to t.point t.within; cell = t.cell })
    (λ c t. record { point = t.point; within = back t.point t.within; cell = t.cell }) h

-- ---- points that were read

pub none_seen : (sides labels : List ℕ) (k : ℕ) → IsEulerNumber (IsSeen sides labels k 0) (pos 0)
none_seen sides labels k = no_cells (IsCell (IsSeen sides labels k 0)) (λ c t. let l = t.within.below in omega (arith, l))

pub all_seen : (sides labels : List ℕ) (k : ℕ) (n : ℤ) → IsEulerNumber (IsSeen sides labels k (box_count sides)) n → IsEulerNumber (HasLabel sides labels k) n
all_seen sides labels k n h = same_euler (IsSeen sides labels k (box_count sides)) (HasLabel sides labels k) n
    (λ p s. s.is) (λ p s. record { is = s; below = raster_below sides p s.inside }) h

more_seen : (sides labels : List ℕ) (k i : ℕ) (p : Point) → IsSeen sides labels k i p → IsSeen sides labels k (i + 1) p
more_seen sides labels k i p s = let l = s.below in record { is = s.is; below = omega (arith, l) }

last_or_before : (sides labels : List ℕ) (k i : ℕ) (p : Point) → IsSeen sides labels k (i + 1) p → IsSeen sides labels k i p ⊎ (raster_number sides p ≡ i)
last_or_before sides labels k i p s =
    let l = s.below in
    let split : (raster_number sides p < i) ⊎ (raster_number sides p ≡ i) = grind (arith, l) in
    elim split [ inl m ↦ inl (record { is = s.is; below = m }) | inr e ↦ inr e ]

-- a point with another label
pub other_seen : (sides labels : List ℕ) (k i : ℕ) (n : ℤ) → (get_or labels i 0 ≡ k → ⊥) → IsEulerNumber (IsSeen sides labels k i) n
    → IsEulerNumber (IsSeen sides labels k (i + 1)) n
other_seen sides labels k i n other h = same_euler (IsSeen sides labels k i) (IsSeen sides labels k (i + 1)) n (more_seen sides labels k i)
    (λ p s. elim (last_or_before sides labels k i p s) [ inl t ↦ t | inr e ↦ absurd (other (ap (λ j. get_or labels j 0) (sym e) ∙ s.is.label)) ]) h

-- a point with the label
pub one_seen : (sides labels : List ℕ) (k i : ℕ) (p : Point) → get_or labels i 0 ≡ k → IsTrue (in_box sides p) → raster_number sides p ≡ i
    → IsWith (IsSeen sides labels k i) p (IsSeen sides labels k (i + 1))
one_seen sides labels k i p label inside number = record {
  old = more_seen sides labels k i;
  new = record { is = record { inside = inside; label = ap (λ j. get_or labels j 0) number ∙ label }; below = omega (arith, number) };
  only = λ q s. elim (last_or_before sides labels k i q s) [
    | inl t ↦ inl t
    | inr e ↦ inr (sym (raster_point-raster_number sides p inside) ∙ ap (raster_point sides) (number ∙ sym e) ∙ raster_point-raster_number sides q s.is.inside)
  ];
}

pub not_yet_seen : (sides labels : List ℕ) (k i : ℕ) (p : Point) → raster_number sides p ≡ i → IsSeen sides labels k i p → ⊥
not_yet_seen sides labels k i p number s = let l = s.below in omega (arith, number, l)
