-- The moments as the program keeps them, and those of the definitions: one object more, and one point more.
-- Lists of moments alone.
use Rattle.std.proofs.Common.{◌≡◌, ℕ, ◌+◌, ◌<◌, ◌≤◌, List, [], ◌∷◌, ◌++◌, length, map, get_or, set, subst, sym, ap, ◌∙◌, arith}
use Rattle.std.proofs.lemmas.List.{map-set, map-append, length-map, get_or-map}
use Rattle.shape_terms.specs.Points.{box_count, raster_point}
use Rattle.measure_terms.specs.Moments.{Moments, moments_of}
use Rattle.measuring.specs.MomentsSoFar.{moments_with, AreMomentsSoFar}
use Rattle.measuring.proofs.PointsRead.{object_more, few_points, point_added}

module _ {M : Type 0} (told : M → Moments) (sides labels : List ℕ) (all : List M) where
  pub one_empty_more : (more : List M) (m : M) (n : ℕ) → AreMomentsSoFar sides labels n 0 (map told all) → told m ≡ moments_of [] → more ≡ all ++ m ∷ []
      → AreMomentsSoFar sides labels (n + 1) 0 (map told more)
  one_empty_more more m n h e a =
      let is : map told more ≡ map told all ++ moments_of [] ∷ [] = ap (map told) a ∙ map-append told all (m ∷ []) ∙ ap (λ t. map told all ++ t ∷ []) e in
      subst (AreMomentsSoFar sides labels (n + 1) 0) (sym is) (object_more sides labels (map told all) n h)

  pub rows_count : (n i : ℕ) → AreMomentsSoFar sides labels n i (map told all) → length all ≡ n
  rows_count n i h = sym (length-map all told) ∙ h.count

  pub row_few : (n i j : ℕ) (d : M) → AreMomentsSoFar sides labels n i (map told all) → j < length all → (told (get_or all j d)).count ≤ i
  row_few n i j d h l =
      let is = ap (λ (m : Moments). m.count) (get_or-map told all j d (told d) l) in
      let count = rows_count n i h in
      omega (arith, is, few_points sides labels n i (map told all) h j (told d) (omega (arith, l, count)))

  pub row_added : (n i j : ℕ) (d m : M) → AreMomentsSoFar sides labels n i (map told all) → i < box_count sides → j < length all → get_or labels i 0 ≡ j + 1
      → told m ≡ moments_with (told (get_or all j d)) (raster_point sides i) → AreMomentsSoFar sides labels n (i + 1) (map told (set all j m))
  row_added n i j d m h below l label more =
      let count = rows_count n i h in
      subst (AreMomentsSoFar sides labels n (i + 1)) (sym (map-set told all j m))
      (point_added sides labels n i (map told all) h j (told d) (told m) below (omega (arith, l, count)) label
      (more ∙ ap (λ o. moments_with o (raster_point sides i)) (sym (get_or-map told all j d (told d) l))))
