-- The moments of the objects with one point of the box more.
-- Labels and lists of moments alone.
use Rattle.std.proofs.Common.{◌≡◌, ◌⊎◌, inl, inr, ℕ, ◌+◌, ◌*◌, ◌<◌, ◌≤◌, Bool, true, false, List, [], ◌∷◌, ◌++◌, length, map, get_or, set, sym, ap, ◌∙◌, arith}
use Rattle.std.specs.Prelude.{◌==◌, filter}
use Rattle.std.specs.List.{range_with_len}
use Rattle.std.proofs.lemmas.Bool.{cond-true, cond-false}
use Rattle.std.proofs.lemmas.Bool.Decides.{nat_tests}
use Rattle.std.proofs.lemmas.List.{length-append, length-set, get_or-set_same, get_or-set_other, append-nil}
use Rattle.std.proofs.lemmas.List.Elements.{filter-append}
use Rattle.std.proofs.lemmas.List.FromFn.{map-range_with_len_more, length-map-range_with_len}
use Rattle.std.proofs.lemmas.List.Sums.{sum_by_push, length-filter, count_by-le-length}
use Rattle.std.proofs.Math.ListN.{get_or-append}
use Rattle.std.proofs.Math.Seq.{get_or-append_seam}
use native.Mathlib.Decide.{ℕ_discrete}
use Rattle.shape_terms.specs.Points.{Point, box_count, raster_number, raster_point}
use Rattle.shape_terms.proofs.Boxes.{raster_number-raster_point}
use Rattle.shape_terms.proofs.BoxLists.{box_points_are}
use Rattle.measure_terms.specs.Moments.{Moments, place, moments_of, AreMoments}
use Rattle.measuring.specs.MomentsSoFar.{moments_with, labelled_below, AreMomentsSoFar}

-- ---- one point more

moments_more : (ps : List Point) (p : Point) → moments_of (ps ++ p ∷ []) ≡ moments_with (moments_of ps) p
moments_more ps p =
    let n : length (ps ++ p ∷ []) ≡ length ps + 1 = omega (arith, length-append ps (p ∷ [])) in
    let x = sum_by_push (place 0) ps p in
    let y = sum_by_push (place 1) ps p in
    let z = sum_by_push (place 2) ps p in
    let xx = sum_by_push (λ q. place 0 q * place 0 q) ps p in
    let xy = sum_by_push (λ q. place 0 q * place 1 q) ps p in
    let yy = sum_by_push (λ q. place 1 q * place 1 q) ps p in
    let xz = sum_by_push (λ q. place 0 q * place 2 q) ps p in
    let yz = sum_by_push (λ q. place 1 q * place 2 q) ps p in
    let zz = sum_by_push (λ q. place 2 q * place 2 q) ps p in
    λ i. record { count = n i; x = x i; y = y i; z = z i; xx = xx i; xy = xy i; yy = yy i; xz = xz i; yz = yz i; zz = zz i }

module _ (sides labels : List ℕ) where
  abbrev has : ℕ → Point → Bool
  has k p = get_or labels (raster_number sides p) 0 == k

  abbrev before : ℕ → List Point
  before i = map (raster_point sides) (range_with_len 0 i)

  before_more : (i : ℕ) → before (i + 1) ≡ before i ++ raster_point sides i ∷ []
  before_more i = map-range_with_len_more (raster_point sides) 0 i i (omega arith)

  -- the point with the number has the label
  point_labelled : (k i : ℕ) → i < box_count sides → get_or labels i 0 ≡ k
      → labelled_below sides labels k (i + 1) ≡ labelled_below sides labels k i ++ raster_point sides i ∷ []
  point_labelled k i l e =
      let p = raster_point sides i in
      let t : (get_or labels i 0 == k) ≡ true = grind (arith, nat_tests) in
      let here = ap (λ j. get_or labels j 0 == k) (raster_number-raster_point sides i l) ∙ t in
      ap (filter (has k)) (before_more i) ∙ filter-append (has k) (before i) (p ∷ [])
      ∙ ap (λ qs. filter (has k) (before i) ++ qs) (cond-true (has k p) (p ∷ []) [] here)

  -- it has another one
  point_other : (k i : ℕ) → i < box_count sides → (get_or labels i 0 ≡ k → ⊥) → labelled_below sides labels k (i + 1) ≡ labelled_below sides labels k i
  point_other k i l n =
      let p = raster_point sides i in
      let t : (get_or labels i 0 == k) ≡ false = grind (arith, nat_tests) in
      let here = ap (λ j. get_or labels j 0 == k) (raster_number-raster_point sides i l) ∙ t in
      ap (filter (has k)) (before_more i) ∙ filter-append (has k) (before i) (p ∷ [])
      ∙ ap (λ qs. filter (has k) (before i) ++ qs) (cond-false (has k p) (p ∷ []) [] here) ∙ append-nil (filter (has k) (before i))

  -- ---- the objects

  -- one object of no point more
  pub object_more : (ms : List Moments) (n : ℕ) → AreMomentsSoFar sides labels n 0 ms → AreMomentsSoFar sides labels (n + 1) 0 (ms ++ moments_of [] ∷ [])
  object_more ms n h =
      let count = h.count in
      let long = length-append ms (moments_of [] ∷ []) in
      record {
        count = omega (arith, long, count);
        each = λ k d l. (
            let split : (k ≡ length ms) ⊎ (k < length ms) = grind arith in
            elim split [
              | inl e ↦ ap (λ j. get_or (ms ++ moments_of [] ∷ []) j d) e ∙ get_or-append_seam ms (moments_of []) [] d
              | inr m ↦ get_or-append ms (moments_of [] ∷ []) d k m ∙ h.each k d (omega (arith, m, count))
            ]);
      }

  module _ (n i : ℕ) (ms : List Moments) (h : AreMomentsSoFar sides labels n i ms) where
    -- an object has no more points than were read
    pub few_points : (j : ℕ) (d : Moments) → j < n → (get_or ms j d).count ≤ i
    few_points j d l =
        let is = ap (λ (m : Moments). m.count) (h.each j d l) in
        omega (
          arith,
          is,
          length-filter (has (j + 1)) (before i),
          count_by-le-length (has (j + 1)) (before i),
          length-map-range_with_len (raster_point sides) 0
              i,
        )

    -- a point of none of them
    pub point_passed : i < box_count sides → (get_or labels i 0 ≡ 0) ⊎ (n < get_or labels i 0) → AreMomentsSoFar sides labels n (i + 1) ms
    point_passed below none = record {
      count = h.count;
      each = λ k d l. h.each k d l
          ∙ ap moments_of (sym (point_other (k + 1) i below (λ e. elim none [ inl z ↦ omega (arith, z, e) | inr m ↦ omega (arith, m, e, l) ])));
    }

    -- a point of one of them
    pub point_added : (j : ℕ) (d m : Moments) → i < box_count sides → j < n → get_or labels i 0 ≡ j + 1
        → m ≡ moments_with (get_or ms j d) (raster_point sides i) → AreMomentsSoFar sides labels n (i + 1) (set ms j m)
    point_added j d m below l label more =
        let count = h.count in
        let b : j < length ms = omega (arith, l, count) in
        record {
          count = length-set ms j m ∙ count;
          each = λ k c s. elim (ℕ_discrete k j) [
            | yes same ↦ ap (λ q. get_or (set ms j m) q c) same ∙ get_or-set_same ms j m c b ∙ more
                ∙ ap (λ o. moments_with o (raster_point sides i)) (h.each j d l)
                ∙ sym (moments_more (labelled_below sides labels (j + 1) i) (raster_point sides i)) ∙ ap moments_of (sym (point_labelled (j + 1) i below label))
                ∙ ap (λ q. moments_of (labelled_below sides labels (q + 1) (i + 1))) (sym same)
            | no other ↦ get_or-set_other ms j k m c other ∙ h.each k c s
                ∙ ap moments_of (sym (point_other (k + 1) i below (λ e. other (omega (arith, e, label)))))
          ];
        }

    -- all points of the box
    pub moments_are : i ≡ box_count sides → AreMoments sides labels n ms
    moments_are e = record {
      count = h.count;
      each = λ k d l. h.each k d l ∙ ap (λ j. moments_of (labelled_below sides labels (k + 1) j)) e
          ∙ ap (λ ps. moments_of (filter (has (k + 1)) ps)) (sym (box_points_are sides));
    }
