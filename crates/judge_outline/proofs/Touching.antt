-- The next point that touches a patch, and whether all were refused, by the raster numbers of the touching points.
-- Laws over lists of points and of numbers.
use Rattle.std.proofs.Common.{◌≡◌, ℕ, zero, suc, ◌+◌, ◌<◌, ◌≤◌, ap, sym, ◌∙◌, subst, arith, inl, inr, List, length, take}
use Rattle.std.specs.Prelude.{Contains, slice_index, IsTrue}
use Rattle.std.specs.Ordering.{nat_cmp}
use Rattle.std.specs.Cmp.{nat_cmp_is}
use Rattle.std.specs.declared.cmp.Ordering.TheVariants.{Less, Equal, Greater}
use Rattle.std.proofs.lemmas.Bool.{cases_lt}
use Rattle.std.proofs.lemmas.List.{get_or_default}
use Rattle.std.proofs.lemmas.List.Elements.{Contains-get_or}
use Rattle.std.proofs.lemmas.Option.{slice_get-get_or, slice_get_within, get_or_from_slice_get}
use native.Mathlib.Decide.{ℕ_discrete}
use Rattle.shape_terms.specs.Points.{Point, in_box, raster_number, raster_point}
use Rattle.shape_terms.specs.Steps.{Before}
use Rattle.shape_terms.proofs.Boxes.{raster_point-raster_number, raster_number-raster_point}
use Rattle.shape_terms.proofs.Members.{Contains-map}
use Rattle.shape_terms.proofs.RasterOrder.{raster_rises}
use Rattle.report_terms.specs.FaceLines.{IsTouching, IsNextTouching}
use Rattle.judge_outline.specs.Exposure.{AreTouching, first_points}
use Rattle.shape_terms.proofs.Places.{of_place, of_front, of_map, place_take}

-- ---- raster order by numbers

pub less_of : (a b : ℕ) → nat_cmp a b ≡ Less → a < b
less_of a b e = elim (cases_lt a b) [
  | inl h ↦ h
  | inr h ↦ elim (ℕ_discrete a b) [
    | yes s ↦ absurd (let k = nat_cmp_is a b Equal s in cc)
    | no n ↦ absurd (let k = nat_cmp_is a b Greater (omega arith) in cc)
  ]
]

pub before_of : (sides : List ℕ) (p q : Point) → IsTrue (in_box sides p) → IsTrue (in_box sides q) → raster_number sides p < raster_number sides q → Before p q
before_of sides p q h k l = raster_rises sides p q h k ∙ sym (nat_cmp_is (raster_number sides p) (raster_number sides q) Less l)

pub of_before : (sides : List ℕ) (p q : Point) → IsTrue (in_box sides p) → IsTrue (in_box sides q) → Before p q → raster_number sides p < raster_number sides q
of_before sides p q h k b = less_of (raster_number sides p) (raster_number sides q) (sym (raster_rises sides p q h k) ∙ b)

-- ---- touching points

module _ (sides : List ℕ) (exposed taken patch : List Point) (numbers : List ℕ) (h : AreTouching sides exposed taken patch numbers)
    (inside : (q : Point) → Contains exposed q → IsTrue (in_box sides q)) where
  -- the point at a place
  point : ℕ → Point
  point k = raster_point sides (slice_index numbers k)

  there : (k : ℕ) → k < length numbers → Contains numbers (slice_index numbers k)
  there k l = Contains-get_or numbers k 0 l

  pub is_touching : (k : ℕ) → k < length numbers → IsTouching exposed taken patch (raster_point sides (slice_index numbers k))
  is_touching k l = h.only (slice_index numbers k) (there k l)

  number : (k : ℕ) → k < length numbers → raster_number sides (raster_point sides (slice_index numbers k)) ≡ slice_index numbers k
  number k l = raster_number-raster_point sides (slice_index numbers k) (h.below (slice_index numbers k) (there k l))

  far : (i j : ℕ) → i < j → j < length numbers → slice_index numbers i < slice_index numbers j
  far i zero l m = absurd (omega arith)
  far i (suc j) l m =
      let q : suc j ≡ j + 1 = omega arith in
      let r = h.rising j (omega arith) in
      let up : slice_index numbers j < slice_index numbers (suc j) = subst (λ k. slice_index numbers j < slice_index numbers k) (sym q) r in
      elim (cases_lt i j) [
        | inl a ↦ (let f = far i j a (omega arith) in omega arith)
        | inr b ↦ (let e : i ≡ j = omega arith in subst (λ k. slice_index numbers k < slice_index numbers (suc j)) (sym e) up)
      ]

  -- no two places have one number
  once : (i j : ℕ) → i < length numbers → j < length numbers → slice_index numbers i ≡ slice_index numbers j → i ≡ j
  once i j l m e = elim (cases_lt i j) [
    | inl a ↦ absurd (let f = far i j a m in omega arith)
    | inr b ↦ elim (cases_lt j i) [
      | inl a ↦ absurd (let f = far j i a l in omega arith)
      | inr d ↦ omega arith
    ]
  ]

  -- the place of a touching point
  place : (q : Point) → IsTouching exposed taken patch q → (j : ℕ) × (j < length numbers) × (slice_index numbers j ≡ raster_number sides q)
  place q t = let c = h.each q t in (c.0, c.1, get_or_default numbers c.0 0 (raster_number sides q) c.1 ∙ c.2)

  refused_at : (k : ℕ) (q : Point) → Contains (first_points sides k numbers) q → (i : ℕ) × (i < k) × (i < length numbers)
      × (raster_point sides (slice_index numbers i) ≡ q)
  refused_at k q c =
      let r = of_map (raster_point sides) (take k numbers) q c in
      let f = of_front k numbers r.0 r.1 in
      (f.0, f.1, slice_get_within numbers f.0 r.0 f.2, ap (raster_point sides) (get_or_from_slice_get numbers f.0 r.0 0 f.2) ∙ r.2)

  refused_in : (k i : ℕ) → i < k → i < length numbers → Contains (first_points sides k numbers) (raster_point sides (slice_index numbers i))
  refused_in k i l m = Contains-map (raster_point sides) (take k numbers) (slice_index numbers i)
      (of_place (take k numbers) i (slice_index numbers i) (place_take k numbers i l ∙ slice_get-get_or numbers i 0 m))

  -- a point at a place is refused only where that place is before
  refused_place : (k j : ℕ) → j < length numbers → Contains (first_points sides k numbers) (raster_point sides (slice_index numbers j)) → j < k
  refused_place k j l c =
      let r = refused_at k (raster_point sides (slice_index numbers j)) c in
      let e = once r.0 j r.2 l (sym (number r.0 r.2) ∙ ap (raster_number sides) r.3 ∙ number j l) in
      let m = r.1 in
      omega arith

  pub next_yes : (k : ℕ) → k < length numbers → IsNextTouching exposed taken patch (first_points sides k numbers) (raster_point sides (slice_index numbers k))
  next_yes k l = record {
    touching = is_touching k l;
    new = λ c. (let m = refused_place k k l c in omega arith);
    next = λ q t b.
        let j = place q t in
        let p = raster_point sides (slice_index numbers k) in
        let less = of_before sides q p (inside q t.there) (inside p (is_touching k l).there) b in
        let e = number k l in
        let before : j.0 < k = elim (cases_lt j.0 k) [
          | inl a ↦ a
          | inr a ↦ elim (ℕ_discrete k j.0) [
            | yes s ↦ absurd (let v = ap (slice_index numbers) s in let u = j.2 in omega arith)
            | no n ↦ absurd (let f = far k j.0 (apart k j.0 a n) j.1 in let u = j.2 in omega arith)
          ]
        ] in
        subst (Contains (first_points sides k numbers)) (ap (raster_point sides) j.2 ∙ raster_point-raster_number sides q (inside q t.there))
        (refused_in k j.0 before j.1);
  }
    where
      apart : (a b : ℕ) → a ≤ b → (a ≡ b → ⊥) → a < b
      apart a b l n = omega arith

  pub next_only : (k : ℕ) (p : Point) → k ≤ length numbers → IsNextTouching exposed taken patch (first_points sides k numbers) p
      → (k < length numbers) × (raster_point sides (slice_index numbers k) ≡ p)
  next_only k p few n =
      let j = place p n.touching in
      let here : raster_point sides (slice_index numbers j.0) ≡ p = ap (raster_point sides) j.2 ∙ raster_point-raster_number sides p (inside p n.touching.there)
      in
      elim (cases_lt j.0 k) [
        | inl a ↦ absurd (n.new (subst (Contains (first_points sides k numbers)) here (refused_in k j.0 a j.1)))
        | inr b ↦ elim (ℕ_discrete k j.0) [
          | yes s ↦ (subst (λ i. i < length numbers) (sym s) j.1, ap (λ i. raster_point sides (slice_index numbers i)) s ∙ here)
          | no d ↦
              let l : k < j.0 = apart k j.0 b d in
              let m : k < length numbers = (let u = j.1 in omega arith) in
              let q = raster_point sides (slice_index numbers k) in
              let f = far k j.0 l j.1 in
              let e = number k m in
              let u = j.2 in
              let before = before_of sides q p (inside q (is_touching k m).there) (inside p n.touching.there) (omega arith) in
              absurd (let r = refused_place k k m (n.next q (is_touching k m) before) in omega arith)
        ]
      ]
    where
      apart : (a b : ℕ) → a ≤ b → (a ≡ b → ⊥) → a < b
      apart a b l n = omega arith

  -- all touching points are refused where the last place was passed
  pub full_yes : (q : Point) → IsTouching exposed taken patch q → Contains (first_points sides (length numbers) numbers) q
  full_yes q t =
      let j = place q t in
      subst (Contains (first_points sides (length numbers) numbers)) (ap (raster_point sides) j.2 ∙ raster_point-raster_number sides q (inside q t.there))
      (refused_in (length numbers) j.0 j.1 j.1)

  pub full_only : (k : ℕ) → k ≤ length numbers → ((q : Point) → IsTouching exposed taken patch q → Contains (first_points sides k numbers) q)
      → k ≡ length numbers
  full_only k few all = elim (cases_lt k (length numbers)) [
    | inl l ↦ absurd (let m = refused_place k k l (all (raster_point sides (slice_index numbers k)) (is_touching k l)) in omega arith)
    | inr m ↦ omega arith
  ]
