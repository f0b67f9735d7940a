-- The contours of a component: all their pixels are its own, and the set of the cracks of one is closed under going on, both ways.
-- Nothing is said here of what is not in the component.
use Rattle.std.proofs.Common.{◌≡◌, inl, inr, ℕ, Bool, true, false, refl, sym, ◌∙◌, ap, subst, List, [], ◌∷◌, length}
use Rattle.std.specs.Prelude.{ℤ, negsuc, Contains, ◌&&◌, ◌↔◌, flat_map, slice_index_or}
use Rattle.std.proofs.lemmas.Bool.{cases_Bool, both_ways}
use Rattle.std.proofs.lemmas.List.Elements.{All-contains, All-filter, filter_passes}
use Rattle.std.proofs.Math.IntN.{ℤ_discrete}
use Rattle.shape_terms.specs.Points.{Point, in_box, raster_number}
use Rattle.shape_terms.specs.Pictures.{Picture, at}
use Rattle.shape_terms.specs.Contours.{Crack, IsCrack, successor, IsCycle, AreCycles, first_of_cycle}
use Rattle.shape_terms.proofs.Members.{Contains-filter}
use Rattle.shape_terms.proofs.Successor.{Place, point, crack_at, held, successor_is, successor_crack, object_axes, edge_crack}
use Rattle.shape_terms.proofs.Found.{All-each}
use Rattle.shape_terms.proofs.Leaving.{successor_close}
use Rattle.shape_terms.proofs.SameCycles.{head_in, of_list, list_of}
use Rattle.measure_terms.specs.ComponentContours.{IsComponent, contours_of}
use Rattle.measure_terms.proofs.OverSteps.{place_is}
use Rattle.measure_terms.proofs.Corner.{IsClosed}
use Rattle.measure_terms.proofs.Reaching.{IsWhole}
use Rattle.measure_terms.proofs.Planes.{place_of, point_of_place, close_near}
use Rattle.measure_terms.proofs.Cycles.{has, has_it, it_has, equal_values, all_of_cycle, on_cycle, off_cycle}

same_place : (p q : Place) → Dec (p ≡ q)
same_place p q = elim (ℤ_discrete p.0 q.0) [
  | yes e ↦ elim (ℤ_discrete p.1 q.1) [
    | yes f ↦ yes (place_is p.0 p.1 q.0 q.1 e f)
    | no f ↦ no (λ g. f (ap (λ (r : Place). r.1) g))
  ]
  | no e ↦ no (λ g. e (ap (λ (r : Place). r.0) g))
]

-- no object stands left of the box
pub none_left : (X : Picture) (n : ℕ) (y : ℤ) → held X (negsuc n, y) ≡ false
none_left X n y = by X.sides
  where
    by : (s : List ℕ) → (in_box s (negsuc n ∷ y ∷ []) && slice_index_or X.values (raster_number X.sides (negsuc n ∷ y ∷ [])) false) ≡ false
    by [] = refl
    by (w ∷ s) = refl

module _ (X : Picture) (axes : length X.sides ≡ 2) (K : Point → Bool) (part : IsComponent X K) where
  abbrev pub own : Place → Bool
  own p = K (point p)

  pub whole_places : IsWhole (held X) own
  whole_places = record {
    object = λ p k. part.object (point p) k;
    whole = λ p q k t c. elim (same_place p q) [
      | yes e ↦ subst (λ (r : Place). own r ≡ true) e k
      | no n ↦ part.whole (point p) (point q) k t (close_near p q n c)
    ];
  }

  pub bare_is_none : (p : Place) → held X p ≡ false → own p ≡ false
  bare_is_none p h = elim (cases_Bool (own p)) [
    | inl k ↦ absurd (both_ways (held X p) h (part.object (point p) k))
    | inr f ↦ f
  ]

  -- the component has the pixel of the next crack
  pub next_own : (c : Crack) → IsCrack X c → K c.pixel ≡ true → K (successor X c).pixel ≡ true
  next_own c k h =
      let d = successor X c in
      let l = successor_crack X axes c k in
      let a = point_of_place c.pixel (object_axes X c.pixel k.pixel ∙ axes) in
      let b = point_of_place d.pixel (object_axes X d.pixel l.pixel ∙ axes) in
      let n = successor_close X axes c k in
      subst (λ (p : Point). K p ≡ true) b
      (whole_places.whole (place_of c.pixel) (place_of d.pixel) (subst (λ (p : Point). K p ≡ true) (sym a) h)
      (subst (λ (p : Point). at X p ≡ true) (sym b) l.pixel) (n 0, n 1))

module _ (X : Picture) (axes : length X.sides ≡ 2) (K : Point → Bool) (part : IsComponent X K) (cycles : List (List Crack)) (are : AreCycles X cycles) where
  abbrev pub IsContour : List Crack → Type 0
  IsContour xs = Contains (contours_of K cycles) xs

  pub cycle_of : (xs : List Crack) → IsContour xs → Contains cycles xs
  cycle_of xs i = All-contains (Contains cycles) (contours_of K cycles) xs
      (All-filter (λ (xs : List Crack). K (first_of_cycle xs).pixel) (Contains cycles) cycles (All-each (Contains cycles) cycles (λ x j. j))) i

  pub first_own : (xs : List Crack) → IsContour xs → K (first_of_cycle xs).pixel ≡ true
  first_own xs i = All-contains (λ (xs : List Crack). K (first_of_cycle xs).pixel ≡ true) (contours_of K cycles) xs
      (filter_passes (λ (xs : List Crack). K (first_of_cycle xs).pixel) cycles) i

  pub is_cycle : (xs : List Crack) → IsContour xs → IsCycle X xs
  is_cycle xs i = All-contains (IsCycle X) cycles xs are.cycle (cycle_of xs i)

  pub is_crack : (xs : List Crack) → Contains cycles xs → (c : Crack) → Contains xs c → IsCrack X c
  is_crack xs i c j = (are.each c).1 (of_list cycles xs c i j)

  abbrev pub IsOwn : Crack → Type 0
  IsOwn c = IsCrack X c × (K c.pixel ≡ true)

  pub own_on : (c : Crack) → IsOwn c → IsOwn (successor X c)
  own_on c h = (successor_crack X axes c h.0, next_own X axes K part c h.0 h.1)

  pub first_in : (xs : List Crack) → IsCycle X xs → Contains xs (first_of_cycle xs)
  first_in [] y = absurd y
  first_in (c ∷ xs) y = head_in c xs

  pub own_crack : (xs : List Crack) → IsContour xs → (c : Crack) → Contains xs c → IsOwn c
  own_crack xs i c j =
      let y = is_cycle xs i in
      let f = first_in xs y in
      all_of_cycle X IsOwn own_on xs y (first_of_cycle xs) c f j (is_crack xs (cycle_of xs i) (first_of_cycle xs) f, first_own xs i)

  -- the cycle of a crack of the component is a contour of it
  pub contour_of : (c : Crack) → IsCrack X c → K c.pixel ≡ true → (xs : List Crack) × IsContour xs × Contains xs c
  contour_of c k h =
      let r = list_of cycles c ((are.each c).0 k) in
      let y : IsCycle X r.0 = All-contains (IsCycle X) cycles r.0 are.cycle r.1 in
      let m = all_of_cycle X IsOwn own_on r.0 y c (first_of_cycle r.0) r.2 (first_in r.0 y) (k, h) in
      (r.0, Contains-filter (λ (xs : List Crack). K (first_of_cycle xs).pixel) cycles r.0 r.1 m.1, r.2)

  -- on the contours of the component stand all cracks of its pixels, and no others
  pub contour_cracks : (c : Crack) → IsOwn c ↔ Contains (flat_map (λ xs. xs) (contours_of K cycles)) c
  contour_cracks c = (
    λ h. (let t = contour_of c h.0 h.1 in of_list (contours_of K cycles) t.0 c t.1 t.2),
    λ i. (let t = list_of (contours_of K cycles) c i in own_crack t.0 t.1 c t.2),
  )

  -- ---- the set of the cracks of one contour

  module _ (xs : List Crack) (i : IsContour xs) where
    abbrev pub set : Place → ℕ → Bool
    set p d = has xs (crack_at p d)

    pub set_closed : IsClosed (held X) set
    set_closed p d e =
        let c = crack_at p d in
        let k = edge_crack X (p, d) e in
        equal_values (has xs c) (has xs (successor X c))
        (λ h. has_it xs (successor X c) (on_cycle X xs (is_cycle xs i) c (it_has xs c h)))
        (λ h. has_it xs c (off_cycle X axes xs (is_cycle xs i) (is_crack xs (cycle_of xs i)) c k (it_has xs (successor X c) h)))
        ∙ ap (has xs) (successor_is X p d)

    pub set_own : (p : Place) (d : ℕ) → K (point p) ≡ false → set p d ≡ false
    set_own p d n = elim (cases_Bool (has xs (crack_at p d))) [
      | inl t ↦ absurd (both_ways (K (point p)) n (own_crack xs i (crack_at p d) (it_has xs (crack_at p d) t)).1)
      | inr f ↦ f
    ]
