-- Each flat picture has a thinning by each rule: the least candidate is looked for, again and again, among the places that may still be one.
-- Whether a point is simple is told by the mask of its neighbours; distances are looked for in the framed box.
use Rattle.std.proofs.Common.{◌≡◌, ◌≢◌, ◌⊎◌, inl, inr, ℕ, zero, suc, ◌+◌, ◌<◌, ◌≤◌, Bool, true, false, refl, ap, sym, ◌∙◌, subst, arith, List, [], ◌∷◌, ◌++◌}
use Rattle.std.proofs.Common.{length, length-append, map}
use Rattle.std.specs.Prelude.{IsTrue, Contains, slice_index_or, ◌↔◌, if◌then◌else◌}
use Rattle.std.specs.List.{FoldsTo}
use Rattle.std.specs.Int.{bit_at}
use Rattle.std.specs.Simd.Lanes.{mask_l}
use Rattle.std.proofs.lemmas.List.Elements.{Contains-append_left, Contains-append_right, Contains-append_cases}
use Rattle.std.proofs.lemmas.Nat.{mul-le}
use Rattle.std.proofs.lemmas.Simd.{mask_l-lt}
use native.Mathlib.Decide.{dec_lt}
use Rattle.shape_terms.specs.Points.{Point, in_box, box_count, raster_number, raster_point, squared_distance}
use Rattle.shape_terms.specs.FramedBox.{framed_sides, framed_point}
use Rattle.shape_terms.specs.Pictures.{Picture, IsPicture, at}
use Rattle.shape_terms.specs.Adjacency.{near_steps}
use Rattle.shape_terms.specs.Parts.{Object}
use Rattle.shape_terms.specs.Simple.{IsSimple}
use Rattle.shape_terms.specs.Steps.{Before}
use Rattle.shape_terms.specs.Adjacency.{moved}
use Rattle.shape_terms.specs.Thinning.{Rule, Facts, Event, Stage, IsCandidate, HasDistance, near_count, IsNext, ThinStep, IsThinned, IsThinning, event_at}
use Rattle.shape_terms.specs.Thinning.{stage_after, opening_stage}
use Rattle.shape_terms.proofs.Boxes.{raster_point_in, raster_number-raster_point, raster_point-raster_number, raster_below}
use Rattle.shape_terms.proofs.FramedBoxes.{length-framed_point}
use Rattle.shape_terms.proofs.LinkTests.{row_is}
use Rattle.shape_terms.proofs.NearestFound.{corner_background, least_found}
use Rattle.shape_terms.proofs.ObjectPlaces.{object_in_box, length-raster_point}
use Rattle.shape_terms.proofs.OneValue.{value_gone, value_elsewhere}
use Rattle.shape_terms.proofs.PointTests.{same_point}
use Rattle.shape_terms.proofs.RasterOrder.{raster_rises, nat_less}
use Rattle.shape_terms.proofs.SameCycles.{head_in, later_in, in_cases, in_none}
use Rattle.shape_terms.proofs.ThinningOnce.{one_distance}
use Rattle.reports_exist.specs.Met.{HasThinning}
use Rattle.shape_adj.specs.NearMasks.{IsNearMask}
use Rattle.shape_topo.specs.Masks.{IsSimpleMask}
use Rattle.shape_topo.specs.SimpleTable.{simple_flat}
use Rattle.shape_topo.proofs.FlatTable.{simple_flat_is}
use Rattle.shape_topo.proofs.MaskNumbers.{simple_is}

-- ---- simple points

module _ (Y : Picture) (p : Point) (flat : length p ≡ 2) (axes : length Y.sides ≡ 2) where
  abbrev mask : ℕ
  mask = mask_l (map (λ v. at Y (moved p v)) (near_steps 2))

  mask_is : IsNearMask Y p mask
  mask_is k = subst (λ d. (bit_at mask k ≡ 1) ↔ ((k < length (near_steps d)) × (at Y (moved p (slice_index_or (near_steps d) k [])) ≡ true)))
      (sym flat) (row_is (λ v. at Y (moved p v)) (near_steps 2) k)

  mask_small : mask < 256
  mask_small = mask_l-lt (map (λ v. at Y (moved p v)) (near_steps 2))

  simple_or_not : IsSimple Y p ⊎ (IsSimple Y p → ⊥)
  simple_or_not = by (simple_flat mask) refl
    where
      there : IsSimpleMask 2 mask ↔ IsSimple Y p
      there = subst (λ d. IsSimpleMask d mask ↔ IsSimple Y p) flat (simple_is Y p mask (flat ∙ sym axes) mask_is)

      by : (b : Bool) → simple_flat mask ≡ b → IsSimple Y p ⊎ (IsSimple Y p → ⊥)
      by true e = inl (there.0 ((simple_flat_is mask mask_small).0 e))
      by false e = inr (λ s. (let t = (simple_flat_is mask mask_small).1 (there.1 s) in let z : false ≡ true = sym e ∙ t in cc))

-- ---- distances

module _ (X : Picture) (some : 0 < length X.sides) (p : Point) (inside : IsTrue (in_box X.sides p)) where
  -- of the first n places of the framed box
  record IsBest (n : ℕ) : Type 0 where
    place : ℕ
    below : place < box_count (framed_sides X.sides)
    dark : at X (framed_point X.sides place) ≡ false
    least : (j : ℕ) → j < n → at X (framed_point X.sides j) ≡ false
        → squared_distance p (framed_point X.sides place) ≤ squared_distance p (framed_point X.sides j)

  first_best : IsBest 1
  first_best = record {
    place = 0;
    below = some_place;
    dark = (corner_background X some).value;
    least = λ j l d. subst (λ k. squared_distance p (framed_point X.sides 0) ≤ squared_distance p (framed_point X.sides k))
        (let q : 0 ≡ j = omega arith in q) (omega arith);
  }
    where
      some_place : 0 < box_count (framed_sides X.sides)
      some_place = positive X.sides
        where
          positive : (sides : List ℕ) → 0 < box_count (framed_sides sides)
          positive [] = omega arith
          positive (n ∷ sides) = let h = positive sides in let m = mul-le 1 1 (n + 2) (box_count (framed_sides sides)) (omega arith) h in omega arith

  better : (n : ℕ) → n < box_count (framed_sides X.sides) → IsBest n → IsBest (suc n)
  better n l b = by (at X (framed_point X.sides n)) refl
    where
      with_last : (b : IsBest n)
          → (at X (framed_point X.sides n) ≡ false → squared_distance p (framed_point X.sides b.place) ≤ squared_distance p (framed_point X.sides n))
          → IsBest (suc n)
      with_last b last = record {
        place = b.place;
        below = b.below;
        dark = b.dark;
        least = λ j m d. elim (dec_lt j n) [
          | yes q ↦ b.least j q d
          | no q ↦ (let e : n ≡ j = omega arith in
              subst (λ k. squared_distance p (framed_point X.sides b.place) ≤ squared_distance p (framed_point X.sides k)) e
              (last (ap (λ k. at X (framed_point X.sides k)) e ∙ d)))
        ];
      }

      new_one : at X (framed_point X.sides n) ≡ false
          → squared_distance p (framed_point X.sides n) < squared_distance p (framed_point X.sides b.place) → IsBest (suc n)
      new_one d s = record {
        place = n;
        below = l;
        dark = d;
        least = λ j m e. elim (dec_lt j n) [
          | yes q ↦ (let k = b.least j q e in omega arith)
          | no q ↦ subst (λ k. squared_distance p (framed_point X.sides n) ≤ squared_distance p (framed_point X.sides k))
              (let q : n ≡ j = omega arith in q) (omega arith)
        ];
      }

      by : (t : Bool) → at X (framed_point X.sides n) ≡ t → IsBest (suc n)
      by true e = with_last b (λ d. (let z : true ≡ false = sym e ∙ d in cc))
      by false e = elim (dec_lt (squared_distance p (framed_point X.sides n)) (squared_distance p (framed_point X.sides b.place))) [
        | yes s ↦ new_one e s
        | no s ↦ with_last b (λ d. omega arith)
      ]

  best_of : (n : ℕ) → n < box_count (framed_sides X.sides) → IsBest (suc n)
  best_of zero l = first_best
  best_of (suc n) l = better (suc n) l (best_of n (omega arith))

  nearest : (s : ℕ) × HasDistance X p s
  nearest = by (box_count (framed_sides X.sides)) refl
    where
      found : IsBest (box_count (framed_sides X.sides)) → (s : ℕ) × HasDistance X p s
      found b =
          let q = framed_point X.sides b.place in (
            squared_distance p q,
            (
              q,
              least_found X p q (squared_distance p q) inside
                  (record { point = length-framed_point X.sides b.place; value = b.dark }) refl (λ j l d. b.least j l d),
            ),
          )

      by : (n : ℕ) → box_count (framed_sides X.sides) ≡ n → (s : ℕ) × HasDistance X p s
      by zero e = absurd (let l = first_best.below in omega arith)
      by (suc n) e = found (subst IsBest (sym e) (best_of n (omega arith)))

-- ---- candidates

contained_or_not : (ps : List Point) (p : Point) → Contains ps p ⊎ (Contains ps p → ⊥)
contained_or_not [] p = inr (in_none p)
contained_or_not (q ∷ ps) p = elim (same_point q p) [
  | yes e ↦ inl (subst (Contains (q ∷ ps)) e (head_in q ps))
  | no d ↦ elim (contained_or_not ps p) [
    | inl i ↦ inl (later_in q ps p i)
    | inr o ↦ inr (λ i. elim (in_cases q ps p i) [ inl e ↦ d e | inr j ↦ o j ])
  ]
]

candidate_or_not : (s : Stage) (p : Point) → length p ≡ 2 → length s.left.sides ≡ 2 → IsCandidate s p ⊎ (IsCandidate s p → ⊥)
candidate_or_not s p flat axes = by (at s.left p) refl
  where
    by : (b : Bool) → at s.left p ≡ b → IsCandidate s p ⊎ (IsCandidate s p → ⊥)
    by false e = inr (λ c. (let o : at s.left p ≡ true = c.object in let z : false ≡ true = sym e ∙ o in cc))
    by true e = elim (contained_or_not s.marked p) [
      | inl i ↦ inr (λ c. c.unmarked i)
      | inr o ↦ elim (simple_or_not s.left p flat axes) [
        | inl k ↦ inl (record { object = e; unmarked = o; simple = k })
        | inr k ↦ inr (λ c. k c.simple)
      ]
    ]

-- ---- the least candidate of a list of places

module _ (X : Picture) (axes : length X.sides ≡ 2) (rule : Rule) where
  abbrev point : ℕ → Point
  point i = raster_point X.sides i

  flat_point : (i : ℕ) → length (point i) ≡ 2
  flat_point i = length-raster_point X.sides i ∙ axes

  distance_of : (i : ℕ) → i < box_count X.sides → (s : ℕ) × HasDistance X (point i) s
  distance_of i l = nearest X (omega arith) (point i) (raster_point_in X.sides i l)

  -- places of the box
  abbrev AreInside : List ℕ → Type 0
  AreInside places = (i : ℕ) → Contains places i → i < box_count X.sides

  -- of two places, with their distances, the first comes first or is the other
  abbrev Comes : ℕ → ℕ → ℕ → ℕ → Type 0
  Comes i d j e = (d < e) ⊎ ((d ≡ e) × (i ≤ j))

  record IsLeast (s : Stage) (places : List ℕ) : Type 0 where
    before : List ℕ
    place : ℕ
    behind : List ℕ
    split : places ≡ before ++ place ∷ behind
    candidate : IsCandidate s (point place)
    distance : ℕ
    is : HasDistance X (point place) distance
    least : (j e : ℕ) → Contains places j → IsCandidate s (point j) → HasDistance X (point j) e → Comes place distance j e

  abbrev IsNone : Stage → List ℕ → Type 0
  IsNone s places = (j : ℕ) → Contains places j → IsCandidate s (point j) → ⊥

  comes_on : (i d j e k f : ℕ) → Comes i d j e → Comes j e k f → Comes i d k f
  comes_on i d j e k f (inl a) (inl b) = inl (omega arith)
  comes_on i d j e k f (inl a) (inr b) = inl (let q = b.0 in omega arith)
  comes_on i d j e k f (inr a) (inl b) = inl (let q = a.0 in omega arith)
  comes_on i d j e k f (inr a) (inr b) = inr (a.0 ∙ b.0, let q = a.1 in let r = b.1 in omega arith)

  comes_first : (i d j e : ℕ) → Comes i d j e ⊎ Comes j e i d
  comes_first i d j e = elim (dec_lt d e) [
    | yes l ↦ inl (inl l)
    | no m ↦ elim (dec_lt e d) [
      | yes l ↦ inr (inl l)
      | no n ↦ elim (dec_lt j i) [ yes l ↦ inr (inr (omega arith, omega arith)) | no l ↦ inl (inr (omega arith, omega arith)) ]
    ]
  ]

  one_value : (i d e : ℕ) → HasDistance X (point i) d → HasDistance X (point i) e → d ≡ e
  one_value i d e h k = one_distance X (point i) d e h k

  look : (s : Stage) → length s.left.sides ≡ 2 → (places : List ℕ) → AreInside places → IsLeast s places ⊎ IsNone s places
  look s two [] inside = inr (λ j i c. in_none j i)
  look s two (i ∷ places) inside =
      elim (candidate_or_not s (point i) (flat_point i) two) [
        | inr out ↦ elim (look s two places (λ j l. inside j (later_in i places j l))) [
          | inr none ↦ inr (λ j l c. elim (in_cases i places j l) [ inl e ↦ out (subst (λ k. IsCandidate s (point k)) (sym e) c) | inr m ↦ none j m c ])
          | inl b ↦ inl (behind b (λ e c d. absurd (out c)))
        ]
        | inl c ↦
            (let (d, h) = distance_of i (inside i (head_in i places)) in
            elim (look s two places (λ j l. inside j (later_in i places j l))) [
              | inr none ↦ inl (alone c d h (λ j e m o k. absurd (none j m o)))
              | inl b ↦ elim (comes_first i d b.place b.distance) [
                | inl first ↦ inl (alone c d h (λ j e m o k. comes_on i d b.place b.distance j e first (b.least j e m o k)))
                | inr first ↦ inl (behind b (λ e o k. subst (λ v. Comes b.place b.distance i v) (one_value i d e h k) first))
              ]
            ])
      ]
    where
      alone : IsCandidate s (point i) → (d : ℕ) → HasDistance X (point i) d
          → ((j e : ℕ) → Contains places j → IsCandidate s (point j) → HasDistance X (point j) e → Comes i d j e) → IsLeast s (i ∷ places)
      alone c d h rest = record {
        before = [];
        place = i;
        behind = places;
        split = refl;
        candidate = c;
        distance = d;
        is = h;
        least = λ j e l o k. elim (in_cases i places j l) [
          | inl q ↦ inr (one_value i d e h (subst (λ v. HasDistance X (point v) e) (sym q) k), omega arith)
          | inr m ↦ rest j e m o k
        ];
      }

      behind : (b : IsLeast s places) → ((e : ℕ) → IsCandidate s (point i) → HasDistance X (point i) e → Comes b.place b.distance i e)
          → IsLeast s (i ∷ places)
      behind b first = record {
        before = i ∷ b.before;
        place = b.place;
        behind = b.behind;
        split = ap (λ l. i ∷ l) b.split;
        candidate = b.candidate;
        distance = b.distance;
        is = b.is;
        least = λ j e l o k. elim (in_cases i places j l) [
          | inl q ↦ subst (λ v. Comes b.place b.distance v e) q
              (first e (subst (λ v. IsCandidate s (point v)) (sym q) o) (subst (λ v. HasDistance X (point v) e) (sym q) k))
          | inr m ↦ b.least j e m o k
        ];
      }

  -- ---- event by event

  -- each place of an unmarked object point is listed
  record IsStanding (s : Stage) (places : List ℕ) : Type 0 where
    sides : s.left.sides ≡ X.sides
    inside : AreInside places
    listed : (j : ℕ) → j < box_count X.sides → Object s.left (point j) → (Contains s.marked (point j) → ⊥) → Contains places j

  module _ (s : Stage) (places : List ℕ) (w : IsStanding s places) (b : IsLeast s places) where
    abbrev facts : Facts
    facts = record { neighbours = near_count s.left (point b.place); distance = b.distance }

    there : Contains places b.place
    there = subst (λ l. Contains l b.place) (sym b.split) (Contains-append_right b.before (b.place ∷ b.behind) b.place (head_in b.place b.behind))

    low : b.place < box_count X.sides
    low = w.inside b.place there

    in_box_of : (q : Point) → Object s.left q → IsTrue (in_box X.sides q)
    in_box_of q o = subst (λ (l : List ℕ). IsTrue (in_box l q)) w.sides (object_in_box s.left q o)

    next : IsNext X s (point b.place) facts
    next = record {
      candidate = b.candidate;
      distance = b.is;
      neighbours = refl;
      least = λ q e c h.
          let box = in_box_of q c.object in
          let j = raster_number X.sides q in
          let l = raster_below X.sides q box in
          let same : point j ≡ q = raster_point-raster_number X.sides q box in
          let o : IsCandidate s (point j) = subst (IsCandidate s) (sym same) c in
          elim (b.least j e (w.listed j l o.object o.unmarked) o (subst (λ v. HasDistance X v e) (sym same) h)) [
            | inl a ↦ inl a
            | inr a ↦ inr (a.0, by q box a.1)
          ];
    }
      where
        by : (q : Point) → IsTrue (in_box X.sides q) → b.place ≤ raster_number X.sides q → Before (point b.place) q ⊎ (point b.place ≡ q)
        by q box l =
            let n = raster_number-raster_point X.sides b.place low in
            let box_p = raster_point_in X.sides b.place low in
            elim (dec_lt b.place (raster_number X.sides q)) [
              | yes m ↦ inl (raster_rises X.sides (point b.place) q box_p box ∙ nat_less (raster_number X.sides (point b.place))
                  (raster_number X.sides q) (omega arith))
              | no m ↦ inr (
                  let k : raster_number X.sides (point b.place) ≡ raster_number X.sides q = omega arith in
                  sym (raster_point-raster_number X.sides (point b.place) box_p) ∙ (ap point k ∙ raster_point-raster_number X.sides q box))
            ]

    abbrev others : List ℕ
    others = b.before ++ b.behind

    kept : (j : ℕ) → Contains places j → j ≢ b.place → Contains others j
    kept j i d = elim (Contains-append_cases b.before (b.place ∷ b.behind) j (subst (λ l. Contains l j) b.split i)) [
      | inl m ↦ Contains-append_left b.before b.behind j m
      | inr m ↦ elim (in_cases b.place b.behind j m) [ inl e ↦ absurd (d (sym e)) | inr n ↦ Contains-append_right b.before b.behind j n ]
    ]

    back : (j : ℕ) → Contains others j → Contains places j
    back j i = subst (λ l. Contains l j) (sym b.split) (elim (Contains-append_cases b.before b.behind j i) [
      | inl m ↦ Contains-append_left b.before (b.place ∷ b.behind) j m
      | inr m ↦ Contains-append_right b.before (b.place ∷ b.behind) j (later_in b.place b.behind j m)
    ])

    fewer : length others + 1 ≡ length places
    fewer =
        let m = length-append b.before b.behind in
        let n = length-append b.before (b.place ∷ b.behind) in
        let k = ap length b.split in
        omega arith

    -- after the event the others may still be candidates
    tipped : IsStanding (stage_after rule s (Event.Tip (point b.place)) facts) others
    tipped = record {
      sides = w.sides;
      inside = λ i m. w.inside i (back i m);
      listed = λ j l o u. kept j (w.listed j l o (λ m. u (later_in (point b.place) s.marked (point j) m)))
          (λ e. u (subst (Contains (point b.place ∷ s.marked)) (ap point (sym e)) (head_in (point b.place) s.marked)));
    }

    gone : (q : Point) → Object (stage_after rule s (Event.Del (point b.place)) facts).left q → q ≡ point b.place → ⊥
    gone q o e =
        let g = value_gone s.left (point b.place) in
        let t = subst (λ v. IsTrue (at (stage_after rule s (Event.Del (point b.place)) facts).left v)) e o in
        let z : false ≡ true = sym g ∙ t in cc

    deleted : IsStanding (stage_after rule s (Event.Del (point b.place)) facts) others
    deleted = record {
      sides = w.sides;
      inside = λ i m. w.inside i (back i m);
      listed = λ j l o u.
          let away = gone (point j) o in
          let same = value_elsewhere s.left (point b.place) (point j) false (object_in_box s.left (point b.place) b.candidate.object) away in
          kept j (w.listed j l (sym same ∙ o) u) (λ e. away (ap point e));
    }

    after_event : (m : Bool) → IsStanding (stage_after rule s (if m then Event.Tip (point b.place) else Event.Del (point b.place)) facts) others
    after_event true = tipped
    after_event false = deleted

  -- events that lead on to a stage without candidates
  abbrev Thins : Stage → Type 0
  Thins s = (events : List Event) × (u : Stage) × FoldsTo (ThinStep rule X) s events u × IsThinned u

  over : (s : Stage) (places : List ℕ) → IsStanding s places → IsNone s places → Thins s
  over s places w none = (
    [],
    s,
    refl,
    λ q c.
        let box = subst (λ (l : List ℕ). IsTrue (in_box l q)) w.sides (object_in_box s.left q c.object) in
        let same = raster_point-raster_number X.sides q box in
        let o : IsCandidate s (point (raster_number X.sides q)) = subst (IsCandidate s) (sym same) c in
        none (raster_number X.sides q) (w.listed (raster_number X.sides q) (raster_below X.sides q box) o.object o.unmarked) o,
  )

  thin : (room : ℕ) (s : Stage) (places : List ℕ) → length places ≤ room → IsStanding s places → Thins s
  thin zero s places l w = elim (look s (ap length w.sides ∙ axes) places w.inside) [
    | inr none ↦ over s places w none
    | inl b ↦ absurd (let f = fewer s places w b in omega arith)
  ]
  thin (suc room) s places l w = elim (look s (ap length w.sides ∙ axes) places w.inside) [
    | inr none ↦ over s places w none
    | inl b ↦
        (let f = fewer s places w b in
        let e = event_at rule s (point b.place) (facts s places w b) in
        let (events, u, folds, done) = thin room (stage_after rule s e (facts s places w b)) (others s places w b) (omega arith)
        (after_event s places w b (rule.marks s.state (facts s places w b))) in
        (e ∷ events, u, (stage_after rule s e (facts s places w b), (point b.place, facts s places w b, next s places w b, refl, refl), folds), done))
  ]

  upto : ℕ → List ℕ
  upto zero = []
  upto (suc n) = n ∷ upto n

  in_upto : (n j : ℕ) → j < n → Contains (upto n) j
  unfolding upto
  in_upto zero j l = absurd (omega arith)
  in_upto (suc n) j l = elim (dec_lt j n) [
    | yes m ↦ later_in n (upto n) j (in_upto n j m)
    | no m ↦ subst (Contains (n ∷ upto n)) (let q : n ≡ j = omega arith in q) (head_in n (upto n))
  ]

  upto_below : (n j : ℕ) → Contains (upto n) j → j < n
  unfolding upto
  upto_below zero j i = absurd (in_none j i)
  upto_below (suc n) j i = elim (in_cases n (upto n) j i) [ inl e ↦ omega arith | inr m ↦ (let l = upto_below n j m in omega arith) ]

  thinned : (events : List Event) × (s : Stage) × IsThinning rule X events s
  thinned =
      let (events, u, folds, done) = thin (length (upto (box_count X.sides))) (opening_stage rule X) (upto (box_count X.sides)) (omega arith) (record {
        sides = refl;
        inside = upto_below (box_count X.sides);
        listed = λ j l o m. in_upto (box_count X.sides) j l;
      }) in
      (events, u, (folds, done))

-- each flat picture has a thinning by each rule
pub thinnings_had : (rule : Rule) (X : Picture) → IsPicture 2 X → HasThinning rule X
thinnings_had rule X is = thinned X is.axes rule
