-- The contours that are kept while the lines come: what one more line changes.
-- Laws of lines and of what is kept; the program stands in none.
use Rattle.std.proofs.Common.{◌≡◌, inl, inr, ℕ, suc, ◌+◌, ◌<◌, Bool, true, false, List, [], ◌∷◌, ◌++◌, length, get_or, drop, drop-cons, refl, ap, sym, subst}
use Rattle.std.proofs.Common.{◌∙◌, arith}
use Rattle.std.specs.Prelude.{ℤ, not, filter, filter_map, flat_map}
use Rattle.std.specs.Option.{option_to_list}
use Rattle.std.proofs.lemmas.Bool.{cond-true, cond-false, cases_Bool}
use Rattle.std.proofs.lemmas.List.{map-append, append-nil}
use Rattle.std.proofs.lemmas.List.Elements.{filter-append, filter_map-append}
use Rattle.std.proofs.lemmas.Grind.{flat_map-append}
use Rattle.shape_terms.specs.Points.{Point}
use Rattle.report_terms.specs.Lines.{Line}
use Rattle.report_terms.specs.ContourFacts.{Segment, stretches_of}
use Rattle.report_terms.specs.ContourLines.{is_contour, contour_groups, point_of, segment_of}
use Rattle.report_terms.proofs.ContourGroups.{group_begun, group_more}
use Rattle.drawing.specs.declared.outlines.Stretch.{Stretch}
use Rattle.drawing.specs.Seen.{stretch, all_stretches}
use Rattle.drawing.specs.Outlines.{Stroke, stroke_of, strokes_along, contour_strokes, is_inside, strokes, Kept, closed, with_point, with_stretch}
use Rattle.drawing.specs.Standing.{HasOutlines}

-- ---- strokes along a contour

-- of the stretches from a place on, the first gives its stroke
pub along_more : (p : Stroke → Bool) (points : List Point) (even : Bool) (ss : List Stretch) (i : ℕ) (d : Stretch) → i < length ss
    → filter p (strokes_along points even (all_stretches (drop i ss))) ≡ filter p (option_to_list (stroke_of points even (stretch (get_or ss i d))))
    ++ filter p (strokes_along points (not even) (all_stretches (drop (i + 1) ss)))
along_more p points even ss i d within =
    let next : suc i ≡ i + 1 = omega arith in
    ap (λ t. filter p (strokes_along points even (all_stretches t))) (drop-cons ss i d within)
    ∙ filter-append p (option_to_list (stroke_of points even (stretch (get_or ss i d)))) (strokes_along points (not even) (all_stretches (drop (suc i) ss)))
    ∙ ap (λ j. filter p (option_to_list (stroke_of points even (stretch (get_or ss i d))))
    ++ filter p (strokes_along points (not even) (all_stretches (drop j ss)))) next

-- ---- groups

-- where no contour was begun, a line that begins none leaves it so
pub none_more : (lines : List Line) (l : Line) → is_contour l ≡ false → contour_groups lines ≡ [] → contour_groups (lines ++ l ∷ []) ≡ []
none_more [] l n e = cond-false (is_contour l) _ [] n
none_more (x ∷ lines) l n e = elim (cases_Bool (is_contour x)) [
  | inl y ↦ absurd (let f = sym (cond-true (is_contour x) _ (contour_groups lines) y) ∙ e in cc)
  | inr f ↦ cond-false (is_contour x) _ (contour_groups (lines ++ l ∷ [])) f
      ∙ none_more lines l n (sym (cond-false (is_contour x) _ (contour_groups lines) f) ∙ e)
]

-- the strokes of all contours stand together when the last is closed
pub closed_strokes : (sides : List ℕ) (lines : List Line) (k : Kept) → HasOutlines sides lines k → (closed sides k).strokes ≡ strokes sides lines
closed_strokes sides lines k h =
    let p = is_inside sides in
    let along : strokes_along k.points true k.stretches ≡ contour_strokes h.last = λ i. strokes_along (h.points i) true (h.stretches i) in
    let all : k.strokes ++ filter p (strokes_along k.points true k.stretches) ≡ filter p (flat_map contour_strokes h.closed ++ contour_strokes h.last) =
    (λ i. h.strokes i ++ filter p (along i)) ∙ sym (filter-append p (flat_map contour_strokes h.closed) (contour_strokes h.last)) in
    all ∙ ap (filter p) (elim (cases_Bool k.begun) [
      | inl y ↦
          let g : contour_groups lines ≡ h.closed ++ h.last ∷ [] = h.groups ∙ cond-true k.begun (h.closed ++ h.last ∷ []) [] y in
          sym (ap (flat_map contour_strokes) g ∙ flat_map-append contour_strokes h.closed (h.last ∷ [])
          ∙ ap (λ t. flat_map contour_strokes h.closed ++ t) (append-nil (contour_strokes h.last)))
      | inr n ↦
          let g : contour_groups lines ≡ [] = h.groups ∙ cond-false k.begun (h.closed ++ h.last ∷ []) [] n in
          let z = h.none n in
          (λ i. flat_map contour_strokes (z.0 i) ++ contour_strokes (z.1 i)) ∙ sym (ap (flat_map contour_strokes) g)
    ])

-- ---- one more line

-- it begins a contour
pub begins_contour : (sides : List ℕ) (lines : List Line) (l : Line) (k : Kept) → is_contour l ≡ true → filter_map point_of (l ∷ []) ≡ []
    → filter_map segment_of (l ∷ []) ≡ [] → HasOutlines sides lines k → HasOutlines sides (lines ++ l ∷ []) (record (closed sides k) { begun = true })
begins_contour sides lines l k y no_point no_segment h = record {
  closed = contour_groups lines;
  last = l ∷ [];
  groups = group_begun is_contour lines l y;
  strokes = closed_strokes sides lines k h;
  points = sym no_point;
  stretches = ap stretches_of (sym no_segment);
  none = λ e. cc;
}

-- it begins none, and adds these points and stretches to the last one
pub adds : (sides : List ℕ) (lines : List Line) (l : Line) (k k' : Kept) → is_contour l ≡ false → HasOutlines sides lines k → k'.begun ≡ k.begun
    → k'.strokes ≡ k.strokes
    → (k.begun ≡ true → k'.points ≡ k.points ++ filter_map point_of (l ∷ []))
    → (k.begun ≡ true → k'.stretches ≡ k.stretches ++ stretches_of (filter_map segment_of (l ∷ [])))
    → (k.begun ≡ false → (k'.points ≡ k.points) × (k'.stretches ≡ k.stretches)) → HasOutlines sides (lines ++ l ∷ []) k'
adds sides lines l k k' n h same_begun same_strokes points stretches nothing = elim (cases_Bool k.begun) [
  | inl y ↦
      let g : contour_groups lines ≡ h.closed ++ h.last ∷ [] = h.groups ∙ cond-true k.begun (h.closed ++ h.last ∷ []) [] y in
      record {
        closed = h.closed;
        last = h.last ++ l ∷ [];
        groups = group_more is_contour lines l h.closed h.last n g ∙ sym (cond-true k'.begun (h.closed ++ (h.last ++ l ∷ []) ∷ []) [] (same_begun ∙ y));
        strokes = same_strokes ∙ h.strokes;
        points = points y ∙ ap (λ t. t ++ filter_map point_of (l ∷ [])) h.points ∙ sym (filter_map-append point_of h.last (l ∷ []));
        stretches = stretches y ∙ ap (λ t. t ++ stretches_of (filter_map segment_of (l ∷ []))) h.stretches
            ∙ sym (ap stretches_of (filter_map-append segment_of h.last (l ∷ [])) ∙ map-append (λ (s : Segment). s.stretch) (filter_map segment_of h.last)
            (filter_map segment_of (l ∷ [])));
        none = λ f. absurd (let e = sym (same_begun ∙ y) ∙ f in cc);
      }
  | inr f ↦
      let g : contour_groups lines ≡ [] = h.groups ∙ cond-false k.begun (h.closed ++ h.last ∷ []) [] f in
      let same = nothing f in
      record {
        closed = h.closed;
        last = h.last;
        groups = none_more lines l n g ∙ sym (cond-false k'.begun (h.closed ++ h.last ∷ []) [] (same_begun ∙ f));
        strokes = same_strokes ∙ h.strokes;
        points = same.0 ∙ h.points;
        stretches = same.1 ∙ h.stretches;
        none = λ e. h.none f;
      }
]

-- it adds nothing
pub adds_nothing : (sides : List ℕ) (lines : List Line) (l : Line) (k : Kept) → is_contour l ≡ false → filter_map point_of (l ∷ []) ≡ []
    → filter_map segment_of (l ∷ []) ≡ [] → HasOutlines sides lines k → HasOutlines sides (lines ++ l ∷ []) k
adds_nothing sides lines l k n no_point no_segment h =
    adds sides lines l k k n h refl refl (λ y. sym (ap (λ t. k.points ++ t) no_point ∙ append-nil k.points))
    (λ y. sym (ap (λ t. k.stretches ++ stretches_of t) no_segment ∙ append-nil k.stretches)) (λ f. (refl, refl))

-- a point of the last contour
pub adds_point : (sides : List ℕ) (lines : List Line) (q : Point) (k : Kept) → HasOutlines sides lines k
    → HasOutlines sides (lines ++ Line.At q ∷ []) (with_point k q)
adds_point sides lines q k h = elim (cases_Bool k.begun) [
  | inl y ↦
      let k' : Kept = record k { points = k.points ++ q ∷ [] } in
      subst (HasOutlines sides (lines ++ Line.At q ∷ [])) (sym (cond-true k.begun k' k y))
      (adds sides lines (Line.At q) k k' refl h refl refl (λ z. refl) (λ z. sym (append-nil k.stretches)) (λ f. absurd (let e = sym y ∙ f in cc)))
  | inr n ↦
      let k' : Kept = record k { points = k.points ++ q ∷ [] } in
      subst (HasOutlines sides (lines ++ Line.At q ∷ [])) (sym (cond-false k.begun k' k n))
      (adds sides lines (Line.At q) k k refl h refl refl (λ y. absurd (let e = sym y ∙ n in cc)) (λ y. absurd (let e = sym y ∙ n in cc)) (λ f. (refl, refl)))
]

-- a stretch of the last contour
pub adds_stretch : (sides : List ℕ) (lines : List Line) (b e t : ℕ) (a : List ℤ) (mu : ℤ) (k : Kept) → HasOutlines sides lines k
    → HasOutlines sides (lines ++ Line.Seg b e t a mu ∷ []) (with_stretch k (record { first = b; last = e }))
adds_stretch sides lines b e t a mu k h = elim (cases_Bool k.begun) [
  | inl y ↦
      let k' : Kept = record k { stretches = k.stretches ++ record { first = b; last = e } ∷ [] } in
      subst (HasOutlines sides (lines ++ Line.Seg b e t a mu ∷ [])) (sym (cond-true k.begun k' k y))
      (adds sides lines (Line.Seg b e t a mu) k k' refl h refl refl (λ z. sym (append-nil k.points)) (λ z. refl) (λ f. absurd (let e = sym y ∙ f in cc)))
  | inr n ↦
      let k' : Kept = record k { stretches = k.stretches ++ record { first = b; last = e } ∷ [] } in
      subst (HasOutlines sides (lines ++ Line.Seg b e t a mu ∷ [])) (sym (cond-false k.begun k' k n))
      (adds sides lines (Line.Seg b e t a mu) k k refl h refl refl (λ y. absurd (let e = sym y ∙ n in cc)) (λ y. absurd (let e = sym y ∙ n in cc))
      (λ f. (refl, refl)))
]
