-- The borders that are kept while the lines come: what one more line changes.
-- Laws of lines and of what is kept; the program stands in none.
use Rattle.std.proofs.Common.{◌≡◌, ◌⊎◌, inl, inr, ℕ, false, List, [], ◌∷◌, ◌++◌, refl, ap, sym, subst, ◌∙◌}
use Rattle.std.specs.Prelude.{ℤ, filter_map, Option, Some, None}
use Rattle.std.specs.Option.{option_map, option_to_list, is_some}
use Rattle.std.proofs.lemmas.Bool.{cond-true, cond-false, cases_Bool}
use Rattle.std.proofs.lemmas.List.{append-nil}
use Rattle.std.proofs.lemmas.List.Elements.{filter_map-append}
use Rattle.shape_terms.specs.Points.{Point}
use Rattle.shape_terms.specs.Contours.{Crack}
use Rattle.report_terms.specs.Lines.{Line}
use Rattle.report_terms.specs.ContourLines.{is_contour, contour_groups, point_of}
use Rattle.report_terms.proofs.ContourGroups.{group_begun, group_more}
use Rattle.measure_terms.specs.Runs.{Run, run_of, run, fair}
use Rattle.measure_terms.specs.Lengths.{contour_length}
use Rattle.measure_terms.specs.Borders.{first_crack, border_of, borders}
use Rattle.bordering.specs.Kept.{Kept, last_border, closed, begin_with, with_point, with_segment, groups_with, HasBorders}

-- what is kept of a single element
kept_single : {X Y : Type 0} (f : X → Option Y) (x : X) → filter_map f (x ∷ []) ≡ option_to_list (f x)
kept_single f x = elim (f x) as (λ o. filter_map (λ (u : Unit {0}). o) (tt ∷ []) ≡ option_to_list o) [ None ↦ refl | Some y ↦ refl ]

-- ---- groups

-- where no contour was begun, a line that begins none leaves it so
none_more : (lines : List Line) (l : Line) → is_contour l ≡ false → contour_groups lines ≡ [] → contour_groups (lines ++ l ∷ []) ≡ []
none_more [] l n e = cond-false (is_contour l) _ [] n
none_more (x ∷ lines) l n e = elim (cases_Bool (is_contour x)) [
  | inl y ↦ absurd (let f = sym (cond-true (is_contour x) _ (contour_groups lines) y) ∙ e in cc)
  | inr f ↦ cond-false (is_contour x) _ (contour_groups (lines ++ l ∷ [])) f
      ∙ none_more lines l n (sym (cond-false (is_contour x) _ (contour_groups lines) f) ∙ e)
]

-- the first crack of a group stays where lines come behind
first_stays : (lines : List Line) (l : Line) (c : Crack) → first_crack lines ≡ Some c → first_crack (lines ++ l ∷ []) ≡ first_crack lines
first_stays [] l c e = absurd (let f = e in cc)
first_stays (x ∷ lines) l c e = refl

-- a contour was begun, or none
begun_or_not : (o : Option Crack) → ((c : Crack) × (o ≡ Some c)) ⊎ (o ≡ None)
begun_or_not None = inr refl
begun_or_not (Some c) = inl (c, refl)

-- ---- the last contour is closed

-- the borders of all contours stand together then
pub closed_borders : (lines : List Line) (k : Kept) → HasBorders lines k → (closed k).borders ≡ borders lines
closed_borders lines k h = elim (begun_or_not k.begun) [
  | inl b ↦
      let g : contour_groups lines ≡ h.closed ++ h.last ∷ [] = h.groups ∙ ap (λ o. groups_with o h.closed h.last) b.1 in
      let last : option_to_list (last_border k) ≡ option_to_list (border_of h.last) =
      λ i. option_to_list (option_map (λ c. record { start = c; length = contour_length (h.points i) (h.runs i) }) (h.begun i)) in
      (λ i. h.borders i ++ last i) ∙ ap (λ t. filter_map border_of h.closed ++ t) (sym (kept_single border_of h.last))
      ∙ sym (ap (filter_map border_of) g ∙ filter_map-append border_of h.closed (h.last ∷ []))
  | inr n ↦
      let g : contour_groups lines ≡ [] = h.groups ∙ ap (λ o. groups_with o h.closed h.last) n in
      let z = h.none n in
      let last : option_to_list (last_border k) ≡ [] =
      ap (λ o. option_to_list (option_map (λ c. record { start = c; length = contour_length k.points k.runs }) o)) n in
      let old : k.borders ≡ [] = h.borders ∙ ap (filter_map border_of) z.0 in
      (λ i. old i ++ last i) ∙ sym (ap (filter_map border_of) g)
]

-- ---- one more line

-- it begins a contour
pub begins_contour : (lines : List Line) (p : Point) (side n m : ℕ) (k : Kept) → HasBorders lines k
    → HasBorders (lines ++ Line.Contour p side n m ∷ []) (begin_with (record { pixel = p; side = side }) k)
begins_contour lines p side n m k h = record {
  closed = contour_groups lines;
  last = Line.Contour p side n m ∷ [];
  groups = group_begun is_contour lines (Line.Contour p side n m) refl;
  borders = closed_borders lines k h;
  begun = refl;
  points = refl;
  runs = refl;
  none = λ e. cc;
}

-- it begins none, and adds these points and runs to the last one
adds : (lines : List Line) (l : Line) (k k' : Kept) → is_contour l ≡ false → HasBorders lines k → k'.begun ≡ k.begun → k'.borders ≡ k.borders
    → ((c : Crack) → k.begun ≡ Some c → (k'.points ≡ k.points ++ filter_map point_of (l ∷ [])) × (k'.runs ≡ k.runs ++ filter_map run_of (l ∷ [])))
    → (k.begun ≡ None → (k'.points ≡ k.points) × (k'.runs ≡ k.runs)) → HasBorders (lines ++ l ∷ []) k'
adds lines l k k' n h same_begun same_borders more nothing = elim (begun_or_not k.begun) [
  | inl b ↦
      let g : contour_groups lines ≡ h.closed ++ h.last ∷ [] = h.groups ∙ ap (λ o. groups_with o h.closed h.last) b.1 in
      let m = more b.0 b.1 in
      record {
        closed = h.closed;
        last = h.last ++ l ∷ [];
        groups = group_more is_contour lines l h.closed h.last n g ∙ sym (ap (λ o. groups_with o h.closed (h.last ++ l ∷ [])) (same_begun ∙ b.1));
        borders = same_borders ∙ h.borders;
        begun = same_begun ∙ h.begun ∙ sym (first_stays h.last l b.0 (sym h.begun ∙ b.1));
        points = m.0 ∙ ap (λ t. t ++ filter_map point_of (l ∷ [])) h.points ∙ sym (filter_map-append point_of h.last (l ∷ []));
        runs = m.1 ∙ ap (λ t. t ++ filter_map run_of (l ∷ [])) h.runs ∙ sym (filter_map-append run_of h.last (l ∷ []));
        none = λ f. absurd (let e = sym (same_begun ∙ b.1) ∙ f in cc);
      }
  | inr z ↦
      let g : contour_groups lines ≡ [] = h.groups ∙ ap (λ o. groups_with o h.closed h.last) z in
      let same = nothing z in
      record {
        closed = h.closed;
        last = h.last;
        groups = none_more lines l n g ∙ sym (ap (λ o. groups_with o h.closed h.last) (same_begun ∙ z));
        borders = same_borders ∙ h.borders;
        begun = same_begun ∙ h.begun;
        points = same.0 ∙ h.points;
        runs = same.1 ∙ h.runs;
        none = λ e. h.none z;
      }
]

-- it adds nothing
pub adds_nothing : (lines : List Line) (l : Line) (k : Kept) → is_contour l ≡ false → filter_map point_of (l ∷ []) ≡ [] → filter_map run_of (l ∷ []) ≡ []
    → HasBorders lines k → HasBorders (lines ++ l ∷ []) k
adds_nothing lines l k n no_point no_run h =
    adds lines l k k n h refl refl
    (λ c e. (sym (ap (λ t. k.points ++ t) no_point ∙ append-nil k.points), sym (ap (λ t. k.runs ++ t) no_run ∙ append-nil k.runs))) (λ e. (refl, refl))

-- a point of the last contour
pub adds_point : (lines : List Line) (q : Point) (k : Kept) → HasBorders lines k → HasBorders (lines ++ Line.At q ∷ []) (with_point k q)
adds_point lines q k h = elim (begun_or_not k.begun) [
  | inl b ↦
      let k' : Kept = record k { points = k.points ++ q ∷ [] } in
      subst (HasBorders (lines ++ Line.At q ∷ [])) (sym (cond-true (is_some k.begun) k' k (ap is_some b.1)))
      (adds lines (Line.At q) k k' refl h refl refl (λ c e. (refl, sym (append-nil k.runs))) (λ e. absurd (let f = sym b.1 ∙ e in cc)))
  | inr z ↦
      let k' : Kept = record k { points = k.points ++ q ∷ [] } in
      subst (HasBorders (lines ++ Line.At q ∷ [])) (sym (cond-false (is_some k.begun) k' k (ap is_some z)))
      (adds lines (Line.At q) k k refl h refl refl (λ c e. absurd (let f = sym e ∙ z in cc)) (λ e. (refl, refl)))
]

-- the run of the last contour, where its line gives one
pub adds_segment : (lines : List Line) (b e t : ℕ) (a : List ℤ) (mu : ℤ) (k : Kept) → HasBorders lines k
    → HasBorders (lines ++ Line.Seg b e t a mu ∷ []) (with_segment k (fair (run b e a)))
adds_segment lines b e t a mu k h = by_case (fair (run b e a)) (kept_single run_of (Line.Seg b e t a mu))
  where
    by_case : (o : Option Run) → filter_map run_of (Line.Seg b e t a mu ∷ []) ≡ option_to_list o
        → HasBorders (lines ++ Line.Seg b e t a mu ∷ []) (with_segment k o)
    by_case None one = adds_nothing lines (Line.Seg b e t a mu) k refl refl one h
    by_case (Some r) one =
        let l = Line.Seg b e t a mu in
        let k' : Kept = record k { runs = k.runs ++ r ∷ [] } in
        elim (begun_or_not k.begun) [
          | inl y ↦
              subst (HasBorders (lines ++ l ∷ [])) (sym (cond-true (is_some k.begun) k' k (ap is_some y.1)))
              (adds lines l k k' refl h refl refl (λ c f. (sym (append-nil k.points), ap (λ t. k.runs ++ t) (sym one)))
              (λ f. absurd (let g = sym y.1 ∙ f in cc)))
          | inr z ↦
              subst (HasBorders (lines ++ l ∷ [])) (sym (cond-false (is_some k.begun) k' k (ap is_some z)))
              (adds lines l k k refl h refl refl (λ c f. absurd (let g = sym f ∙ z in cc)) (λ f. (refl, refl)))
        ]
