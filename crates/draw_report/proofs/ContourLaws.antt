-- The contours that lines give, when one more line comes.
-- Laws of lists of lines alone.
use Rattle.std.proofs.Common.{◌≡◌, ◌<◌, inl, inr, ℕ, refl, ap, sym, ◌∙◌, arith, false, List, [], ◌∷◌, ◌++◌, length, map}
use Rattle.std.specs.Prelude.{◌⊎◌, filter_map}
use Rattle.std.proofs.lemmas.List.{append-nil, map-append}
use Rattle.std.proofs.lemmas.List.Elements.{filter_map-append}
use Rattle.shape_terms.specs.Points.{Point}
use Rattle.report_terms.specs.Lines.{Line}
use Rattle.report_terms.specs.ContourLines.{is_contour, contour_groups, point_of}
use Rattle.report_terms.proofs.ContourGroups.{group_begun, group_more}
use Rattle.report_lines.specs.Said.{given_sides}
use Rattle.drawing.specs.Object.{pixels}
use Rattle.drawing.proofs.Contours.{none_more}
use Rattle.draw_report.specs.Contours.{contours_of, with_point, with_line}

-- the points of a group
abbrev points_in : List Line → List Point
points_in group = filter_map point_of group

-- no group, or some and the last
record HasLast (gs : List (List Line)) : Type 0 where
  front : List (List Line)
  last : List Line
  is : gs ≡ front ++ last ∷ []

last_of : (gs : List (List Line)) → (gs ≡ []) ⊎ HasLast gs
last_of [] = inl refl
last_of (g ∷ gs) = elim (last_of gs) [
  | inl e ↦ inr (record { front = []; last = g; is = ap (λ t. g ∷ t) e })
  | inr h ↦ inr (record { front = g ∷ h.front; last = h.last; is = ap (λ t. g ∷ t) h.is })
]

-- a point of the last of some contours
pub at_last : (cs : List (List Point)) (c : List Point) (p : Point) → with_point (cs ++ c ∷ []) p ≡ cs ++ (c ++ p ∷ []) ∷ []
at_last [] c p = refl
at_last (x ∷ []) c p = refl
at_last (x ∷ y ∷ cs) c p = ap (λ t. x ∷ t) (at_last (y ∷ cs) c p)

module _ (lines : List Line) (l : Line) (n : is_contour l ≡ false) where
  -- the contours with a line that begins none
  more : (h : HasLast (contour_groups lines)) → contours_of (lines ++ l ∷ []) ≡ map points_in h.front ++ (points_in h.last ++ filter_map point_of (l ∷ [])) ∷ []
  more h =
      ap (map points_in) (group_more is_contour lines l h.front h.last n h.is) ∙ map-append points_in h.front ((h.last ++ l ∷ []) ∷ [])
      ∙ ap (λ t. map points_in h.front ++ t ∷ []) (filter_map-append point_of h.last (l ∷ []))

  before : (h : HasLast (contour_groups lines)) → contours_of lines ≡ map points_in h.front ++ points_in h.last ∷ []
  before h = ap (map points_in) h.is ∙ map-append points_in h.front (h.last ∷ [])

  none : contour_groups lines ≡ [] → (contours_of lines ≡ []) × (contours_of (lines ++ l ∷ []) ≡ [])
  none e = (ap (map points_in) e, ap (map points_in) (none_more lines l n e))

  quiet : filter_map point_of (l ∷ []) ≡ [] → contours_of (lines ++ l ∷ []) ≡ contours_of lines
  quiet e = elim (last_of (contour_groups lines)) [
    | inl z ↦ (let b = none z in b.1 ∙ sym b.0)
    | inr h ↦ more h ∙ ap (λ t. map points_in h.front ++ t ∷ []) (ap (λ t. points_in h.last ++ t) e ∙ append-nil (points_in h.last)) ∙ sym (before h)
  ]

point_more : (lines : List Line) (p : Point) → contours_of (lines ++ Line.At p ∷ []) ≡ with_point (contours_of lines) p
point_more lines p = elim (last_of (contour_groups lines)) [
  | inl z ↦ (let b = none lines (Line.At p) refl z in b.1 ∙ ap (λ t. with_point t p) (sym b.0))
  | inr h ↦ more lines (Line.At p) refl h ∙ sym (at_last (map points_in h.front) (points_in h.last) p)
      ∙ ap (λ t. with_point t p) (sym (before lines (Line.At p) refl h))
]

-- one more line
pub contours_more : (lines : List Line) (l : Line) → contours_of (lines ++ l ∷ []) ≡ with_line (contours_of lines) l
contours_more lines (Line.Contour p side n m) =
    ap (map points_in) (group_begun is_contour lines (Line.Contour p side n m) refl)
    ∙ map-append points_in (contour_groups lines) ((Line.Contour p side n m ∷ []) ∷ [])
contours_more lines (Line.At p) = point_more lines p
contours_more lines (Line.Shape h) = quiet lines (Line.Shape h) refl refl
contours_more lines l = quiet lines l refl refl

-- a heading gives no pixel and no contour
pub heading_gives_none : (sides : List ℕ) (l : Line) → 0 < length (given_sides (l ∷ [])) → (pixels sides (l ∷ []) ≡ []) × (contours_of (l ∷ []) ≡ [])
heading_gives_none sides (Line.Shape h) some = (refl, refl)
heading_gives_none sides _ some = absurd (omega (arith, some))
