-- What `del` lines tell that are the events of a thinning: the points that it leaves.
-- Laws of events and pictures; which rule thins does not matter.
use Rattle.std.proofs.Common.{◌≡◌, inl, inr, Bool, true, false, cond, List, [], ◌∷◌, length, refl, ap, sym, ◌∙◌, subst, Option, Some, None}
use Rattle.std.specs.Prelude.{IsTrue, not, ◌&&◌, ◌||◌, filter_map}
use Rattle.std.specs.List.{list_any, FoldsTo}
use Rattle.std.proofs.lemmas.Bool.{cases_Bool}
use Rattle.std.proofs.lemmas.List.{length-set}
use Rattle.shape_terms.specs.Points.{Point, in_box, box_count, raster_number}
use Rattle.shape_terms.specs.Pictures.{Picture, at, with_value}
use Rattle.shape_terms.proofs.ObjectPlaces.{object_in_box}
use Rattle.shape_terms.specs.Thinning.{Rule, Event, Stage, ThinStep, stage_after}
use Rattle.shape_terms.proofs.OneValue.{value_there, value_elsewhere}
use Rattle.shape_terms.proofs.PointTests.{same_point}
use Rattle.report_terms.specs.Lines.{Line}
use Rattle.report_terms.specs.ThinningLines.{events_of}
use Rattle.report_lines.specs.Said.{is_same_point, deleted_point, is_deleted}
use Rattle.report_lines.proofs.SamePoints.{same_yes, same_not}

-- the point that an event deletes
abbrev pub deleted_by : Event → Option Point
deleted_by (Event.Del p) = Some p
deleted_by (Event.Tip p) = None

-- some event deletes the point
abbrev pub is_gone : List Event → Point → Bool
is_gone events p = list_any (is_same_point p) (filter_map deleted_by events)

-- the lines delete the points that their events delete
deleted_points : (lines : List Line) → filter_map deleted_point lines ≡ filter_map deleted_by (events_of lines)
deleted_points [] = refl
deleted_points (Line.Del p ∷ lines) = ap (λ t. p ∷ t) (deleted_points lines)
deleted_points (Line.Tip p ∷ lines) = deleted_points lines
deleted_points (_ ∷ lines) = deleted_points lines

pub deleted_is_gone : (lines : List Line) (p : Point) → is_deleted lines p ≡ is_gone (events_of lines) p
deleted_is_gone lines p = ap (list_any (is_same_point p)) (deleted_points lines)

-- the events lead from the one picture to the other
pub record Leaves (Y : Picture) (events : List Event) (Z : Picture) : Type 0 where
  pub sides : Z.sides ≡ Y.sides
  pub filled : length Z.values ≡ box_count Z.sides
  pub value : (p : Point) → at Z p ≡ (at Y p && not (is_gone events p))

and_true : (b : Bool) → b ≡ (b && true)
and_true true = refl
and_true false = refl

and_false : (b : Bool) → (b && false) ≡ false
and_false true = refl
and_false false = refl

no_event : (Y : Picture) → length Y.values ≡ box_count Y.sides → Leaves Y [] Y
no_event Y filled = record { sides = refl; filled = filled; value = λ p. and_true (at Y p) }

tip_first : (Y : Picture) (p : Point) (events : List Event) (Z : Picture) → Leaves Y events Z → Leaves Y (Event.Tip p ∷ events) Z
tip_first Y p events Z h = record { sides = h.sides; filled = h.filled; value = h.value }

del_first : (Y : Picture) (p : Point) (events : List Event) (Z : Picture) → length Y.values ≡ box_count Y.sides → IsTrue (in_box Y.sides p)
    → Leaves (with_value Y p false) events Z → Leaves Y (Event.Del p ∷ events) Z
del_first Y p events Z filled inside h = record {
  sides = h.sides;
  filled = h.filled;
  value = λ q. elim (same_point q p) [
    | yes e ↦
        h.value q
        ∙ ap (λ b. b && not (is_gone events q)) (ap (at (with_value Y p false)) e ∙ value_there Y p false filled inside)
        ∙ sym (ap (λ b. at Y q && not (b || is_gone events q)) (same_yes q p e) ∙ and_false (at Y q))
    | no n ↦
        h.value q
        ∙ ap (λ b. b && not (is_gone events q)) (value_elsewhere Y p q false inside n)
        ∙ sym (ap (λ b. at Y q && not (b || is_gone events q)) (same_not q p n))
  ];
}

module _ (rule : Rule) (X : Picture) where
  pub leaves : (events : List Event) (s u : Stage) → FoldsTo (ThinStep rule X) s events u → length s.left.values ≡ box_count s.left.sides
      → Leaves s.left events u.left
  leaves [] s u e filled = subst (λ v. Leaves s.left [] v.left) e (no_event s.left filled)
  leaves (d ∷ events) s u (v, (p, facts, n, e, a), r) filled = elim (cases_Bool (rule.marks s.state facts)) [
    | inl y ↦
        let is : d ≡ Event.Tip p = e ∙ ap (λ b. cond b (Event.Tip p) (Event.Del p)) y in
        let left : v.left ≡ s.left = ap (λ w. w.left) (a ∙ ap (λ x. stage_after rule s x facts) is) in
        subst (λ x. Leaves s.left (x ∷ events) u.left) (sym is)
        (tip_first s.left p events u.left
        (subst (λ Y. Leaves Y events u.left) left (leaves events v u r (subst (λ (Y : Picture). length Y.values ≡ box_count Y.sides) (sym left) filled))))
    | inr f ↦
        let is : d ≡ Event.Del p = e ∙ ap (λ b. cond b (Event.Tip p) (Event.Del p)) f in
        let left : v.left ≡ with_value s.left p false = ap (λ w. w.left) (a ∙ ap (λ x. stage_after rule s x facts) is) in
        let next = length-set s.left.values (raster_number s.left.sides p) false ∙ filled in
        subst (λ x. Leaves s.left (x ∷ events) u.left) (sym is)
        (del_first s.left p events u.left filled (object_in_box s.left p n.candidate.object)
        (subst (λ Y. Leaves Y events u.left) left (leaves events v u r (subst (λ (Y : Picture). length Y.values ≡ box_count Y.sides) (sym left) next))))
  ]
