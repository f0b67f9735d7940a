-- The numbers of the one label of a picture's object points are those of its whole object: the same set of points.
-- Pictures alone.
use Rattle.std.proofs.Common.{◌≡◌, inl, inr, ℕ, Bool, true, false, List, get_or, subst, ap, ◌∙◌, arith}
use Rattle.std.specs.Prelude.{cond, ◌&&◌}
use Rattle.std.proofs.lemmas.Bool.{cases_Bool, and_parts}
use Rattle.std.proofs.lemmas.List.{get_or-map}
use Rattle.shape_terms.specs.Points.{Point, in_box, raster_number}
use Rattle.shape_terms.specs.Pictures.{Picture, IsPicture}
use Rattle.shape_terms.specs.Parts.{Object}
use Rattle.shape_terms.proofs.Boxes.{raster_below}
use Rattle.measure_terms.specs.Feret.{HasLabel}
use Rattle.measure_terms.specs.Minkowski.{Minkowski, IsMinkowski, AreMinkowski}
use Rattle.measure_terms.proofs.OctantComponents.{same_minkowski}
use Rattle.measuring.specs.Marks.{one_label}

module _ (d : ℕ) (X : Picture) (is : IsPicture d X) where
  label_is : (p : Point) → in_box X.sides p ≡ true → get_or (one_label X) (raster_number X.sides p) 0 ≡ cond (get_or X.values (raster_number X.sides p) false) 1
      0
  label_is p inside =
      let l = raster_below X.sides p inside in
      let filled = is.filled in
      get_or-map (λ b. cond b 1 0) X.values (raster_number X.sides p) false 0 (omega (arith, l, filled))

  object_of_label : (p : Point) → HasLabel X.sides (one_label X) 1 p → Object X p
  object_of_label p h = elim (cases_Bool (get_or X.values (raster_number X.sides p) false)) [
    | inl t ↦ (λ i. h.inside i && t i)
    | inr f ↦ absurd (
        let flag : Bool → ℕ = λ b. cond b 1 0 in
        let e : flag (get_or X.values (raster_number X.sides p) false) ≡ 0 = ap flag f in
        let s = label_is p h.inside in
        let label = h.label in
        omega (arith, e, s, label))
  ]

  label_of_object : (p : Point) → Object X p → HasLabel X.sides (one_label X) 1 p
  label_of_object p o =
      let both = and_parts (in_box X.sides p) (get_or X.values (raster_number X.sides p) false) o in
      record { inside = both.0; label = label_is p both.0 ∙ ap (λ b. cond b 1 0) both.1 }

  pub whole_is : (sides : List ℕ) (ms : List Minkowski) (e : Minkowski) → sides ≡ X.sides → AreMinkowski sides (one_label X) 1 ms
      → IsMinkowski (Object X) (get_or ms 0 e)
  whole_is sides ms e same h =
      same_minkowski (HasLabel X.sides (one_label X) 1) (Object X) (get_or ms 0 e) object_of_label label_of_object
      (subst (λ s. IsMinkowski (HasLabel s (one_label X) 1) (get_or ms 0 e)) same (h.each 0 e (omega arith)))
