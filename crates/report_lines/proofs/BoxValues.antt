-- Values of the points of a box, in raster order: each one, all of them, and one that is changed.
-- Laws of lists and points; pictures are such values that are true or false.
use Rattle.std.proofs.Common.{◌≡◌, ◌≢◌, ◌<◌, ℕ, Bool, false, List, [], length, get_or, set, replicate, sym, ap, ◌∙◌, arith}
use Rattle.std.specs.Prelude.{IsTrue}
use Rattle.std.proofs.lemmas.List.{get_or-set_same, get_or-set_other, length-set, same_lists, length-map, get_or-map, length-replicate, get_or-replicate}
use native.Mathlib.Decide.{ℕ_discrete}
use Rattle.shape_terms.specs.Points.{Point, in_box, box_points, box_count, raster_number, raster_point}
use Rattle.shape_terms.specs.Pictures.{Picture, at, blank, with_value}
use Rattle.shape_terms.proofs.Boxes.{raster_below, raster_point_in, raster_number-raster_point, raster_point-raster_number}
use Rattle.shape_terms.proofs.BoxLists.{length-box_points, get_or-box_points, values_are}
use Rattle.report_lines.specs.Said.{values_of, picture_of}

module _ {A : Type 0} (sides : List ℕ) where
  pub length-values_of : (f : Point → A) → length (values_of sides f) ≡ box_count sides
  length-values_of f = length-map (box_points sides) f ∙ length-box_points sides

  pub get_or-values_of : (f : Point → A) (i : ℕ) (d : A) → i < box_count sides → get_or (values_of sides f) i d ≡ f (raster_point sides i)
  get_or-values_of f i d l = get_or-map f (box_points sides) i [] d (omega (arith, l, length-box_points sides)) ∙ ap f (get_or-box_points sides i [] l)

  -- the value of one point of the box
  pub value_of : (f : Point → A) (p : Point) (d : A) → IsTrue (in_box sides p) → get_or (values_of sides f) (raster_number sides p) d ≡ f p
  value_of f p d h = get_or-values_of f (raster_number sides p) d (raster_below sides p h) ∙ ap f (raster_point-raster_number sides p h)

  -- values are the same where they are the same for each point of the box
  pub values_same : (f g : Point → A) → ((p : Point) → IsTrue (in_box sides p) → f p ≡ g p) → values_of sides f ≡ values_of sides g
  values_same f g e = same_lists (values_of sides f) (values_of sides g) (length-values_of f ∙ sym (length-values_of g)) (λ k d l.
      let m : k < box_count sides = omega (arith, l, length-values_of f) in
      get_or-values_of f k d m ∙ e (raster_point sides k) (raster_point_in sides k m) ∙ sym (get_or-values_of g k d m))

  -- one value for all points
  pub values_equal : (f : Point → A) (a : A) → ((p : Point) → f p ≡ a) → replicate (box_count sides) a ≡ values_of sides f
  values_equal f a e = same_lists (replicate (box_count sides) a) (values_of sides f) (length-replicate (box_count sides) a ∙ sym (length-values_of f))
      (λ k d l.
      let m : k < box_count sides = omega (arith, l, length-replicate (box_count sides) a) in
      get_or-replicate (box_count sides) k a d m ∙ sym (get_or-values_of f k d m ∙ e (raster_point sides k)))

  -- one value is changed
  pub values_with : (f g : Point → A) (q : Point) (a : A) → IsTrue (in_box sides q) → g q ≡ a → ((p : Point) → p ≢ q → g p ≡ f p)
      → set (values_of sides f) (raster_number sides q) a ≡ values_of sides g
  values_with f g q a inside there other =
      let n = raster_number sides q in
      let size = length-set (values_of sides f) n a ∙ length-values_of f in
      same_lists (set (values_of sides f) n a) (values_of sides g) (size ∙ sym (length-values_of g)) (λ k d l.
      let m : k < box_count sides = omega (arith, l, size) in
      sym (get_or-values_of g k d m ∙ elim (ℕ_discrete k n) [
        | yes e ↦
            ap g (ap (raster_point sides) e ∙ raster_point-raster_number sides q inside) ∙ there
            ∙ sym (ap (λ j. get_or (set (values_of sides f) n a) j d) e
            ∙ get_or-set_same (values_of sides f) n a d (omega (arith, raster_below sides q inside, length-values_of f)))
        | no e ↦
            other (raster_point sides k) (λ s. e (sym (raster_number-raster_point sides k m) ∙ ap (raster_number sides) s))
            ∙ sym (get_or-set_other (values_of sides f) n k a d e ∙ get_or-values_of f k d m)
      ]))

-- ---- pictures

module _ (sides : List ℕ) where
  pub at_picture_of : (f : Point → Bool) (p : Point) → IsTrue (in_box sides p) → at (picture_of sides f) p ≡ f p
  at_picture_of f p h = rw h (value_of sides f p false h)

  pub picture_same : (f g : Point → Bool) → ((p : Point) → IsTrue (in_box sides p) → f p ≡ g p) → picture_of sides f ≡ picture_of sides g
  picture_same f g e = ap (λ v. record { sides = sides; values = v }) (values_same sides f g e)

  pub picture_blank : (f : Point → Bool) → ((p : Point) → f p ≡ false) → blank sides ≡ picture_of sides f
  picture_blank f e = ap (λ v. record { sides = sides; values = v }) (values_equal sides f false e)

  pub picture_with : (f g : Point → Bool) (q : Point) (b : Bool) → IsTrue (in_box sides q) → g q ≡ b → ((p : Point) → p ≢ q → g p ≡ f p)
      → with_value (picture_of sides f) q b ≡ picture_of sides g
  picture_with f g q b inside there other = ap (λ v. record { sides = sides; values = v }) (values_with sides f g q b inside there other)

-- a picture is that of its values
pub picture_is : (X : Picture) (f : Point → Bool) → length X.values ≡ box_count X.sides → ((p : Point) → IsTrue (in_box X.sides p) → f p ≡ at X p)
    → picture_of X.sides f ≡ X
picture_is X f filled e = ap (λ v. record { sides = X.sides; values = v }) (values_same X.sides f (at X) e ∙ values_are X filled)
