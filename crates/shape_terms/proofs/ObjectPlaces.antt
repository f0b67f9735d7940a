-- The object of a picture as a net of places, and its components as those of the net.
use Rattle.std.proofs.Common.{◌≡◌, ◌/◌, ◌<◌, ◌≤◌, ℕ, Bool, true, false, List, [], ◌∷◌, length, slice_index, refl, sym, ◌∙◌, ap, subst, arith}
use Rattle.std.specs.Prelude.{IsTrue, Some}
use Rattle.std.proofs.lemmas.Bool.{and_parts}
use native.Mathlib.Decide.{dec_lt}
use Rattle.shape_terms.specs.Points.{Point, in_box, box_count, raster_number, raster_point}
use Rattle.shape_terms.specs.Pictures.{Picture, at}
use Rattle.shape_terms.specs.Adjacency.{Near, near_steps, near_point}
use Rattle.shape_terms.specs.Parts.{Object, NamesParts, InOrder, LabelsObject}
use Rattle.shape_terms.proofs.Boxes.{raster_below, raster_number-raster_point, raster_point-raster_number}
use Rattle.shape_terms.proofs.AdjacencySymmetric.{near_sym}
use Rattle.shape_terms.proofs.NeighbourNumbers.{near_number, near_of_number}
use Rattle.shape_terms.specs.Net.{IsNet}
use Rattle.shape_terms.specs.Places.{place_if, ObjectPlace, NearPlaces, object_place, object_link}
use Rattle.shape_terms.proofs.PartsAlong.{parts_along}

pub length-raster_point : (sides : List ℕ) (i : ℕ) → length (raster_point sides i) ≡ length sides
length-raster_point [] i = refl
length-raster_point (n ∷ sides) i = omega (arith, length-raster_point sides (i / n))

-- an object point lies in the box
pub object_in_box : (X : Picture) (p : Point) → Object X p → IsTrue (in_box X.sides p)
object_in_box X p h = (and_parts (in_box X.sides p) _ h).0

-- a place that is there is the one that is named
pub place_there : (b : Bool) (i j : ℕ) → place_if b i ≡ Some j → (b ≡ true) × (i ≡ j)
place_there true i j e = (refl, cc)
place_there false i j e = cc

pub place_named : (b : Bool) (i : ℕ) → b ≡ true → place_if b i ≡ Some i
place_named b i e = rw e refl

module _ (X : Picture) where
  -- an object point and its place
  pub of_object : (p : Point) → Object X p → ObjectPlace X (raster_number X.sides p) × (raster_point X.sides (raster_number X.sides p) ≡ p)
  of_object p h =
      let b = object_in_box X p h in
      let e = raster_point-raster_number X.sides p b in
      ((raster_below X.sides p b, subst (Object X) (sym e) h), e)

  object_sound : (i k j : ℕ) → k < length (near_steps (length X.sides)) → object_link X i k ≡ Some j → ObjectPlace X j × NearPlaces X i j
  object_sound i k j l e =
      let p = raster_point X.sides i in
      let q = near_point p k in
      let t = place_there (at X q) (raster_number X.sides q) j e in
      let o = of_object q t.0 in
      let near : Near p q = near_of_number p k (subst (λ n. k < length (near_steps n)) (sym (length-raster_point X.sides i)) l) in
      (subst (ObjectPlace X) t.1 o.0, subst (λ r. Near p r) (sym o.1 ∙ ap (raster_point X.sides) t.1) near)

  object_complete : (i j : ℕ) → ObjectPlace X i → ObjectPlace X j → NearPlaces X i j → (k : ℕ) × (k < length (near_steps (length X.sides)))
      × (object_link X i k ≡ Some j)
  object_complete i j a b near =
      let n = near_number (raster_point X.sides i) (raster_point X.sides j) near in (
        n.0,
        subst (λ m. n.0 < length (near_steps m)) (length-raster_point X.sides i) n.1,
        ap (object_place X) n.2
            ∙ (place_named (at X (raster_point X.sides j)) (raster_number X.sides (raster_point X.sides j)) b.1
            ∙ ap (λ m. Some m) (raster_number-raster_point X.sides j b.0)),
      )

  pub object_net : IsNet (box_count X.sides) (ObjectPlace X) (NearPlaces X) (length (near_steps (length X.sides))) (object_link X)
  object_net = record {
    bounded = λ i h. h.0;
    symmetric = λ i j. near_sym (raster_point X.sides i) (raster_point X.sides j);
    sound = object_sound;
    complete =
        object_complete;
  }

  -- the labels of the places name the components of the object
  pub object_parts : (n : ℕ) (f : ℕ → ℕ) → NamesParts (NearPlaces X) (ObjectPlace X) n f → NamesParts Near (Object X) n (λ p. f (raster_number X.sides p))
  object_parts n f p = parts_along Near (ObjectPlace X) (Object X) (raster_point X.sides) (raster_number X.sides) (λ i h. h.1) of_object
      (λ i h. raster_number-raster_point X.sides i h.0) n f p

  -- labels of all places in order, with the label 0 where there is no object
  pub labels_object : (n : ℕ) (labels : List ℕ) → length labels ≡ box_count X.sides → ((i : ℕ) → 1 ≤ slice_index labels i → ObjectPlace X i) → InOrder labels
      → NamesParts (NearPlaces X) (ObjectPlace X) n (slice_index labels) → LabelsObject X labels
  labels_object n labels filled members ordered p = record {
    filled = filled;
    background = λ i l e. elim (dec_lt 0 (slice_index labels i)) [
      | yes h ↦ absurd (let o : at X (raster_point X.sides i) ≡ true = (members i (omega arith)).1 in let f : false ≡ true = sym e ∙ o in cc)
      | no h ↦ omega arith
    ];
    parts = (n, object_parts n (slice_index labels) p);
    ordered = ordered;
  }
