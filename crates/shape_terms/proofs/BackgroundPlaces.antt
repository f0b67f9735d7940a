-- The background of a picture in the framed box as a net of places, and its components as those of the net.
use Rattle.std.proofs.Common.{◌≡◌, ◌<◌, ℕ, false, length, sym, ◌∙◌, ap, subst}
use Rattle.std.specs.Prelude.{◌&&◌, not, IsTrue, Some}
use Rattle.std.proofs.lemmas.Bool.{and_parts, and_from, not-true, not_from_false}
use Rattle.shape_terms.specs.Points.{Point, box_count}
use Rattle.shape_terms.specs.Pictures.{Picture, at}
use Rattle.shape_terms.specs.FramedBox.{framed_sides, framed_point}
use Rattle.shape_terms.specs.Adjacency.{Side, side_steps, side_point}
use Rattle.shape_terms.specs.Parts.{FramedBackground, NamesParts}
use Rattle.shape_terms.proofs.FramedBoxes.{length-framed_point}
use Rattle.shape_terms.proofs.AdjacencySymmetric.{side_sym}
use Rattle.shape_terms.proofs.NeighbourNumbers.{side_number, side_of_number}
use Rattle.shape_terms.specs.Net.{IsNet}
use Rattle.shape_terms.specs.Places.{in_frame, framed_number, BackgroundPlace, SidePlaces, background_place, background_link}
use Rattle.shape_terms.proofs.PartsAlong.{parts_along}
use Rattle.shape_terms.proofs.FramedNumbers.{frame_tested, frame_is, framed_number_below, framed_point-framed_number, framed_point_in}
use Rattle.shape_terms.proofs.FramedNumbers.{framed_number-framed_point}
use Rattle.shape_terms.proofs.ObjectPlaces.{place_there, place_named}

module _ (X : Picture) where
  -- a background point of the framed box and its place
  of_framed : (p : Point) → IsTrue (in_frame X.sides p) → at X p ≡ false → BackgroundPlace X (framed_number X.sides p)
      × (framed_point X.sides (framed_number X.sides p) ≡ p)
  of_framed p f b =
      let e = framed_point-framed_number X.sides p f in
      ((framed_number_below X.sides p f, subst (λ q. at X q ≡ false) (sym e) b), e)

  pub of_background : (p : Point) → FramedBackground X p → BackgroundPlace X (framed_number X.sides p) × (framed_point X.sides (framed_number X.sides p) ≡ p)
  of_background p h = of_framed p (frame_tested X.sides p h.0) h.1.value

  background_sound : (i k j : ℕ) → k < length (side_steps (length X.sides)) → background_link X i k ≡ Some j → BackgroundPlace X j × SidePlaces X i j
  background_sound i k j l e =
      let p = framed_point X.sides i in
      let q = side_point p k in
      let t = place_there (in_frame X.sides q && not (at X q)) (framed_number X.sides q) j e in
      let both = and_parts (in_frame X.sides q) (not (at X q)) t.0 in
      let o = of_framed q both.0 (not-true (at X q) both.1) in
      let side : Side p q = side_of_number p k (subst (λ n. k < length (side_steps n)) (sym (length-framed_point X.sides i)) l) in
      (subst (BackgroundPlace X) t.1 o.0, subst (λ r. Side p r) (sym o.1 ∙ ap (framed_point X.sides) t.1) side)

  background_complete : (i j : ℕ) → BackgroundPlace X i → BackgroundPlace X j → SidePlaces X i j → (k : ℕ) × (k < length (side_steps (length X.sides)))
      × (background_link X i k ≡ Some j)
  background_complete i j a b side =
      let q = framed_point X.sides j in
      let n = side_number (framed_point X.sides i) q side in
      let there = and_from (in_frame X.sides q) (not (at X q)) (framed_point_in X.sides j b.0) (not_from_false (at X q) b.1) in (
        n.0,
        subst (λ m. n.0 < length (side_steps m)) (length-framed_point X.sides i) n.1,
        ap (background_place X) n.2
            ∙ (place_named (in_frame X.sides q && not (at X q)) (framed_number X.sides q) there ∙ ap (λ m. Some m) (framed_number-framed_point X.sides j b.0)),
      )

  pub background_net : IsNet (box_count (framed_sides X.sides)) (BackgroundPlace X) (SidePlaces X) (length (side_steps (length X.sides))) (background_link X)
  background_net = record {
    bounded = λ i h. h.0;
    symmetric = λ i j. side_sym (framed_point X.sides i) (framed_point X.sides j);
    sound = background_sound;
    complete = background_complete;
  }

  -- the labels of the places name the components of the background
  pub background_parts : (n : ℕ) (f : ℕ → ℕ) → NamesParts (SidePlaces X) (BackgroundPlace X) n f
      → NamesParts Side (FramedBackground X) n (λ p. f (framed_number X.sides p))
  background_parts n f p =
      parts_along Side (BackgroundPlace X) (FramedBackground X) (framed_point X.sides) (framed_number X.sides)
      (λ i h. (frame_is X.sides (framed_point X.sides i) (framed_point_in X.sides i h.0), record { point = length-framed_point X.sides i; value = h.1 }))
      of_background (λ i h. framed_number-framed_point X.sides i h.0) n f p
