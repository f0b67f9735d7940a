-- Deleting a simple point keeps the numbers of components of the object and of the background in the framed box.
-- Laws for any number of axes, by the adjacencies alone.
use Rattle.std.proofs.Common.{◌≡◌, ◌≢◌, ℕ, true, false, [], ◌∷◌, List, length, refl, sym, ◌∙◌, ap, arith}
use Rattle.std.specs.Prelude.{IsTrue, ◌-ℤ◌, nat_abs, ◌≤◌}
use Rattle.std.specs.List.{AllZip}
use Rattle.std.proofs.lemmas.Int.{ints}
use Rattle.shape_terms.specs.Points.{Point, in_box}
use Rattle.shape_terms.specs.Pictures.{Picture, at, object_points}
use Rattle.shape_terms.specs.Adjacency.{Near, Side, Round}
use Rattle.shape_terms.specs.Parts.{Object, HasParts, InFrame, FramedBackground, Counts}
use Rattle.shape_terms.specs.Simple.{IsSimple, BackgroundRound}
use Rattle.shape_terms.specs.Thinning.{without}
use Rattle.shape_terms.proofs.Boxes.{in_box_first, in_box_length}
use Rattle.shape_terms.proofs.AdjacencySymmetric.{near_sym, side_sym}
use Rattle.shape_terms.proofs.NeighbourNumbers.{side_is_round}
use Rattle.shape_terms.proofs.ObjectPlaces.{object_in_box}
use Rattle.shape_terms.proofs.PointTests.{same_point}
use Rattle.shape_terms.proofs.Deletion.{same_parts, same_holding, lost, gained}
use Rattle.shape_terms.proofs.OneValue.{value_gone, value_elsewhere}

-- a point near a point of the box lies in the framed box
near_in_frame : (sides : List ℕ) (p q : Point) → IsTrue (in_box sides p) → AllZip (λ x y. nat_abs (x -ℤ y) ≤ 1) p q → InFrame sides q
near_in_frame [] [] [] b h = tt
near_in_frame [] [] (y ∷ q) b h = absurd h
near_in_frame [] (x ∷ p) q b h = cc
near_in_frame (n ∷ sides) [] q b h = cc
near_in_frame (n ∷ sides) (x ∷ p) [] b h = absurd h
near_in_frame (n ∷ sides) (x ∷ p) (y ∷ q) b h =
    let f = in_box_first n sides x p b in
    ((omega (arith, ints, f.0, f.1, h.0), omega (arith, ints, f.0, f.1, h.0)), near_in_frame sides p q f.2 h.1)

box_in_frame : (sides : List ℕ) (p : Point) → IsTrue (in_box sides p) → InFrame sides p
box_in_frame [] [] b = tt
box_in_frame [] (x ∷ p) b = cc
box_in_frame (n ∷ sides) [] b = cc
box_in_frame (n ∷ sides) (x ∷ p) b =
    let f = in_box_first n sides x p b in
    ((omega (arith, ints, f.0, f.1), omega (arith, ints, f.0, f.1)), box_in_frame sides p f.2)

module _ (Y : Picture) (p : Point) (o : Object Y p) (simple : IsSimple Y p) where
  in_the_box : IsTrue (in_box Y.sides p)
  in_the_box = object_in_box Y p o

  gone : at (without Y p) p ≡ false
  gone = value_gone Y p

  not_both : (q : Point) → at Y q ≡ true → at Y q ≡ false → ⊥
  not_both q a b = let t : true ≡ false = sym a ∙ b in cc

  pub object_kept : {n : ℕ} → HasParts Near (Object Y) n → HasParts Near (Object (without Y p)) n
  object_kept k = same_parts is was (lost same_point Near near_sym (λ a h. h.0 refl) (Object Y) p simple.object o k)
    where
      is : (q : Point) → Object Y q × (q ≢ p) → Object (without Y p) q
      is q h = value_elsewhere Y p q false in_the_box h.1 ∙ h.0

      other : (q : Point) → Object (without Y p) q → q ≢ p
      other q h e = let t : true ≡ false = sym h ∙ ap (at (without Y p)) e ∙ gone in cc

      was : (q : Point) → Object (without Y p) q → Object Y q × (q ≢ p)
      was q h = (sym (value_elsewhere Y p q false in_the_box (other q h)) ∙ h, other q h)

  pub background_kept : {n : ℕ} → HasParts Side (FramedBackground Y) n → HasParts Side (FramedBackground (without Y p)) n
  background_kept k =
      gained same_point Side side_sym (FramedBackground Y) Round p (side_is_round p)
      (same_parts (same_holding to (λ a u s. s)) (same_holding of (λ a u s. s)) simple.background)
      (FramedBackground (without Y p))
      (box_in_frame Y.sides p in_the_box, record { point = in_box_length Y.sides p in_the_box; value = gone })
      keeps others (λ b. not_both p o b.1.value) k.1
    where
      to : (q : Point) → BackgroundRound Y p q → FramedBackground Y q × Round p q
      to q h = ((near_in_frame Y.sides p q in_the_box h.1.0.1, h.0), h.1)

      of : (q : Point) → FramedBackground Y q × Round p q → BackgroundRound Y p q
      of q h = (h.0.1, h.1)

      keeps : (q : Point) → FramedBackground Y q → FramedBackground (without Y p) q
      keeps q h = (
        h.0,
        record {
          point = h.1.point;
          value = value_elsewhere Y p q false in_the_box (λ e. not_both p o (sym (ap (at Y) e) ∙ h.1.value))
              ∙ h.1.value;
        },
      )

      others : (q : Point) → FramedBackground (without Y p) q → q ≢ p → FramedBackground Y q
      others q h n = (h.0, record { point = h.1.point; value = sym (value_elsewhere Y p q false in_the_box n) ∙ h.1.value })

-- both numbers of components are those before
pub counts_kept : (Y : Picture) (p : Point) (o b n m : ℕ) → Object Y p → IsSimple Y p → Counts Y n o b
    → m ≡ length (object_points (without Y p)) → Counts (without Y p) m o b
counts_kept Y p o b n m h simple c e = record { points = e; object = object_kept Y p h simple c.object; background = background_kept Y p h simple c.background }
