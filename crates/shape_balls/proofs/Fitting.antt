-- Kept balls, and the sides of a picture, fit the fields of their lines.
-- Stated of pictures, facts and points; how lines are spelled belongs elsewhere.
use Rattle.std.proofs.Common.{◌≡◌, ◌⊎◌, ℕ, ◌<◌, ◌≤◌, ◌∙◌, sym, subst, arith, List, [], length, ℤ, pos, ◌≤ℤ◌, negsuc}
use Rattle.std.specs.Prelude.{All, Bool}
use Rattle.std.proofs.lemmas.Int.{ints}
use Rattle.std.proofs.lemmas.List.Elements.{All-get_or}
use Rattle.shape_terms.specs.Limits.{most_flat, most_coordinate}
use Rattle.shape_terms.specs.Points.{Point, AreSides}
use Rattle.shape_terms.specs.Pictures.{Picture}
use Rattle.shape_terms.specs.FramedBox.{IsWithin}
use Rattle.shape_terms.specs.Distances.{NearFact, IsField, IsFramed}
use Rattle.shape_terms.proofs.Boxes.{in_box_length}
use Rattle.shape_terms.proofs.Numbered.{object_in_box}
use Rattle.text_terms.specs.Fields.{point, weight}
use Rattle.text_terms.proofs.FramedFields.{within_short, distance_fits}
use Rattle.ball_terms.specs.Balls.{Ball}
use Rattle.ball_terms.specs.Lines.{Line, spelled}
use Rattle.ball_terms.proofs.BallLists.{each_of}
use Rattle.shape_balls.specs.Keeping.{fact_at}
use Rattle.shape_balls.specs.Chosen.{ball_at, IsChosen}
use Rattle.shape_balls.proofs.Facts.{fact_object, fact_least}

pub few_axes : (d : ℕ) → (d ≡ 2) ⊎ (d ≡ 3) → d ≤ 3
few_axes d h = grind arith

sides_within : (greatest : ℤ) (n : Point) → AreSides greatest n → greatest ≤ℤ pos most_flat → IsWithin (negsuc 0) (pos most_coordinate) n
sides_within greatest n h flat k l = let a = h k l in (omega (arith, ints, a.0), omega (arith, ints, a.1, flat))

pub sides_fit : (d : ℕ) (greatest : ℤ) (n : Point) → length n ≡ d → AreSides greatest n → greatest ≤ℤ pos most_flat → (point d).InRange n
sides_fit d greatest n e h flat = within_short d n e (sides_within greatest n h flat)

module _ (X : Picture) (facts : List NearFact) (field : IsField X facts) (framed : All IsFramed facts) (d : ℕ) (axes : length X.sides ≡ d) (three : d ≤ 3) where
  fact_fits : (i : ℕ) → i < length facts → (spelled d).IsLine (Line.Ball (ball_at (fact_at facts i)))
  fact_fits i l =
      let f = fact_at facts i in
      let least = fact_least X facts field i l in
      let near : IsFramed (fact_at facts i) = All-get_or IsFramed facts i (record { p = []; q = []; s = 0 }) l framed in
      let p = within_short d f.p (in_box_length X.sides f.p (object_in_box X f.p (fact_object X facts field i l)) ∙ axes) near.p in
      let q = within_short d f.q (least.background.point ∙ axes) near.q in
      let few : length f.p ≤ 3 = (let e = p.axes in omega arith) in
      (p, (q, (subst weight.InRange (sym least.distance) (distance_fits f.p f.q few near.p near.q), p)))

  pub chosen_fit : (kept : List Bool) (i : ℕ) (balls : List Ball) → i ≤ length facts → IsChosen X facts kept i balls
      → All (λ b. (spelled d).IsLine (Line.Ball b)) balls
  chosen_fit kept i balls h c = each_of balls (λ b. (spelled d).IsLine (Line.Ball b)) (λ k b e. (
      let f = c.from k b e in
      subst (λ (b : Ball). (spelled d).IsLine (Line.Ball b)) (sym f.3) (fact_fits f.0 (let m = f.1 in omega arith))))
