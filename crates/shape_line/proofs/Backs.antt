-- Arcs of a contour backward: that they are straight where the arcs forward are, and that the points along them are neighbours.
-- How a segment grows along them belongs elsewhere.
use Rattle.std.proofs.Common.{◌≡◌, ℕ, ◌+◌, ◌-◌, ◌<◌, ◌≤◌, ◌%◌, List, [], length, ap, sym, subst, ◌∙◌, arith}
use Rattle.std.specs.Prelude.{ℤ, ◌-ℤ◌, nat_abs}
use Rattle.std.proofs.Math.Nat.{mod-add-mod}
use Rattle.std.proofs.lemmas.Int.{ints}
use Rattle.std.proofs.lemmas.List.Elements.{All-from_get_or}
use Rattle.shape_terms.specs.Points.{Point, coordinate}
use Rattle.shape_terms.specs.Steps.{AreClose}
use Rattle.shape_terms.specs.Naive.{HoldsPoint}
use Rattle.shape_terms.specs.Refutations.{point_at}
use Rattle.shape_terms.specs.Straight.{IsStraightFor}
use Rattle.shape_terms.specs.Covers.{arc}
use Rattle.shape_terms.specs.Traces.{IsClosedPath}
use Rattle.shape_terms.proofs.ArcRuns.{arc-get, length-arc}
use Rattle.shape_line.specs.Evidence.{IsBackward}
use Rattle.shape_line.proofs.Moving.{turn_back}
use Rattle.shape_terms.specs.BackArcs.{back_arc}
use Rattle.shape_terms.proofs.BackArcs.{length-back, back-get}

module _ (contour : List Point) where
  -- the arc backward, in the arc forward from an earlier place
  pub back_in : (a b e : ℕ) → a ≤ b → b ≤ e → IsBackward (arc contour a e) (back_arc contour b e) (e - a)
  back_in a b e l m = record {
    fits = omega (arith, length-arc contour a e);
    few = omega (arith, length-back contour b e);
    same = λ i k.
        let k' : i < e + 1 - b = omega (arith, length-back contour b e) in
        back-get contour b e i k'
        ∙ (ap (λ v. point_at contour (v % length contour)) (let q : e - i ≡ a + (e - a - i) = omega arith in q)
        ∙ sym (arc-get contour a e (e - a - i) (omega arith)));
  }

  -- and the arc forward in the arc backward
  arc_in : (b e : ℕ) → b ≤ e → IsBackward (back_arc contour b e) (arc contour b e) (e - b)
  arc_in b e l = record {
    fits = omega (arith, length-back contour b e);
    few = omega (arith, length-arc contour b e);
    same = λ i k.
        let k' : i < e + 1 - b = omega (arith, length-arc contour b e) in
        arc-get contour b e i k'
        ∙ (ap (λ v. point_at contour (v % length contour)) (let q : b + i ≡ e - (e - b - i) = omega arith in q)
        ∙ sym (back-get contour b e (e - b - i) (omega arith)));
  }

  backward_straight : (t : ℕ) (whole run : List Point) (last : ℕ) → IsBackward whole run last → 0 < length run → IsStraightFor t whole → IsStraightFor t run
  backward_straight t whole run last b some h = record {
    some = some;
    no_turn = λ i j u. h.no_turn _ _ (turn_back whole run last b t i j u);
    line = (
      h.line.0,
      record {
        proper = h.line.1.proper;
        holds = All-from_get_or (HoldsPoint t h.line.0) run []
            (λ i l. subst (HoldsPoint t h.line.0) (sym (b.same i l)) (h.line.1.holds (last - i) [] (let f = b.fits in omega arith)));
      },
    );
  }

  pub back_straight : (t b e : ℕ) → b ≤ e → IsStraightFor t (back_arc contour b e) → IsStraightFor t (arc contour b e)
  back_straight t b e l h = backward_straight t (back_arc contour b e) (arc contour b e) (e - b) (arc_in b e l) (omega (arith, length-arc contour b e)) h

  -- ---- neighbours
  module _ (side : ℕ) (path : IsClosedPath side contour) where
    pub close_next : (e : ℕ) → AreClose (point_at contour (e % length contour)) (point_at contour ((e + 1) % length contour))
    close_next e = let s = path.some in subst (λ v. AreClose (point_at contour (e % length contour)) (point_at contour v)) (mod-add-mod e (length contour) 1)
        (path.close (e % length contour) (omega arith))

    turned : (p q : Point) → AreClose p q → AreClose q p
    turned p q h = λ k. swap (coordinate p k) (coordinate q k) (h k)
      where
        swap : (a b : ℤ) → nat_abs (a -ℤ b) ≤ 1 → nat_abs (b -ℤ a) ≤ 1
        swap a b h = omega (arith, ints)

    pub close_before : (b : ℕ) → 1 ≤ b → AreClose (point_at contour (b % length contour)) (point_at contour ((b - 1) % length contour))
    close_before b l = turned _ _
        (subst (λ v. AreClose (point_at contour ((b - 1) % length contour)) (point_at contour (v % length contour))) (let q : b - 1 + 1 ≡ b = omega arith in q)
        (close_next (b - 1)))
