-- An arc that a line holds is straight, and one that is refused for both axes is not.
-- How an arc is decided belongs elsewhere.
use Rattle.std.proofs.Common.{ℕ, ◌<◌, ◌≤◌, List, length, arith, inl, inr}
use Rattle.shape_terms.specs.Points.{Point}
use Rattle.shape_terms.specs.Naive.{Naive}
use Rattle.shape_terms.specs.Straight.{IsStraight}
use Rattle.shape_terms.specs.Covers.{Evidence, arc}
use Rattle.shape_terms.proofs.ArcRuns.{length-arc}
use Rattle.shape_terms.proofs.Evidences.{evidence_shows}
use Rattle.shape_terms.proofs.Senses.{straight_for}
use Rattle.shape_line.specs.Arcs.{IsHeld, IsBent}

pub held_straight : (t : ℕ) (run : List Point) (line : Naive) → 0 < length run → IsHeld t run line → IsStraight run
held_straight t run line s h = straight_for t run h.axis (record { some = s; no_turn = h.no_turn; line = (line, h.naive) })

pub arc_straight : (contour : List Point) (b e t : ℕ) (line : Naive) → b ≤ e → IsHeld t (arc contour b e) line → IsStraight (arc contour b e)
arc_straight contour b e t line l h = held_straight t (arc contour b e) line (omega (arith, length-arc contour b e)) h

pub bent_shows : (run : List Point) (x y : Evidence) → IsBent run x y → IsStraight run → ⊥
bent_shows run x y h (inl s) = evidence_shows 0 run x h.x.shows s
bent_shows run x y h (inr s) = evidence_shows 1 run y h.y.shows s
