-- How a segment grows along a contour: its next point, and what the outcome says of the arc with it.
-- Where the growth ends belongs elsewhere.
use Rattle.std.proofs.Common.{◌≡◌, ℕ, ◌+◌, ◌-◌, ◌<◌, ◌≤◌, ◌%◌, List, [], ◌∷◌, ◌++◌, length, ap, sym, subst, ◌∙◌, arith}
use Rattle.std.specs.Prelude.{slice_get, Option, None, Some, MatchOption, Result, Ok, Err}
use Rattle.std.proofs.lemmas.Option.{get_or_from_slice_get}
use Rattle.shape_terms.specs.Limits.{most_flat}
use Rattle.shape_space.specs.declared.point.P2.{P2}
use Rattle.shape_terms.specs.Points.{Point}
use Rattle.shape_terms.specs.Steps.{AreClose}
use Rattle.shape_terms.specs.Straight.{IsStraight}
use Rattle.shape_terms.specs.Refutations.{point_at}
use Rattle.shape_terms.specs.Covers.{arc}
use Rattle.shape_terms.specs.Traces.{IsClosedPath}
use Rattle.shape_terms.proofs.Senses.{straight_for}
use Rattle.shape_terms.specs.BackArcs.{back_arc}
use Rattle.shape_terms.proofs.BackArcs.{arc-more, back-more, arc_end, back_end}
use Rattle.shape_refute.specs.Terms.{flat_point}
use Rattle.shape_line.specs.declared.segment.Segment.{Segment}
use Rattle.shape_line.specs.declared.clash.Clash.{Clash}
use Rattle.shape_line.specs.declared.clash.Clash.TheVariants.{Turned, Crossed}
use Rattle.shape_line.specs.Frames.{end_point}
use Rattle.shape_line.specs.Evidence.{Reaches}
use Rattle.shape_line.specs.Clashes.{IsClash}
use Rattle.shape_line.specs.SegmentTerms.{points_of, IsOutcome}
use Rattle.shape_line.specs.GrowSteps.{Takes, IsGrownTo, HasGrownTo}
use Rattle.shape_line.proofs.ShortArcs.{short_arc}
use Rattle.shape_line.proofs.Backs.{close_next, close_before, back_straight}
use Rattle.shape_line.proofs.Searching.{straight_of}

module _ (points : List Point) (path : IsClosedPath most_flat points) where
  pub point_is : (i : ℕ) (p : P2) → slice_get points i ≡ Some (flat_point p) → point_at points i ≡ flat_point p
  point_is i p s = get_or_from_slice_get points i (flat_point p) [] s

  pub within : (i : ℕ) → i % length points < length points
  within i = let s = path.some in omega arith

  -- ---- one place more

  pub near_on : (t b e : ℕ) (s : Segment) → b ≤ e → Takes t (arc points b e) s → AreClose (end_point (points_of s)) (point_at points ((e + 1) % length points))
  near_on t b e s l h = subst (λ (x : Point). AreClose x (point_at points ((e + 1) % length points))) (sym (ap end_point h.taken ∙ arc_end points b e l))
      (close_next points most_flat path e)

  pub near_back : (t b e : ℕ) (s : Segment) → 1 ≤ b → b ≤ e → Takes t (back_arc points b e) s
      → AreClose (end_point (points_of s)) (point_at points ((b - 1) % length points))
  near_back t b e s some l h = subst (λ (x : Point). AreClose x (point_at points ((b - 1) % length points)))
      (sym (ap end_point h.taken ∙ back_end points b e l)) (close_before points most_flat path b some)

  pub grown_on : (t b e : ℕ) (s : Segment) (o : Result Segment Clash) → b ≤ e → Takes t (arc points b e) s
      → IsGrownTo s.axis (points_of s ++ point_at points ((e + 1) % length points) ∷ []) o → IsGrownTo t (arc points b (e + 1)) o
  grown_on t b e s o l h g = subst (λ a. IsGrownTo a (arc points b (e + 1)) o) h.axis
      (subst (λ run. IsGrownTo s.axis run o) ((λ i. h.taken i ++ point_at points ((e + 1) % length points) ∷ []) ∙ sym (arc-more points b e l)) g)

  pub grown_back : (t b e : ℕ) (s : Segment) (o : Result Segment Clash) → 1 ≤ b → b ≤ e → Takes t (back_arc points b e) s
      → IsGrownTo s.axis (points_of s ++ point_at points ((b - 1) % length points) ∷ []) o → IsGrownTo t (back_arc points (b - 1) e) o
  grown_back t b e s o some l h g = subst (λ a. IsGrownTo a (back_arc points (b - 1) e) o) h.axis
      (subst (λ run. IsGrownTo s.axis run o) ((λ i. h.taken i ++ point_at points ((b - 1) % length points) ∷ []) ∙ sym (back-more points b e some l)) g)

  -- ---- where the growth ends

  -- a segment over an arc is shorter than the contour
  pub taken_short : (t b e : ℕ) (s : Segment) → t < 2 → Takes t (arc points b e) s → e < b + length points
  taken_short t b e s l h = short_arc points path.some b e (straight_for t (arc points b e) l (straight_of t (arc points b e) s h.axis h.taken))

  -- and over an arc backward it makes the arc straight
  pub taken_back : (t b e : ℕ) (s : Segment) → t < 2 → b ≤ e → Takes t (back_arc points b e) s → IsStraight (arc points b e)
  taken_back t b e s l m h = straight_for t (arc points b e) l (back_straight points t b e m (straight_of t (back_arc points b e) s h.axis h.taken))

-- the places that a reason names are those of its run
pub clash_reaches : (t : ℕ) (run : List Point) (clash : Clash) (last : ℕ) → length run ≤ last + 1 → IsClash t run clash → Reaches clash last
clash_reaches t run (Turned turn) last l h = (let a = h.turn.first in omega arith, let b = h.turn.second in omega arith)
clash_reaches t run (Crossed c) last l h =
    let a = h.lower.rising in
    let b = h.lower.within in
    let d = h.upper.rising in
    let e = h.upper.within in
    ((omega arith, omega arith), (omega arith, omega arith))

-- the outcome of a step, for the run that the segment has then
pub grown_to : (s : Segment) (p : P2) (run : List Point) (o : Result Segment Clash) → points_of s ++ flat_point p ∷ [] ≡ run → IsOutcome s p o
    → IsGrownTo s.axis run o
grown_to s p run (Ok r) t h = record { axis = h.axis; taken = h.points ∙ t }
grown_to s p run (Err clash) t h = subst (λ (run : List Point). IsClash s.axis run clash) t h

pub stepped_to : (s now : Segment) (p : P2) (run : List Point) (o : Option Clash) → points_of s ++ flat_point p ∷ [] ≡ run
    → MatchOption o (IsOutcome s p (Ok now)) (λ clash. (now ≡ s) × IsOutcome s p (Err clash)) → HasGrownTo s.axis run s now o
stepped_to s now p run None t h = grown_to s p run (Ok now) t h
stepped_to s now p run (Some clash) t h = (h.0, grown_to s p run (Err clash) t h.1)
