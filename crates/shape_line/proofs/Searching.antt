-- Stretches that were grown: they are straight, shorter than the contour, and go no further.
-- Stated of the contour's points; how they grow belongs elsewhere.
use Rattle.std.proofs.Common.{◌≡◌, ℕ, zero, suc, ◌+◌, ◌-◌, ◌<◌, ◌≤◌, List, length, take, ap, sym, subst, ◌∙◌, arith, inl, inr}
use Rattle.std.specs.Prelude.{All, ℤ, pos, nat_abs, unsigned_abs}
use Rattle.std.proofs.lemmas.Int.{ints}
use Rattle.std.proofs.lemmas.List.{get_or-take, length-take-le}
use Rattle.std.proofs.lemmas.List.Elements.{All-from_get_or}
use native.Mathlib.Decide.{ℕ_discrete}
use Rattle.shape_terms.specs.Limits.{line_gap, line_area, line_weight}
use Rattle.shape_terms.specs.Points.{Point, coordinate}
use Rattle.shape_terms.specs.Naive.{IsNaiveFor}
use Rattle.shape_terms.specs.Turns.{IsTurn}
use Rattle.shape_terms.specs.Straight.{IsStraightFor, IsStraight}
use Rattle.shape_terms.specs.Covers.{Evidence, arc}
use Rattle.shape_terms.specs.Refutations.{Share}
use Rattle.shape_terms.specs.Traces.{IsClosedPath}
use Rattle.shape_terms.proofs.ArcRuns.{arc_part, length-arc, part_straight_for}
use Rattle.shape_terms.specs.RunWalks.{IsLongest}
use Rattle.shape_refute.specs.declared.naive.Naive.{Naive}
use Rattle.shape_refute.specs.Terms.{naive_of}
use Rattle.shape_terms.specs.Least.{IsLeastLine}
use Rattle.shape_line.specs.declared.segment.Segment.{Segment}
use Rattle.shape_line.specs.Small.{IsPlaneLine}
use Rattle.shape_line.specs.SegmentTerms.{points_of}
use Rattle.shape_line.specs.Evidence.{IsShown}
use Rattle.shape_line.proofs.Outcomes.{segment_straight, clash_shows}
use Rattle.shape_line.specs.declared.grow.Grown.{Grown}
use Rattle.shape_line.specs.declared.stretch.Stretch.{Stretch}
use Rattle.shape_line.specs.declared.reach.Reach.{Reach}
use Rattle.shape_line.specs.Found.{IsShortLine, AreShortShares}
use Rattle.shape_line.specs.Arcs.{IsHeld, IsRefused}
use Rattle.shape_line.specs.Entries.{stretch_of}
use Rattle.shape_line.specs.Searches.{IsForward, IsStretch, IsReach}
use Rattle.shape_line.proofs.ShortArcs.{short_arc}
use Rattle.shape_line.proofs.Verdicts.{arc_straight}

pub stretch_straight : (points : List Point) (s : Stretch) → IsStretch points s → IsStraight (arc points s.first s.last)
stretch_straight points s h = arc_straight points s.first s.last s.line.axis (naive_of 2 s.line) h.rises h.held

-- a stretch is shorter than the contour
pub stretch_short : (side : ℕ) (points : List Point) (s : Stretch) → IsClosedPath side points → IsStretch points s → s.last < s.first + length points
stretch_short side points s path h = short_arc points path.some s.first s.last (stretch_straight points s h)

pub reach_longest : (points : List Point) (g : Reach) → IsReach points g → IsLongest IsStraight points (stretch_of g.stretch)
reach_longest points g h = record { straight = stretch_straight points g.stretch h.stretch; longest = h.longest }

-- ---- sizes

size : (a : ℤ) → unsigned_abs a ≤ line_gap → nat_abs a < 9223372036854775808
size a h = omega (arith, ints)

bound_size : (a : ℤ) → unsigned_abs a ≤ line_area + 1 → nat_abs a < 9223372036854775808
bound_size a h = omega (arith, ints)

pub short_line : (t : ℕ) (line : Naive) → IsPlaneLine t line → IsShortLine (naive_of 2 line)
short_line t line h =
    let n : length (take 2 line.a) ≡ 2 = length-take-le 2 line.a (omega (arith, h.three)) in
    record {
      two = n;
      coefficients = All-from_get_or (λ c. nat_abs c < 9223372036854775808) (take 2 line.a) (pos 0) (λ i l. each i (omega arith));
      mu = bound_size line.mu h.mu_small;
    }
  where
    each : (i : ℕ) → i < 2 → nat_abs (coordinate (take 2 line.a) i) < 9223372036854775808
    each zero l = subst (λ (c : ℤ). nat_abs c < 9223372036854775808) (sym (get_or-take 2 line.a 0 (pos 0) (omega arith))) (size (coordinate line.a 0) h.x_small)
    each (suc zero) l = subst (λ (c : ℤ). nat_abs c < 9223372036854775808) (sym (get_or-take 2 line.a 1 (pos 0) (omega arith)))
        (size (coordinate line.a 1) h.y_small)
    each (suc (suc i)) l = absurd (omega arith)

short_shares : (n : ℕ) (shares : List Share) → n < 4294967296 → length shares ≤ 4 → All (λ s. s.place < n) shares → All (λ s. s.weight ≤ line_weight) shares
    → AreShortShares shares
short_shares n shares few four places weights = record {
  few = four;
  places = λ i d l. (let p = places i d l in omega arith);
  weights = λ i d l. (let w = weights i d l in omega arith);
}

-- evidence that is shown is short
pub shown_refused : (t : ℕ) (run : List Point) (e : Evidence) → length run < 4294967296 → IsShown t run e → IsRefused t run e
shown_refused t run (Evidence.Turned i j) few h =
    record { shows = h.shows; short = (let a = h.shows.first in omega arith, let b = h.shows.second in omega arith) }
shown_refused t run (Evidence.Cut why) few h = record {
  shows = h.shows;
  short = record {
    low = short_shares (length run) why.low few h.light.few_low h.shows.1.low_places h.light.low;
    high = short_shares (length run) why.high few h.light.few_high h.shows.1.high_places h.light.high;
    few_steps = h.light.few_steps;
    steps = λ i d l. (let w = h.light.steps i d l in omega arith);
  };
}

-- ---- segments over an arc

-- what is kept of the line of a segment
pub line_held : (t : ℕ) (run : List Point) (s : Segment) (line : Naive) → t < 2 → s.axis ≡ t → points_of s ≡ run → line.axis ≡ s.axis
    → IsNaiveFor s.axis (points_of s) (naive_of 2 line) → IsPlaneLine s.axis line → IsLeastLine s.axis (points_of s) (naive_of 2 line)
    → IsHeld line.axis run (naive_of 2 line)
line_held t run s line l e taken axis naive plane best = record {
  least = subst (λ a. IsLeastLine a run (naive_of 2 line)) (sym axis) (subst (λ r. IsLeastLine s.axis r (naive_of 2 line)) taken best);
  axis = omega (arith, axis, e, l);
  no_turn = λ i j u. straight.no_turn i j (subst (λ a. IsTurn a run i j) axis u);
  naive = subst (λ a. IsNaiveFor a run (naive_of 2 line)) (sym axis) (subst (λ r. IsNaiveFor s.axis r (naive_of 2 line)) taken naive);
  short = short_line s.axis line plane;
}
  where
    straight : IsStraightFor s.axis run
    straight = subst (IsStraightFor s.axis) taken (segment_straight s)

pub straight_of : (t : ℕ) (run : List Point) (s : Segment) → s.axis ≡ t → points_of s ≡ run → IsStraightFor t run
straight_of t run s e taken = subst (λ a. IsStraightFor a run) e (subst (IsStraightFor s.axis) taken (segment_straight s))

-- the arc with one place more is straight for no axis that ended there or before
pub ends_there : (points : List Point) (first last t : ℕ) (g : Grown) → IsForward points first t g → g.place ≤ last
    → IsStraightFor t (arc points first (last + 1)) → ⊥
ends_there points first last t g h l s =
    let r = h.rises in
    clash_shows t (arc points first (g.place + 1)) g.clash h.clash
    (part_straight_for (arc points first (last + 1)) (arc points first (g.place + 1)) (first - first)
    (arc_part points first (last + 1) first (g.place + 1) (omega arith) (omega arith) (omega arith)) (omega (arith, length-arc points first (g.place + 1)))
    t s)

-- nor for another axis for which the segment that ended is not straight
pub no_other_way : (points : List Point) (first u : ℕ) (g : Grown) → first ≤ g.place → points_of g.segment ≡ arc points first g.place
    → (IsStraightFor u (points_of g.segment) → ⊥) → IsStraightFor u (arc points first (g.place + 1)) → ⊥
no_other_way points first u g rises taken none s =
    none (subst (IsStraightFor u) (sym taken)
    (part_straight_for (arc points first (g.place + 1)) (arc points first g.place) (first - first)
    (arc_part points first (g.place + 1) first g.place (omega arith) (omega arith) (omega arith)) (omega (arith, length-arc points first g.place)) u s))

-- the segment of an axis makes the reach, where the arc with one place more is not straight for the other
pub reaches : (side : ℕ) (points : List Point) (path : IsClosedPath side points) (first t u : ℕ) (g : Grown) (r : Reach) → t < 2 → t + u ≡ 1
    → IsForward points first t g → (IsStraightFor u (arc points first (g.place + 1)) → ⊥)
    → r.stretch.first ≡ first → r.stretch.last ≡ g.place → r.stretch.line.axis ≡ g.segment.axis
    → IsNaiveFor g.segment.axis (points_of g.segment) (naive_of 2 r.stretch.line) → IsPlaneLine g.segment.axis r.stretch.line
    → IsLeastLine g.segment.axis (points_of g.segment) (naive_of 2 r.stretch.line) → r.grown ≡ g.segment → IsReach points r
reaches side points path first t u g r l both h no_other e1 e2 e3 naive plane best e4 =
    let rises = h.rises in
    let same : arc points r.stretch.first r.stretch.last ≡ arc points first g.place = (λ i. arc points (e1 i) (e2 i)) in
    let taken : points_of g.segment ≡ arc points r.stretch.first r.stretch.last = h.taken ∙ sym same in
    let stretch : IsStretch points r.stretch =
    record {
      rises = omega arith;
      held = line_held t (arc points r.stretch.first r.stretch.last) g.segment r.stretch.line l h.axis taken e3 naive plane
          best;
      flat = plane.flat;
    } in
    record {
      stretch = stretch;
      short = stretch_short side points r.stretch path stretch;
      axis = ap (λ s. s.axis) e4 ∙ sym e3;
      taken = ap points_of e4 ∙ taken;
      least = subst (λ s. IsLeastLine r.stretch.line.axis (points_of s) (naive_of 2 r.stretch.line)) (sym e4)
          (subst (λ a. IsLeastLine a (points_of g.segment) (naive_of 2 r.stretch.line)) (sym e3) best);
      longest = λ s. none (subst IsStraight (λ i. arc points (e1 i) (e2 i + 1)) s);
    }
  where
    none_for : (v : ℕ) → v < 2 → IsStraightFor v (arc points first (g.place + 1)) → ⊥
    none_for v m s = elim (ℕ_discrete v t) [
      | yes e ↦ ends_there points first g.place t g h (omega arith) (subst (λ a. IsStraightFor a (arc points first (g.place + 1))) e s)
      | no n ↦ no_other (subst (λ a. IsStraightFor a (arc points first (g.place + 1))) (let e : v ≡ u = omega arith in e) s)
    ]

    none : IsStraight (arc points first (g.place + 1)) → ⊥
    none (inl s) = none_for 0 (omega arith) s
    none (inr s) = none_for 1 (omega arith) s
