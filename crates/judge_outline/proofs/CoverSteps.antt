-- What the judge keeps of the contour that was begun last: its points twice round, and what makes the next segment.
-- Laws over what the judge is seen as and the lists that it keeps.
use Rattle.std.proofs.Common.{◌≡◌, ℕ, ◌+◌, ◌-◌, ◌*◌, ◌<◌, ◌≤◌, ◌^◌, List, length, map, take, drop, ap, ◌∙◌, subst, arith}
use Rattle.std.proofs.lemmas.List.{length-map}
use Rattle.shape_terms.specs.Limits.{most_round}
use Rattle.shape_terms.specs.Points.{Point}
use Rattle.shape_terms.specs.Traces.{Contour}
use Rattle.shape_terms.specs.Covers.{Stretch, arc}
use Rattle.shape_terms.specs.Naive.{Naive, IsNaiveFor}
use Rattle.shape_terms.specs.Straight.{KeepsSense}
use Rattle.report_terms.specs.ContourLines.{Standing, open_contour, WantsNone, IsNextSegment}
use Rattle.shape_terms.proofs.ArcRuns.{length-arc}
use Rattle.shape_refute.specs.Places.{AreNextPlaces}
use Rattle.judge_outline.specs.CoverState.{CoverState, HasRound}
use Rattle.judge_outline.proofs.RoundParts.{part_is, two_rounds}

-- ---- the points twice round

-- the contour that was begun last, of the judge as it is seen and of its parts
pub same_open : (n : ℕ) (cs : List Contour) (s : Standing) (now : CoverState) → record { number = n; contours = cs; standing = s } ≡ now
    → open_contour cs s ≡ open_contour now.contours now.standing
same_open n cs s now view = ap (λ (t : CoverState). open_contour t.contours t.standing) view

module _ {A : Type 0} (f : A → Point) (n : ℕ) (cs : List Contour) (s : Standing) (now : CoverState)
    (view : record { number = n; contours = cs; standing = s } ≡ now)
    (round : List A) (rr sr : ℕ) (h : HasRound cs s (map f round) rr sr) (begun : 0 < now.standing.begun) where
  twice_round : map f round ≡ arc (open_contour now.contours now.standing).points 0 (2 * length (open_contour now.contours now.standing).points - 1)
  twice_round =
      let b : 0 < s.begun = omega (arith, ap (λ (t : CoverState). t.standing.begun) view, begun) in
      subst (λ (k : Contour). map f round ≡ arc k.points 0 (2 * length k.points - 1)) (same_open n cs s now view) (h.twice b)

  pub arc_within : (items : List A) (last : ℕ) → items ≡ round → last < 2 * length (open_contour now.contours now.standing).points → last < length items
  arc_within items last e l =
      let k = two_rounds f round (open_contour now.contours now.standing).points (omega arith) twice_round in
      omega (arith, ap length e, k)

  pub arc_value : (items run : List A) (first last : ℕ) → items ≡ round → first ≤ last → last < 2 * length (open_contour now.contours now.standing).points
      → run ≡ take (last + 1 - first) (drop first items) → map f run ≡ arc (open_contour now.contours now.standing).points first last
  arc_value items run first last e order l r =
      part_is f round run (open_contour now.contours now.standing).points first last twice_round order l
      (r ∙ ap (λ xs. take (last + 1 - first) (drop first xs)) e)

  pub arc_few : (items run : List A) (first last : ℕ) → items ≡ round → first ≤ last → last < 2 * length (open_contour now.contours now.standing).points
      → run ≡ take (last + 1 - first) (drop first items) → length (open_contour now.contours now.standing).points ≤ most_round → length run < 2 ^ 32
  arc_few items run first last e order l r few =
      let k = ap length (arc_value items run first last e order l r) in
      omega (arith, k, length-map run f, length-arc (open_contour now.contours now.standing).points first last)

-- ---- the next segment

-- places that come next and a line that holds their arc make the next segment
pub next_segment : (number : ℕ) (contours : List Contour) (s : Standing) (n m b e t : ℕ) (line : Naive) (before : List Stretch) (run : List Point)
    → n ≡ length (open_contour contours s).points → m ≡ s.declared → before ≡ s.stretches → s.points ≡ n → length before < m → WantsNone number s → s.gaps ≡ 0
    → AreNextPlaces n m before b e → run ≡ arc (open_contour contours s).points b e → IsNaiveFor t run line × KeepsSense t run
    → IsNextSegment number contours s b e t line
next_segment number contours s n m b e t line before run all declared listed given more shown early places is held =
    let p = subst (λ k. AreNextPlaces k s.declared s.stretches b e) all
    (subst (λ k. AreNextPlaces n k s.stretches b e) declared (subst (λ ss. AreNextPlaces n m ss b e) listed places)) in
    record {
      points = given ∙ all;
      more = omega (arith, more, declared, ap length listed);
      shown = shown;
      early = early;
      segment = record {
        begins = p.begins;
        rises = p.rises;
        short = p.short;
        after = p.after;
        closes = p.closes;
        naive = subst (λ r. IsNaiveFor t r line) is held.0;
        sense = subst (KeepsSense t) is held.1;
      };
    }
