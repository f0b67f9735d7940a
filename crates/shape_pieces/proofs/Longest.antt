-- The piece that a segment gives, and why it can't be longer.
-- Stated of the program's segments; how they are grown belongs elsewhere.
use Rattle.std.proofs.Common.{◌≡◌, ℕ, ◌+◌, ◌-◌, ◌<◌, ◌≤◌, ◌⊎◌, List, length, sym, subst, arith, inl, inr}
use Rattle.shape_terms.specs.Limits.{most_round}
use Rattle.shape_terms.specs.Points.{Point}
use Rattle.shape_terms.specs.Naive.{IsNaiveFor}
use Rattle.shape_terms.specs.Covers.{Evidence, arc}
use Rattle.shape_terms.specs.Traces.{IsClosedPath}
use Rattle.shape_terms.proofs.ArcRuns.{IsPart, arc_part, length-arc, part_naive, part_turn}
use Rattle.shape_refute.specs.Terms.{naive_of}
use Rattle.shape_refute.specs.Evidences.{evidence_of}
use Rattle.shape_terms.specs.Least.{IsLeastLine}
use Rattle.shape_line.specs.Small.{IsPlaneLine}
use Rattle.shape_line.specs.Clashes.{IsClash}
use Rattle.shape_line.specs.Evidence.{IsShown}
use Rattle.shape_line.specs.SegmentTerms.{points_of}
use Rattle.shape_line.specs.declared.grow.Grown.{Grown}
use Rattle.shape_line.specs.Arcs.{IsRefused}
use Rattle.shape_line.specs.Searches.{IsForward}
use Rattle.shape_line.proofs.Searching.{line_held, shown_refused}
use Rattle.shape_line.proofs.Senses.{keeps_sense}
use Rattle.shape_pieces.specs.declared.entry.Entry.{Entry}
use Rattle.shape_pieces.specs.Steps.{piece_of, IsPieceFrom}

-- where a segment stops, no run from its first place to there or beyond is straight
refused_at : (points : List Point) (b e t : ℕ) (g : Grown) (why : Evidence) → length points ≤ most_round → e < length points → IsForward points b t g
    → g.place ≤ e → ((u : ℕ) (run whole : List Point) → IsClash u run g.clash → IsPart whole run 0 → IsShown u whole why)
    → IsRefused t (arc points b (e + 1)) why
refused_at points b e t g why few w h l shown =
    let r = h.rises in
    let n = length-arc points b (e + 1) in
    let p = arc_part points b (e + 1) b (g.place + 1) (omega arith) (omega arith) (omega arith) in
    let whole = arc points b (e + 1) in
    let front = arc points b (g.place + 1) in
    shown_refused t whole why (omega arith) (shown t front whole h.clash (subst (IsPart whole front) (let q : b - b ≡ 0 = omega arith in q) p))

module _ (points : List Point) (side : ℕ) (path : IsClosedPath side points) (b t : ℕ) (g x y : Grown) (e : Entry) (l : t < 2) (begins : b < length points)
    (h : IsForward points b t g) (hx : IsForward points b 0 x) (hy : IsForward points b 1 y) (lx : x.place ≤ g.place) (ly : y.place ≤ g.place) where
  pub piece_is : e.stretch.first ≡ b → e.stretch.last ≤ g.place → e.stretch.last < length points
      → (e.stretch.last ≡ g.place) ⊎ (e.stretch.last + 1 ≡ length points) → e.stretch.line.axis ≡ g.segment.axis
      → IsNaiveFor g.segment.axis (points_of g.segment) (naive_of 2 e.stretch.line) → IsPlaneLine g.segment.axis e.stretch.line
      → IsLeastLine g.segment.axis (points_of g.segment) (naive_of 2 e.stretch.line)
      → ((u : ℕ) (run whole : List Point) → IsClash u run x.clash → IsPart whole run 0 → IsShown u whole (evidence_of e.gap.x))
      → ((u : ℕ) (run whole : List Point) → IsClash u run y.clash → IsPart whole run 0 → IsShown u whole (evidence_of e.gap.y))
      → IsPieceFrom points b (piece_of e)
  piece_is first last within one axis naive plane best shown_x shown_y =
      let rises = h.rises in
      let held = line_held t (arc points b g.place) g.segment e.stretch.line l h.axis h.taken axis naive plane best in
      let up : e.stretch.first ≤ e.stretch.last = elim one [ inl q ↦ omega arith | inr q ↦ omega arith ] in
      let part = arc_part points b g.place e.stretch.first e.stretch.last (omega arith) up last in
      record {
        begins = first;
        piece = record {
          rises = up;
          within = within;
          axis = held.axis;
          naive = part_naive (arc points b g.place) (arc points e.stretch.first e.stretch.last) (e.stretch.first - b) part e.stretch.line.axis
              (naive_of 2 e.stretch.line) held.naive;
          sense = keeps_sense e.stretch.line.axis (arc points e.stretch.first e.stretch.last)
              (λ i j u. held.no_turn _ _
              (part_turn (arc points b g.place) (arc points e.stretch.first e.stretch.last) (e.stretch.first - b) part e.stretch.line.axis i j u));
        };
        short_line = held.short;
        refused = λ more.
            let whole : e.stretch.last ≡ g.place = elim one [ inl q ↦ q | inr q ↦ absurd (omega arith) ] in
            let few = path.few in
            let rx = subst (λ v. IsRefused 0 (arc points v (e.stretch.last + 1)) (evidence_of e.gap.x)) (sym first)
            (refused_at points b e.stretch.last 0 x (evidence_of e.gap.x) few within hx (omega arith) shown_x) in
            let ry = subst (λ v. IsRefused 1 (arc points v (e.stretch.last + 1)) (evidence_of e.gap.y)) (sym first)
            (refused_at points b e.stretch.last 1 y (evidence_of e.gap.y) few within hy (omega arith) shown_y) in
            record { evidence = record { x = rx.shows; y = ry.shows }; short_x = rx.short; short_y = ry.short };
      }
