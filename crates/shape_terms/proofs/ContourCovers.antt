-- Stretches of a contour whose gaps have good evidence are its cover: straight runs of pixels are such as the laws of walks ask.
-- The argument itself stands in `RunCoverOf`, for any notion of straight runs.
use Rattle.std.proofs.Common.{◌<◌, List, length, inl, inr}
use Rattle.shape_terms.specs.Points.{Point}
use Rattle.shape_terms.specs.Straight.{IsStraight}
use Rattle.shape_terms.specs.Covers.{Stretch, IsCover, gap_run}
use Rattle.shape_terms.specs.GapCover.{AreGapped}
use Rattle.shape_terms.proofs.ArcRuns.{part_straight}
use Rattle.shape_terms.proofs.Evidences.{evidence_shows, evidence_some}
use Rattle.shape_terms.specs.RunCovers.{AreRunsWithGaps}
use Rattle.shape_terms.proofs.RunArcs.{IsStraightness}
use Rattle.shape_terms.proofs.RunCoverOf as Runs

straight_some : (run : List Point) → IsStraight run → 0 < length run
straight_some run (inl h) = h.some
straight_some run (inr h) = h.some

pub straightness : IsStraightness IsStraight
straightness = record { some = straight_some; part = part_straight }

module _ (contour : List Point) (stretches : List Stretch) (g : AreGapped contour stretches) where
  runs : AreRunsWithGaps IsStraight contour stretches
  runs = record {
    some = g.some;
    begins = g.begins;
    first_rises = g.first_rises;
    last_rises = g.last_rises;
    closes = g.closes;
    straight = g.straight;
    gap_some = λ k h. let v = g.evidence_x k h in evidence_some 0 (gap_run contour stretches k) v.0 v.1;
    gap_bent = λ k h s. elim s [
      | inl x ↦ (let v = g.evidence_x k h in evidence_shows 0 (gap_run contour stretches k) v.0 v.1 x)
      | inr y ↦ (let v = g.evidence_y k h in evidence_shows 1 (gap_run contour stretches k) v.0 v.1 y)
    ];
  }

  -- the stretches are the cover
  pub covers : IsCover contour stretches
  covers =
      let c = Runs.covers IsStraight straightness contour stretches runs in
      record {
        exact = λ s. (
          (λ i. let m = (c.exact s).0 i in (m.0, record { straight = m.1.straight; before = m.1.before; after = m.1.after })),
          (λ m. (c.exact s).1 (m.0, record { straight = m.1.straight; before = m.1.before; after = m.1.after })),
        );
        rising = c.rising;
      }
