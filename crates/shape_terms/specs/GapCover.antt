-- Stretches of a contour with good evidence for every gap.
-- That these are the cover is a theorem about them.
use Rattle.std.specs.Prelude.{ℕ, ◌+◌, ◌-◌, ◌<◌, ◌≤◌, List, length, slice_index_or}
use Rattle.shape_terms.specs.Points.{Point}
use Rattle.shape_terms.specs.Straight.{IsStraight}
use Rattle.shape_terms.specs.Covers.{Stretch, Evidence, IsEvidence, arc, gap_run}

abbrev pub stretch_at : List Stretch → ℕ → Stretch
stretch_at stretches k = slice_index_or stretches k (record { first = 0; last = 0 })

-- the stretches rise and are straight, and each gap has good evidence for both axes
pub record AreGapped (contour : List Point) (stretches : List Stretch) : Type 0 where
  pub some : 1 ≤ length stretches
  pub begins : (k : ℕ) → k < length stretches → (stretch_at stretches k).first < length contour
  pub first_rises : (k : ℕ) → k + 1 < length stretches → (stretch_at stretches k).first < (stretch_at stretches (k + 1)).first
  pub last_rises : (k : ℕ) → k + 1 < length stretches → (stretch_at stretches k).last < (stretch_at stretches (k + 1)).last
  pub closes : (stretch_at stretches (length stretches - 1)).last < (stretch_at stretches 0).last + length contour
  pub straight : (k : ℕ) → k < length stretches → IsStraight (arc contour (stretch_at stretches k).first (stretch_at stretches k).last)
  pub evidence_x : (k : ℕ) → k < length stretches → (e : Evidence) × IsEvidence 0 (gap_run contour stretches k) e
  pub evidence_y : (k : ℕ) → k < length stretches → (e : Evidence) × IsEvidence 1 (gap_run contour stretches k) e
