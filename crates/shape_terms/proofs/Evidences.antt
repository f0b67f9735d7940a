-- Good evidence against a run: the run is not straight for the axis, and not empty.
-- What it shows of a whole contour stands in the laws of walks.
use Rattle.std.proofs.Common.{ℕ, ◌<◌, List, length, arith}
use Rattle.shape_terms.specs.Points.{Point}
use Rattle.shape_terms.specs.Straight.{IsStraightFor}
use Rattle.shape_terms.specs.Covers.{Evidence, IsEvidence}
use Rattle.shape_terms.proofs.Exclusion.{excludes}

pub evidence_shows : (t : ℕ) (run : List Point) (e : Evidence) → IsEvidence t run e → IsStraightFor t run → ⊥
evidence_shows t run (Evidence.Turned i j) h s = s.no_turn i j h
evidence_shows t run (Evidence.Cut why) h s = excludes 2 t run why h.1 s.line.0 s.line.1

pub evidence_some : (t : ℕ) (run : List Point) (e : Evidence) → IsEvidence t run e → 0 < length run
evidence_some t run (Evidence.Turned i j) h = let l = h.first in omega arith
evidence_some t run (Evidence.Cut why) h = h.0
