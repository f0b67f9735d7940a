-- What is found of a contour: its segments in order, each with a line and with the evidence for the gap after it.
-- What a cover is stands in `Covers` and `GapCover` of the terms; how one is searched belongs elsewhere.
use Rattle.std.specs.Prelude.{◌≡◌, ℕ, ◌<◌, ◌≤◌, ◌^◌, List, [], map, length, take, slice_index_or, pos, nat_abs, All}
use Rattle.shape_terms.specs.Points.{Point, coordinate}
use Rattle.shape_terms.specs.Naive.{Naive}
use Rattle.shape_terms.specs.Refutations.{Share, Refutation}
use Rattle.shape_terms.specs.Covers.{Stretch, Evidence, IsEvidence, IsSegment, IsCover, arc, gap_run}
use Rattle.shape_terms.specs.Least.{IsLeastLine, Pairs, ShowsLeast}
use Rattle.shape_terms.specs.GapCover.{AreGapped}

-- a stretch with a line of an axis, the points of the segment that was grown, and evidence for the axes x and y that the gap after it is not straight
pub record Found : Type 0 where
  pub stretch : Stretch
  pub axis : ℕ
  pub line : Naive
  pub grown : List Point
  pub x : Evidence
  pub y : Evidence

-- the stretches of what was found
abbrev pub stretches_of : List Found → List Stretch
stretches_of found = map (λ f. f.stretch) found

-- what was found in the place k; past the end it means nothing
abbrev pub found_at : List Found → ℕ → Found
found_at found k = slice_index_or found k (record {
  stretch = record { first = 0; last = 0 };
  axis = 0;
  line = record { a = []; mu = pos 0 };
  grown = [];
  x = Evidence.Turned 0 0;
  y = Evidence.Turned 0 0;
})

-- two pairs of places show the line of what was found to be least
abbrev pub IsShownBy : Found → Pairs → Type 0
IsShownBy f pairs = ShowsLeast f.axis f.grown (coordinate f.line.a f.axis) pairs

-- ---- sizes

-- there are two coefficients, and these and the lower bound are numbers of 64 bits
pub record IsShortLine (line : Naive) : Type 0 where
  pub two : length line.a ≡ 2
  pub coefficients : All (λ c. nat_abs c < 2 ^ 63) line.a
  pub mu : nat_abs line.mu < 2 ^ 63

-- there are at most four shares, of places of 32 bits and weights of 63
pub record AreShortShares (shares : List Share) : Type 0 where
  pub few : length shares ≤ 4
  pub places : All (λ s. s.place < 2 ^ 32) shares
  pub weights : All (λ s. s.weight < 2 ^ 63) shares

-- the lists of shares are short, and there are at most four steps, of weights of 63 bits
pub record AreShortWeights (why : Refutation) : Type 0 where
  pub low : AreShortShares why.low
  pub high : AreShortShares why.high
  pub few_steps : length why.steps ≤ 4
  pub steps : All (λ s. s.weight < 2 ^ 63) why.steps

-- the places of a turn are numbers of 32 bits, and weights are short
abbrev pub IsShortEvidence : Evidence → Type 0
IsShortEvidence (Evidence.Turned i j) = (i < 2 ^ 32) × (j < 2 ^ 32)
IsShortEvidence (Evidence.Cut why) = AreShortWeights why

-- ---- the cover

-- what was found is the cover of the contour: its stretches are exactly the maximal ones, each is a segment with its line, and each gap has good evidence for
-- both axes
pub record IsCoverOf (points : List Point) (found : List Found) : Type 0 where
  pub some : 1 ≤ length found
  pub few : length found ≤ length points
  pub cover : IsCover points (stretches_of found)
  pub gapped : AreGapped points (stretches_of found)
  pub segment : (k : ℕ) → k < length found
      → IsSegment points (length found) (take k (stretches_of found)) (found_at found k).stretch.first (found_at found k).stretch.last (found_at found k).axis
      (found_at found k).line
  pub axis : (k : ℕ) → k < length found → (found_at found k).axis < 2
  pub line : (k : ℕ) → k < length found → IsShortLine (found_at found k).line
  pub least : (k : ℕ) → k < length found → IsLeastLine (found_at found k).axis (arc points (found_at found k).stretch.first (found_at found k).stretch.last)
      (found_at found k).line
  pub grown : (k : ℕ) → k < length found → (found_at found k).grown ≡ arc points (found_at found k).stretch.first (found_at found k).stretch.last
  pub gap_x : (k : ℕ) → k < length found → IsEvidence 0 (gap_run points (stretches_of found) k) (found_at found k).x
  pub gap_y : (k : ℕ) → k < length found → IsEvidence 1 (gap_run points (stretches_of found) k) (found_at found k).y
  pub short_x : (k : ℕ) → k < length found → IsShortEvidence (found_at found k).x
  pub short_y : (k : ℕ) → k < length found → IsShortEvidence (found_at found k).y
