-- The tangential cover of a contour: its maximal straight runs, and the evidence that none is missing.
-- Places of a contour go round and round; how a cover is found belongs elsewhere.
use Rattle.std.specs.Prelude.{◌≡◌, ◌↔◌, ℕ, ◌+◌, ◌-◌, ◌<◌, ◌≤◌, ◌%◌, List, [], ◌∷◌, ◌++◌, map, length, slice_index_or, slice_get, AllPairs, Contains, Option}
use Rattle.std.specs.Prelude.{Some, None, IfSome}
use Rattle.std.specs.List.{range_with_len}
use Rattle.shape_terms.specs.Points.{Point}
use Rattle.shape_terms.specs.Refutations.{Refutation, Refutes, point_at}
use Rattle.shape_terms.specs.Turns.{IsTurn}
use Rattle.shape_terms.specs.Naive.{Naive, IsNaiveFor}
use Rattle.shape_terms.specs.Straight.{IsStraight, KeepsSense}

-- the points of the contour from place b to place e, where place i stands for place i modulo the contour's length
abbrev pub arc : List Point → ℕ → ℕ → List Point
arc contour b e = map (λ i. point_at contour (i % length contour)) (range_with_len b (e + 1 - b))

-- the arc from b to e is straight, and neither the one with the place before it nor the one with the place after it is
pub record IsMaximal (contour : List Point) (b e : ℕ) : Type 0 where
  pub straight : IsStraight (arc contour b e)
  pub before : IsStraight (arc contour (b + length contour - 1) (e + length contour)) → ⊥
  pub after : IsStraight (arc contour b (e + 1)) → ⊥

-- the first and the last place of a stretch
pub record Stretch : Type 0 where
  pub first : ℕ
  pub last : ℕ

-- the list of all maximal stretches that begin among the places of the contour, by rising first place
pub record IsCover (contour : List Point) (stretches : List Stretch) : Type 0 where
  pub exact : (s : Stretch) → Contains stretches s ↔ ((s.first < length contour) × IsMaximal contour s.first s.last)
  pub rising : AllPairs (λ x y. x.first < y.first) stretches

-- why an arc is not straight for an axis: a turn, or weights
pub data Evidence : Type 0 where
  Turned : ℕ → ℕ → Evidence
  Cut : Refutation → Evidence

-- the evidence shows that the run is not straight for the axis t
abbrev pub IsEvidence : ℕ → List Point → Evidence → Type 0
IsEvidence t run (Turned i j) = IsTurn t run i j
IsEvidence t run (Cut why) = (0 < length run) × Refutes 2 t run why

-- the first place of the stretch after the k-th: after the last comes the first again, one round on
abbrev pub next_first : List Point → List Stretch → ℕ → ℕ
next_first contour stretches k = first_or (slice_get stretches (k + 1)) (slice_get stretches 0)
  where
    first_or : Option Stretch → Option Stretch → ℕ
    first_or (Some s) o = s.first
    first_or None (Some s) = s.first + length contour
    first_or None None = 0

-- gap k goes from the place before the next stretch to the place after stretch k
abbrev pub gap_run : List Point → List Stretch → ℕ → List Point
gap_run contour stretches k = arc contour (next_first contour stretches k - 1) ((slice_index_or stretches k (record { first = 0; last = 0 })).last + 1)

-- a segment from place b to place e after the stretches before it, among m of a contour: the places rise, and the line of the axis t holds it
pub record IsSegment (points : List Point) (m : ℕ) (before : List Stretch) (b e t : ℕ) (line : Naive) : Type 0 where
  pub begins : b < length points
  pub rises : b ≤ e
  pub short : e < b + length points
  pub after : IfSome (slice_get before (length before - 1)) (λ s. (s.first < b) × (s.last < e))
  pub closes : length before + 1 ≡ m → e < (slice_index_or (before ++ record { first = b; last = e } ∷ []) 0 (record { first = b; last = e })).last
      + length points
  pub naive : IsNaiveFor t (arc points b e) line
  pub sense : KeepsSense t (arc points b e)
