-- A walk round a closed path from straight run to straight run, for any notion of these: where it begins, and what ties each stretch to the next.
-- Places go on rising where the path comes round; how a walk is made belongs elsewhere.
use Rattle.std.specs.Prelude.{◌≡◌, ℕ, ◌+◌, ◌-◌, ◌<◌, ◌≤◌, List, map, length, slice_index_or, All}
use Rattle.shape_terms.specs.Points.{Point}
use Rattle.shape_terms.specs.Covers.{Stretch, arc}
use Rattle.shape_terms.specs.RunCovers.{IsMaximalRun}

-- a kind of walk: which runs are straight; and of each thing that it finds, its stretch, and what it claims of the run of the stretch and of the run of the gap
-- after it
pub record WalkKind (F : Type 0) : Type 1 where
  pub Straight : List Point → Type 0
  pub stretch : F → Stretch
  pub Holds : F → List Point → Type 0
  pub Bends : F → List Point → Type 0

-- a walk may begin with the stretch: no straight run holds it and the place before it, and no maximal stretch begins before it
pub record IsStart (S : List Point → Type 0) (path : List Point) (s : Stretch) : Type 0 where
  pub low : s.first < length path
  pub before : S (arc path (s.first + length path - 1) (s.last + length path)) → ⊥
  pub least : (b e : ℕ) → b < s.first → IsMaximalRun S path b e → ⊥

-- the stretch is straight, and it is not with the place after it
pub record IsLongest (S : List Point → Type 0) (path : List Point) (s : Stretch) : Type 0 where
  pub straight : S (arc path s.first s.last)
  pub longest : S (arc path s.first (s.last + 1)) → ⊥

-- the next stretch begins and ends later, at most one place after the one that was found, and the run from the place before it to the place after that one is
-- bent
pub record IsFollowedBy {F : Type 0} (k : WalkKind F) (path : List Point) (f : F) (next : Stretch) : Type 0 where
  pub first : (k.stretch f).first < next.first
  pub last : (k.stretch f).last < next.last
  pub near : next.first ≤ (k.stretch f).last + 1
  pub gap : k.Bends f (arc path (next.first - 1) ((k.stretch f).last + 1))

-- the stretches that were found, and then for all places the present one
abbrev pub stretch_of_walk : {F : Type 0} → WalkKind F → List F → Stretch → ℕ → Stretch
stretch_of_walk k found now i = slice_index_or (map k.stretch found) i now

-- a walk over what was found to the present stretch, which is to end at the place `round`, where it began, one round on
pub record IsWalk {F : Type 0} (k : WalkKind F) (path : List Point) (found : List F) (now : Stretch) (round : ℕ) : Type 0 where
  pub start : IsStart k.Straight path (stretch_of_walk k found now 0)
  pub comes : (stretch_of_walk k found now 0).first + length path ≡ round
  pub before : All (λ f. (k.stretch f).first < round) found
  pub held : All (λ f. k.Holds f (arc path (k.stretch f).first (k.stretch f).last)) found
  pub longest : (i : ℕ) → i ≤ length found → IsLongest k.Straight path (stretch_of_walk k found now i)
  pub followed : (i : ℕ) (d : F) → i < length found → IsFollowedBy k path (slice_index_or found i d) (stretch_of_walk k found now (i + 1))
  pub near : now.first ≤ round + length path
