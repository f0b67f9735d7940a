-- What the program's directions, shares and weights mean, and how large they are at most.
-- The bounds say that nothing overflows.
use Rattle.std.specs.Prelude.{◌≡◌, ℕ, ◌*◌, ◌^◌, ◌<◌, ◌≤◌, List, length, slice_index_or}
use Rattle.shape_terms.specs.Limits.{most_points}
use Rattle.measure_terms.specs.Spacing.{Spacing}
use Rattle.measure_terms.specs.Shares as Terms
use Rattle.measure_terms.specs.SpacedSurface.{step_weight}
use Rattle.measuring.specs.declared.nearest.Direction.{Direction}
use Rattle.measuring.specs.declared.shares.Shares.{Shares}
use Rattle.measuring.specs.declared.spaced.Weights.{Weights}
use Rattle.measuring.specs.declared.numbers.Minkowski.{Minkowski}

abbrev pub direction_told : Direction → Terms.Direction
direction_told u = record { x = u.x; y = u.y; z = u.z }

-- ---- shares

-- the greatest solid angle of a lattice point: that of one in the middle of a face
abbrev pub most_angle : ℕ
most_angle = 10 ^ 18

-- what a lattice point gives at most: the same for six directions
abbrev pub most_given : ℕ
most_given = most_angle * 2520

-- the share of one class
pub record IsShare (s : Spacing) (class share : ℕ) : Type 0 where
  pub value : share ≡ Terms.share s class
  pub few : share ≤ 10 ^ 12

-- the shares of all
pub record AreShares (s : Spacing) (h : Shares) : Type 0 where
  pub x : IsShare s 1 h.x
  pub y : IsShare s 2 h.y
  pub z : IsShare s 4 h.z
  pub xy : IsShare s 3 h.xy
  pub xz : IsShare s 5 h.xz
  pub yz : IsShare s 6 h.yz
  pub xyz : IsShare s 7 h.xyz

-- ---- weights

-- no step out counts for more
abbrev pub most_weight : ℕ
most_weight = 2 ^ 81

-- what a step out of one class counts for
pub record IsWeight (s : Spacing) (class weight : ℕ) : Type 0 where
  pub value : weight ≡ step_weight s class
  pub few : weight ≤ most_weight

-- what steps out of each class count for
pub record AreWeights (s : Spacing) (w : Weights) : Type 0 where
  pub x : IsWeight s 1 w.x
  pub y : IsWeight s 2 w.y
  pub z : IsWeight s 4 w.z
  pub xy : IsWeight s 3 w.xy
  pub xz : IsWeight s 5 w.xz
  pub yz : IsWeight s 6 w.yz
  pub xyz : IsWeight s 7 w.xyz

-- ---- counts

-- no more steps of a class lead out of the points of a box
abbrev pub most_steps : ℕ
most_steps = 32 * most_points

pub record IsFew (m : Minkowski) : Type 0 where
  pub x : m.x ≤ most_steps
  pub y : m.y ≤ most_steps
  pub z : m.z ≤ most_steps
  pub xy : m.xy ≤ most_steps
  pub xz : m.xz ≤ most_steps
  pub yz : m.yz ≤ most_steps
  pub xyz : m.xyz ≤ most_steps

-- those of each object
pub record AreFew (ms : List Minkowski) : Type 0 where
  pub each : (k : ℕ) (d : Minkowski) → k < length ms → IsFew (slice_index_or ms k d)
