-- The numbers of the objects while points are taken in raster order.
-- The bounds say that no sum overflows.
use Rattle.std.specs.Prelude.{◌≡◌, ℕ, ◌+◌, ◌*◌, ◌<◌, ◌≤◌, List, length, slice_index_or, nat_abs}
use Rattle.shape_terms.specs.Points.{raster_number}
use Rattle.measure_terms.specs.Feret.{HasLabel}
use Rattle.measure_terms.specs.Cells.{IsEulerNumber}
use Rattle.measure_terms.specs.Crossings.{IsSizeOf, Step, LeadsOut}
use Rattle.measure_terms.specs.Seen.{IsSeen}
use Rattle.measuring.specs.declared.numbers.Minkowski.{Minkowski}

-- a step of the class m that leads out of the object with the label j, from a point with a raster number below i
pub record IsOut (sides labels : List ℕ) (j m i : ℕ) (s : Step) : Type 0 where
  pub leads : LeadsOut (HasLabel sides labels j) m s
  pub below : raster_number sides s.from < i

-- numbers of i points
pub record AreSmall (i : ℕ) (m : Minkowski) : Type 0 where
  pub euler : nat_abs m.euler ≤ 27 * i
  pub x : m.x ≤ 32 * i
  pub y : m.y ≤ 32 * i
  pub z : m.z ≤ 32 * i
  pub xy : m.xy ≤ 32 * i
  pub xz : m.xz ≤ 32 * i
  pub yz : m.yz ≤ 32 * i
  pub xyz : m.xyz ≤ 32 * i

-- the numbers of the object with the label j, of its points with raster numbers below i
pub record IsSoFar (sides labels : List ℕ) (j i : ℕ) (m : Minkowski) : Type 0 where
  pub euler : IsEulerNumber (IsSeen sides labels j i) m.euler
  pub x : IsSizeOf (IsOut sides labels j 1 i) m.x
  pub y : IsSizeOf (IsOut sides labels j 2 i) m.y
  pub z : IsSizeOf (IsOut sides labels j 4 i) m.z
  pub xy : IsSizeOf (IsOut sides labels j 3 i) m.xy
  pub xz : IsSizeOf (IsOut sides labels j 5 i) m.xz
  pub yz : IsSizeOf (IsOut sides labels j 6 i) m.yz
  pub xyz : IsSizeOf (IsOut sides labels j 7 i) m.xyz
  pub small : AreSmall i m

-- those of the objects 1 to n
pub record AreSoFar (sides labels : List ℕ) (n i : ℕ) (ms : List Minkowski) : Type 0 where
  pub count : length ms ≡ n
  pub each : (k : ℕ) (d : Minkowski) → k < n → IsSoFar sides labels (k + 1) i (slice_index_or ms k d)
