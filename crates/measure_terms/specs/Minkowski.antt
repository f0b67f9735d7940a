-- What the Minkowski measures of objects are made of, beside their sizes: Euler numbers, and how often steps lead out of the objects.
-- What surface follows from them stands in `Surface`; no way of finding them is told here.
use Rattle.std.specs.Prelude.{ℕ, ◌+◌, ◌<◌, List, slice_index_or, ℤ, Contains}
use Rattle.shape_terms.specs.Points.{Point}
use Rattle.shape_terms.specs.Pictures.{Picture}
use Rattle.measure_terms.specs.Feret.{HasLabel}
use Rattle.measure_terms.specs.Components.{component}
use Rattle.measure_terms.specs.Cells.{IsEulerNumber}
use Rattle.measure_terms.specs.Crossings.{AreCrossings}

-- of a set of points: its Euler number, and how many steps lead out of it that move along each axis, along each two of them, and along all three
pub record Minkowski : Type 0 where
  pub euler : ℤ
  pub x : ℕ
  pub y : ℕ
  pub z : ℕ
  pub xy : ℕ
  pub xz : ℕ
  pub yz : ℕ
  pub xyz : ℕ

-- these are the numbers of the set
pub record IsMinkowski (S : Point → Type 0) (m : Minkowski) : Type 0 where
  pub euler : IsEulerNumber S m.euler
  pub x : AreCrossings S 1 m.x
  pub y : AreCrossings S 2 m.y
  pub z : AreCrossings S 4 m.z
  pub xy : AreCrossings S 3 m.xy
  pub xz : AreCrossings S 5 m.xz
  pub yz : AreCrossings S 6 m.yz
  pub xyz : AreCrossings S 7 m.xyz

-- those of the objects 1 to n of a box, each the points with its label
pub record AreMinkowski (sides labels : List ℕ) (n : ℕ) (ms : List Minkowski) : Type 0 where
  pub each : (k : ℕ) (d : Minkowski) → k < n → IsMinkowski (HasLabel sides labels (k + 1)) (slice_index_or ms k d)

-- those of the first n components of a picture, by their labels
pub record MinkowskiComponents (X : Picture) (labels : List ℕ) (n : ℕ) (ms : List Minkowski) : Type 0 where
  pub each : (k : ℕ) (d : Minkowski) → k < n → IsMinkowski (Contains (component X labels (k + 1))) (slice_index_or ms k d)
