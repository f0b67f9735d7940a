-- The exposed points of a face, as the program keeps them.
-- Which points are exposed, `shape_adj` says.
use Rattle.std.specs.Prelude.{◌≡◌, ℕ}
use Rattle.shape_terms.specs.Points.{Point}
use Rattle.shape_terms.specs.Pictures.{Picture, at}
use Rattle.shape_terms.specs.Patches.{Sense}
use Rattle.shape_adj.specs.FacePoints.{exposed_at}

-- exactly the exposed points are there
pub record IsFace (X : Picture) (t : ℕ) (sense : Sense) (L : Picture) : Type 0 where
  pub each : (q : Point) → at L q ≡ exposed_at X t sense q
