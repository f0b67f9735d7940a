-- A picture as labels: its object points have one label, so that they are counted together.
-- Pictures alone stand here.
use Rattle.std.specs.Prelude.{ℕ, List, map, cond}
use Rattle.shape_terms.specs.Pictures.{Picture}

-- the label 1 for each object point of the box, and 0 for each other point, in raster order
abbrev pub one_label : Picture → List ℕ
one_label X = map (λ b. cond b 1 0) X.values
