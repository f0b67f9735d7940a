-- That the parts of a thinning fit together: they are those of a stage of some picture's thinning.
-- This keeps each look-up in its place; which thinning it is does not matter for it.
use Rattle.std.specs.Prelude.{◌≡◌, ℕ, false, List}
use Rattle.shape_terms.specs.Points.{Point}
use Rattle.shape_terms.specs.Pictures.{Picture}
use Rattle.shape_queue.specs.declared.key.Key.{Key}
use Rattle.shape_queue.specs.Going.{Reach, stage_of, IsFrontOf}

-- for some picture, marks and state of a rule this is the front, and these are the points left
pub record IsSomeFront (left : Picture) (f : Reach) : Type 0 where
  pub opening : Picture
  pub marked : List Point
  pub state : List ℕ
  pub front : IsFrontOf opening (stage_of left marked state) f

-- and a key waits, unless no point left is ahead
pub record AreFitting (left : Picture) (f : Reach) : Type 0 where
  pub some : IsSomeFront left f
  pub done : ((k : Key) → f.keys k ≡ false) → f.ahead ≡ 0
