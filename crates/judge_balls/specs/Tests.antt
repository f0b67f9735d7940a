-- What a judge tests of a ball by its marks.
-- That this decides the claim of the ball stands in the proofs.
use Rattle.std.specs.Prelude.{◌≡◌, ℕ, ◌<◌, ◌≤◌, Bool, true, false, List, IsTrue}
use Rattle.shape_terms.specs.Points.{Point, raster_number, squared_distance}
use Rattle.shape_terms.specs.Pictures.{Picture, at, Least}
use Rattle.ball_terms.specs.Balls.{Ball}
use Rattle.shape_window.specs.Marks.{is_marked, HasMark}

-- an object point that is nearer to the centre than s, and not marked
pub record IsFreeIn (X : Picture) (covered : List Bool) (centre : Point) (s : ℕ) (p : Point) : Type 0 where
  pub object : IsTrue (at X p)
  pub nearer : squared_distance centre p < s
  pub free : is_marked covered (raster_number X.sides p) ≡ false

-- the centre is object and comes late enough, the distance is least, the own point is in the ball and not covered, and no own point is in it
pub record PassesTests (X : Picture) (covered own : List Bool) (next : ℕ) (b : Ball) : Type 0 where
  pub object : IsTrue (at X b.centre)
  pub late : next ≤ raster_number X.sides b.centre
  pub least : Least X b.centre b.near b.s
  pub has_own : IsFreeIn X covered b.centre b.s b.own
  pub none_in : HasMark X.sides own b.centre b.s → ⊥

-- each object point is marked
abbrev pub AllMarked : Picture → List Bool → Type 0
AllMarked X covered = (p : Point) → IsTrue (at X p) → is_marked covered (raster_number X.sides p) ≡ true
