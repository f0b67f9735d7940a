-- A coordinate of a point of a box is a small natural.
-- Plain points alone.
use Rattle.std.proofs.Common.{◌≡◌, ◌<◌, ℕ, ℤ, pos, ◌≤ℤ◌, length, arith}
use Rattle.std.specs.Prelude.{IsTrue, nat_abs}
use Rattle.std.proofs.lemmas.Int.{ints}
use Rattle.shape_terms.specs.Limits.{most_flat, most_coordinate}
use Rattle.shape_terms.specs.Points.{Point, coordinate, AreSides, sides_of, in_box}
use Rattle.shape_terms.proofs.Boxes.{in_box_coordinate, abs_is}

pub place_small : (greatest : ℤ) (ns p : Point) (k : ℕ) (r : ℤ) → AreSides greatest ns → greatest ≤ℤ pos most_flat → IsTrue (in_box (sides_of ns) p)
    → k < length ns → r ≡ coordinate p k → (pos 0 ≤ℤ r) × (nat_abs r < most_coordinate)
place_small g ns p k r a most h l e =
    let c = in_box_coordinate ns p g a h k l in
    let low : pos 0 ≤ℤ r = rw e c.0 in
    let high = (a k l).1 in
    let is = abs_is r low in
    (low, omega (arith, ints, c.1, high, is))
