-- What the tests of a distance show.
-- Laws over points and pictures alone.
use Rattle.std.proofs.Common.{◌≡◌, ◌+◌, ◌*◌, ◌<◌, ℕ, ◌-ℤ◌, length, drop, arith}
use Rattle.std.specs.Prelude.{nat_abs}
use Rattle.shape_terms.specs.Points.{Point, coordinate, squared_distance}
use Rattle.shape_terms.specs.Pictures.{Picture, IsBackground, Least}
use Rattle.shape_terms.proofs.SquaredDistances.{squared_distance-more, squared_distance-drop}
use Rattle.judge_field.specs.FieldState.{IsLeastSquare}

-- the axes from the last one on use up more than s
pub too_far : (p q : Point) (k j left s d : ℕ) → k ≡ j + 1 → j < length p → length p ≡ length q → d ≡ nat_abs (coordinate p j -ℤ coordinate q j)
    → left + squared_distance (drop k p) (drop k q) ≡ s → left < d * d → s ≡ squared_distance p q → ⊥
too_far p q k j left s d e l m is h less same =
    let more = squared_distance-more p q k j (squared_distance (drop k p) (drop k q)) d e l (omega arith) is (λ i. squared_distance (drop k p) (drop k q)) in
    omega (arith, more, squared_distance-drop p q j m)

-- a background point at the least distance is nearest
pub least_by : (X : Picture) (p q : Point) (s : ℕ) → IsLeastSquare X p s → IsBackground X q → s ≡ squared_distance p q → Least X p q s
least_by X p q s t b e = record { background = b; distance = e; least = t.least.least }
