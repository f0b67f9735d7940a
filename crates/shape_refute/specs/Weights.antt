-- The program's refutation as that of the definitions, and when its sides meet on an axis.
-- It stands by itself, since the lists of shares are told before it.
use Rattle.std.specs.Prelude.{◌≡◌, ℕ, List}
use Rattle.shape_terms.specs.Points.{Point, coordinate}
use Rattle.shape_terms.specs.Refutations.{Refutation as Weights}
use Rattle.shape_refute.specs.Sums.{low_side, high_side}
use Rattle.shape_refute.specs.declared.refutation.Refutation.{Refutation}

abbrev pub refutation_of : Refutation → Weights
refutation_of r = record { low = r.low; high = r.high; steps = r.steps }

-- both sides have the same coordinate on the axis k
abbrev pub MeetOn : ℕ → List Point → Refutation → ℕ → Type 0
MeetOn t points r k = coordinate (low_side t points (refutation_of r)) k ≡ coordinate (high_side t points (refutation_of r)) k
