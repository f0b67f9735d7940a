-- What the program's widths mean, and how the farthest vertex and the least width are found one by one.
-- Numbers of one polygon alone.
use Rattle.std.specs.Prelude.{◌≡◌, ◌⊎◌, ℕ, List, ◌≤ℤ◌, ◌<ℤ◌}
use Rattle.measure_terms.specs.Hulls.{Corner, turn, vertex, end}
use Rattle.measure_terms.specs.Widths as Terms
use Rattle.measure_terms.specs.Widths.{IsLess, IsNoMore}
use Rattle.measuring.specs.declared.width.Width.{Width}

abbrev pub width_told : Width → Terms.Width
width_told w = record { side = w.side; across = w.across; length = w.length }

-- the vertex that lies farther from a side, and the first where both lie as far
pub record IsFarther (h : List Corner) (i far k r : ℕ) : Type 0 where
  pub one : ((r ≡ far) × (turn (vertex h i) (end h i) (vertex h k) ≤ℤ turn (vertex h i) (end h i) (vertex h far)))
      ⊎ ((r ≡ k) × (turn (vertex h i) (end h i) (vertex h far) <ℤ turn (vertex h i) (end h i) (vertex h k)))

-- the narrower of two, and the first where they are equal
pub record IsNarrower (old new w : Terms.Width) : Type 0 where
  pub one : ((w ≡ old) × IsNoMore old new) ⊎ ((w ≡ new) × IsLess new old)
