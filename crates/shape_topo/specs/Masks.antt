-- The topological numbers of a mask of near neighbours.
-- A mask is a set of numbers of steps; the numbers of components are those of the steps themselves.
use Rattle.std.specs.Prelude.{◌≡◌, ℕ, ◌<◌}
use Rattle.std.specs.Int.{bit_at}
use Rattle.shape_terms.specs.Adjacency.{Near, Side, Round, origin, near_step}
use Rattle.shape_terms.specs.Parts.{HasParts}
use Rattle.shape_terms.specs.Simple.{Holding}
use Rattle.shape_adj.specs.NearMasks.{In, near_total}

-- the steps with two numbers lead to adjacent points
abbrev pub NearSteps : ℕ → ℕ → ℕ → Type 0
NearSteps d j k = Near (near_step d j) (near_step d k)

abbrev pub SideSteps : ℕ → ℕ → ℕ → Type 0
SideSteps d j k = Side (near_step d j) (near_step d k)

-- the steps of the mask
abbrev pub MaskObject : ℕ → ℕ → ℕ → Type 0
MaskObject d m k = (k < near_total d) × In m k

-- the other steps, of those of which at most two coordinates are not 0
abbrev pub MaskBackground : ℕ → ℕ → ℕ → Type 0
MaskBackground d m k = (k < near_total d) × (bit_at m k ≡ 0) × Round (origin d) (near_step d k)

-- the steps to side neighbours
abbrev pub IsSideStep : ℕ → ℕ → Type 0
IsSideStep d k = Side (origin d) (near_step d k)

-- the numbers T and T' of a mask
abbrev pub HasMaskObjectNumber : ℕ → ℕ → ℕ → Type 0
HasMaskObjectNumber d m n = HasParts (NearSteps d) (MaskObject d m) n

abbrev pub HasMaskBackgroundNumber : ℕ → ℕ → ℕ → Type 0
HasMaskBackgroundNumber d m n = HasParts (SideSteps d) (Holding (SideSteps d) (MaskBackground d m) (IsSideStep d)) n

-- both numbers of the mask are 1
pub record IsSimpleMask (d m : ℕ) : Type 0 where
  pub object : HasMaskObjectNumber d m 1
  pub background : HasMaskBackgroundNumber d m 1
