-- The exposed points of a face, and how a picture gains points by their raster numbers.
-- In which order they are found belongs elsewhere.
use Rattle.std.specs.Prelude.{◌≡◌, ◌↔◌, ◌⊎◌, ℕ, zero, suc, ◌+◌, ◌*◌, ◌<◌, Bool, true, false, not, ◌&&◌, List, [], ◌∷◌, length, slice_index_or}
use Rattle.std.specs.Int.{bit_at}
use Rattle.shape_terms.specs.Points.{Point}
use Rattle.shape_terms.specs.Adjacency.{moved}
use Rattle.shape_terms.specs.Pictures.{Picture, at}
use Rattle.shape_terms.specs.Patches.{Sense, sense_step}

-- how many numbers apart two points one step apart on the axis k are in raster order: as many points differ on the axes before it alone
abbrev pub gap_of : List ℕ → ℕ → ℕ
gap_of [] k = 1
gap_of (n ∷ sides) zero = 1
gap_of (n ∷ sides) (suc k) = n * gap_of sides k

-- the sense towards greater coordinates, or towards smaller ones
abbrev pub sense_up : Bool → Sense
sense_up true = Sense.Upward
sense_up false = Sense.Down

-- the point is object, and its neighbour one step on is not
abbrev pub exposed_at : Picture → ℕ → Sense → Point → Bool
exposed_at X t sense q = at X q && not (at X (moved q (sense_step t sense)))

-- ---- places

-- bit k of r is set exactly where k is below 64 and the value k places on is true
abbrev pub AreFrom : List Bool → ℕ → ℕ → Type 0
AreFrom values i r = (k : ℕ) → (bit_at r k ≡ 1) ↔ ((k < 64) × (slice_index_or values (i + k) false ≡ true))

-- a true place of those from the first on, to which a place that is not true answers among those from the other on
abbrev pub IsOpen : List Bool → ℕ → ℕ → ℕ → Type 0
IsOpen values first other i = (k : ℕ) × (i ≡ first + k) × (slice_index_or values (first + k) false ≡ true) × (slice_index_or values (other + k) false ≡ false)

-- the same of n places
abbrev pub IsOpenBelow : List Bool → ℕ → ℕ → ℕ → ℕ → Type 0
IsOpenBelow values first other n i = (k : ℕ) × (k < n) × (i ≡ first + k) × (slice_index_or values (first + k) false ≡ true)
    × (slice_index_or values (other + k) false ≡ false)

-- one of n true places from the first on
abbrev pub IsTrueFrom : List Bool → ℕ → ℕ → ℕ → Type 0
IsTrueFrom values first n i = (k : ℕ) × (k < n) × (i ≡ first + k) × (slice_index_or values (first + k) false ≡ true)

-- one of the g true places that stand e places behind the start of one of m blocks of b places
abbrev pub IsTrueInBlocks : List Bool → ℕ → ℕ → ℕ → ℕ → ℕ → Type 0
IsTrueInBlocks values b e g m i = (o : ℕ) × (o < m) × IsTrueFrom values (b * o + e) g i

-- ---- pictures

-- the object points of the new picture are those of the old one and those whose number Q holds of
pub record Gains (old new : Picture) (Q : ℕ → Type 0) : Type 0 where
  pub sides : new.sides ≡ old.sides
  pub filled : length new.values ≡ length old.values
  pub each : (i : ℕ) → (slice_index_or new.values i false ≡ true) ↔ ((slice_index_or old.values i false ≡ true) ⊎ Q i)
