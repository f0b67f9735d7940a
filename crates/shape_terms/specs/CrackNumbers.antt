-- Cracks by number, four for each pixel in raster order, and marks of them.
-- Marks are a truth value for each number; how a program keeps them belongs elsewhere.
use Rattle.std.specs.Prelude.{◌≡◌, ◌≢◌, ◌⊎◌, ℕ, ◌+◌, ◌*◌, ◌/◌, ◌%◌, Bool, true, List, Contains}
use Rattle.shape_terms.specs.Points.{raster_number, raster_point}
use Rattle.shape_terms.specs.Contours.{Crack}

-- the number of a crack in the box of these sides
abbrev pub crack_number : List ℕ → Crack → ℕ
crack_number sides c = raster_number sides c.pixel * 4 + c.side

-- the pixel of the box and the side that have a number
abbrev pub numbered : List ℕ → ℕ → Crack
numbered sides i = record { pixel = raster_point sides (i / 4); side = i % 4 }

-- the number n is marked, and nothing else is changed
pub record IsMarkedBesides (n : ℕ) (old new : ℕ → Bool) : Type 0 where
  pub marked : new n ≡ true
  pub others : (j : ℕ) → j ≢ n → new j ≡ old j

-- a crack over an upper or a lower side of its pixel
abbrev pub IsLevel : Crack → Type 0
IsLevel c = c.side % 2 ≡ 0

-- a walk passes a crack: a level one is marked, and at another one no mark is changed
abbrev pub IsPassed : List ℕ → Crack → (ℕ → Bool) → (ℕ → Bool) → Type 0
IsPassed sides c old new = (IsLevel c × IsMarkedBesides (crack_number sides c) old new) ⊎ ((IsLevel c → ⊥) × (new ≡ old))

-- beside the old marks, the level cracks of the list are marked, and nothing that is not a crack of it
pub record MarksCycle (sides : List ℕ) (cracks : List Crack) (old new : ℕ → Bool) : Type 0 where
  pub kept : (j : ℕ) → old j ≡ true → new j ≡ true
  pub added : (x : Crack) → Contains cracks x → IsLevel x → new (crack_number sides x) ≡ true
  pub none : (j : ℕ) → new j ≡ true → (old j ≡ true) ⊎ ((x : Crack) × (Contains cracks x) × (crack_number sides x ≡ j))
