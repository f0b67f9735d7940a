-- What it is to mark the cycle of a crack, and to take its contour.
-- Marks are a truth value for each number of a crack here.
use Rattle.std.specs.Prelude.{◌≡◌, ◌⊎◌, ℕ, Bool, true, false, List, [], ◌∷◌, ◌++◌}
use Rattle.shape_terms.specs.Pictures.{Picture}
use Rattle.shape_terms.specs.Contours.{Crack, IsCycle, first_of_cycle}
use Rattle.shape_terms.specs.Traces.{Contour, IsContourFrom}
use Rattle.shape_terms.specs.CrackNumbers.{crack_number, MarksCycle}

-- beside the old marks, exactly the cracks of the cycle that begins with the crack are marked
pub record IsCycleMarked (X : Picture) (c : Crack) (old new : ℕ → Bool) : Type 0 where
  pub cracks : List Crack
  pub cycle : IsCycle X cracks
  pub first : first_of_cycle cracks ≡ c
  pub marks : MarksCycle X.sides cracks old new

-- the contour of the cycle that begins with the crack comes last, and the cycle is marked; the crack was not
pub record IsAdded (X : Picture) (c : Crack) (old new : ℕ → Bool) (before after : List Contour) : Type 0 where
  pub unmarked : old (crack_number X.sides c) ≡ false
  pub marked : IsCycleMarked X c old new
  pub contour : Contour
  pub from : IsContourFrom X c contour
  pub last : after ≡ before ++ contour ∷ []

-- the crack was marked, and marks and contours stay; or its contour is added
abbrev pub IsTaken : Picture → Crack → (ℕ → Bool) → (ℕ → Bool) → List Contour → List Contour → Type 0
IsTaken X c old new before after = ((old (crack_number X.sides c) ≡ true) × (new ≡ old) × (after ≡ before)) ⊎ IsAdded X c old new before after
