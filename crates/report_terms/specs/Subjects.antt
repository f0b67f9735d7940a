-- What a report is about: a picture, and the end rules by which it may be thinned.
-- No line stands here; which rule a report takes is told in `Sections`.
use Rattle.std.specs.Prelude.{ℕ, List, Contains}
use Rattle.shape_terms.specs.Pictures.{Picture}
use Rattle.shape_terms.specs.Thinning.{Rule}
use Rattle.shape_terms.specs.Shelves.{Named}

-- a picture, and the rules on a shelf
pub record Subject : Type 0 where
  pub picture : Picture
  pub shelf : List (Named Rule)

-- this picture, with the rules on this shelf
abbrev pub subject_of : Picture → List (Named Rule) → Subject
subject_of X shelf = record { picture = X; shelf = shelf }

-- the shelf has the rule under the name
abbrev pub IsOnShelf : List (Named Rule) → List ℕ → Rule → Type 0
IsOnShelf shelf name rule = Contains shelf (record { name = name; rule = rule })
