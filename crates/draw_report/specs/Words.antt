-- The words of the command line: the name of a report's file, and before it the word `labels` where numbers are wanted, the word `contours` where the contours
-- alone are, the word `measures` where lines of the
-- measures of the objects are, or the name of another one over which it is drawn.
-- A further word is one more definition.
use Rattle.std.specs.Prelude.{◌≢◌, ℕ, List, [], ◌∷◌, codes}

-- the word for numbers at the objects
abbrev pub labels_word : List ℕ
labels_word = codes "labels"

-- the word for the contours alone
abbrev pub contours_word : List ℕ
contours_word = codes "contours"

-- the word for the measures of the objects as lines
abbrev pub measures_word : List ℕ
measures_word = codes "measures"

-- the words are neither one nor two
abbrev pub AreNoForm : List (List ℕ) → Type 0
AreNoForm words = ((name : List ℕ) → words ≢ name ∷ []) × ((first second : List ℕ) → words ≢ first ∷ second ∷ [])
