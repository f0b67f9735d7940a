-- Runs: points that follow each other in a row.
-- A list of points falls into runs in one way; where the points come from does not matter here.
use Rattle.std.specs.Prelude.{◌≡◌, ℕ, ◌+◌, Bool, ◌&&◌, if◌then◌else◌, List, [], ◌∷◌, drop, slice_index_or, pos, ◌+ℤ◌}
use Rattle.std.specs.Ordering.{int_eq}
use Rattle.shape_terms.specs.Points.{Point, coordinate}

-- so many points in a row, from the first one to the right
pub record Run : Type 0 where
  pub first : Point
  pub count : ℕ

-- q lies one step to the right of p
abbrev pub is_next : Point → Point → Bool
is_next p q = int_eq (coordinate q 0) (coordinate p 0 +ℤ pos 1) && int_eq (coordinate q 1) (coordinate p 1)

-- a point before the runs of the points behind it: it lengthens the first run where that begins right of it
abbrev pub before : Point → List Run → List Run
before p [] = record { first = p; count = 1 } ∷ []
before p (r ∷ rs) = if is_next p r.first then record { first = p; count = r.count + 1 } ∷ rs else record { first = p; count = 1 } ∷ (r ∷ rs)

-- the runs of the points, each as long as the next point lies right of the one before
abbrev pub runs : List Point → List Run
runs [] = []
runs (p ∷ ps) = before p (runs ps)

-- the points begin with a run of n points, and the other runs are those of the points behind it
abbrev pub BeginsWithRun : List Point → ℕ → Type 0
BeginsWithRun ps n = runs ps ≡ record { first = slice_index_or ps 0 []; count = n } ∷ runs (drop n ps)
