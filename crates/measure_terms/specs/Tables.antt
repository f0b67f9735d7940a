-- The table of a picture's objects: its rows as measures.
-- How the rows are spelled stands elsewhere.
use Rattle.std.specs.Prelude.{◌≡◌, ℕ, ◌+◌, List, map}
use Rattle.std.specs.List.{range_with_len}
use Rattle.shape_terms.specs.Pictures.{Picture}
use Rattle.shape_terms.specs.Parts.{LabelsObject}
use Rattle.measure_terms.specs.Facts.{Fact, facts, facts_of}
use Rattle.measure_terms.specs.Measures.{Measures, measures_of, greatest}

-- the measures of the objects 1 to n
abbrev pub rows : ℕ → List Fact → List Measures
rows n fs = map (λ k. measures_of (facts_of (k + 1) fs)) (range_with_len 0 n)

-- one row for each component of the object, in the order of their first points
pub record IsTable (object : Picture) (squares : List ℕ) (left : Picture) (table : List Measures) : Type 0 where
  pub labels : List ℕ
  pub named : LabelsObject object labels
  pub rows : table ≡ rows (greatest labels) (facts object squares left labels)
