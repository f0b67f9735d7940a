-- The program's arcs as stretches of the terms.
-- Which line an arc has is told by `Lines`.
use Rattle.shape_terms.specs.Covers.{Stretch}
use Rattle.judge_edges.specs.declared.arc.Arc.{Arc}

-- the places alone
abbrev pub stretch_of : Arc → Stretch
stretch_of a = record { first = a.first; last = a.last }
