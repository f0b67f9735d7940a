-- The program's arcs as the arcs of the terms.
-- How they are kept belongs elsewhere.
use Rattle.edge_terms.specs.EdgeCovers.{Arc as Term}
use Rattle.judge_edges.specs.Lines.{standard_of}
use Rattle.judge_edges.specs.Gaps.{gap_of}
use Rattle.judge_edges.specs.Arcs.{stretch_of}
use Rattle.shape_edges.specs.declared.entry.Entry.{Entry}

-- what an entry tells
abbrev pub found_of : Entry → Term
found_of e = record { stretch = stretch_of e.arc; line = standard_of e.arc.line; gap = gap_of e.gap }
