-- What a line of the program says, as a line of the definitions.
-- A further kind of line is one more clause.
use Rattle.std.specs.Prelude.{ℕ, List, Option}
use Rattle.text_terms.specs.Tables.{Split}
use Rattle.edge_terms.specs.Kinds.{Kind, Fields, table}
use Rattle.edge_terms.specs.Lines as Terms
use Rattle.report_text.specs.Reading.{ReadsKind}
use Rattle.shape_crack.specs.Terms.{crack_of}
use Rattle.judge_edges.specs.Arcs.{stretch_of}
use Rattle.judge_edges.specs.Gaps.{gap_of}
use Rattle.judge_edges.specs.Lines.{standard_of}
use Rattle.judge_edges.specs.declared.line.EdgeLine.{EdgeLine}
use Rattle.judge_edges.specs.declared.line.EdgeLine.TheVariants.{Edges, Cycle, Arc, Gap, End}

abbrev pub line_of : EdgeLine → Terms.Line
line_of (Edges w h) = Terms.Line.Edges w h
line_of (Cycle start n m) = Terms.Line.Cycle (crack_of start) n m
line_of (Arc a) = Terms.Line.Arc (stretch_of a) (standard_of a.line)
line_of (Gap e) = Terms.Line.Gap (gap_of e)
line_of End = Terms.Line.End

-- its kind, and its fields
abbrev pub split_of : EdgeLine → Split Fields
split_of l = Terms.split (line_of l)

-- what reading the fields of a kind of line answers
abbrev pub ReadsEdgeKind : Kind → (old new : List (List ℕ)) → Option EdgeLine → Type 0
ReadsEdgeKind k old new r = ReadsKind table split_of k old new r
