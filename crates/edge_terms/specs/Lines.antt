-- The lines of an edge report.
-- Each kind of line is split into its fields here; how these stand in words stands in `Kinds`, and what a line claims in `EdgeReports`.
use Rattle.std.specs.Prelude.{ℕ}
use Rattle.shape_terms.specs.Contours.{Crack}
use Rattle.shape_terms.specs.Covers.{Stretch}
use Rattle.text_terms.specs.Spellings.{Spelled}
use Rattle.text_terms.specs.Tables.{Split, spelled_via}
use Rattle.edge_terms.specs.EdgeStraight.{Standard}
use Rattle.edge_terms.specs.EdgeEvidence.{EdgeEvidence}
use Rattle.edge_terms.specs.Kinds.{Kind, Fields, table}

-- a line of an edge report: the sides of the picture; the first crack of a cycle with the number of its cracks and that of its arcs; an arc
-- with its line; the evidence for a gap, a `bend` or a `fold`; the end
pub data Line : Type 0 where
  Edges : (width height : ℕ) → Line
  Cycle : (start : Crack) → (steps arcs : ℕ) → Line
  Arc : (stretch : Stretch) → (line : Standard) → Line
  Gap : (evidence : EdgeEvidence) → Line
  End : Line

-- the kind of a line, and its fields
abbrev pub split : Line → Split Fields
split (Line.Edges w h) = record { kind = Kind.Edges; fields = (w, h) }
split (Line.Cycle c n m) = record { kind = Kind.Cycle; fields = (c.pixel, (c.side, (n, m))) }
split (Line.Arc s line) = record { kind = Kind.Arc; fields = (s.first, (s.last, line)) }
split (Line.Gap (EdgeEvidence.Bend i j)) = record { kind = Kind.Bend; fields = (i, j) }
split (Line.Gap (EdgeEvidence.Fold why)) = record { kind = Kind.Fold; fields = why }
split Line.End = record { kind = Kind.End; fields = tt }

-- and the line of a kind with these fields
abbrev pub joined : (k : Kind) → Fields k → Line
joined Kind.Edges (w, h) = Line.Edges w h
joined Kind.Cycle (p, (side, (n, m))) = Line.Cycle (record { pixel = p; side = side }) n m
joined Kind.Arc (b, (e, line)) = Line.Arc (record { first = b; last = e }) line
joined Kind.Bend (i, j) = Line.Gap (EdgeEvidence.Bend i j)
joined Kind.Fold why = Line.Gap (EdgeEvidence.Fold why)
joined Kind.End u = Line.End

-- how these lines stand in text
abbrev pub spelled : Spelled Line
spelled = spelled_via table split
