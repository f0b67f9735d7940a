-- What a line of the program says, as a line of the definitions.
-- A further kind of line is one more clause.
use Rattle.std.specs.Prelude.{ℕ}
use Rattle.shape_terms.specs.Covers.{Evidence}
use Rattle.text_terms.specs.Tables.{Split}
use Rattle.piece_terms.specs.SplitLines.{SplitLine}
use Rattle.piece_terms.specs.Lines.{Fields, Line, split}
use Rattle.shape_refute.specs.Terms.{naive_of}
use Rattle.shape_refute.specs.Evidences.{evidence_of}
use Rattle.shape_crack.specs.Terms.{point_of, crack_of}
use Rattle.judge_pieces.specs.declared.line.PieceLine.{PieceLine}
use Rattle.judge_pieces.specs.declared.line.PieceLine.TheVariants.{Pieces, Chain, Piece, Gap, End}

abbrev pub line_of : PieceLine → Line
line_of (Pieces sides) = Line.Pieces (point_of sides)
line_of (Chain start n m) = Line.Listed (SplitLine.Chain (crack_of start) n m)
line_of (Piece b e line) = Line.Listed (SplitLine.Piece b e line.axis (naive_of 2 line))
line_of (Gap t why) = Line.Listed (SplitLine.Gap t (evidence_of why))
line_of End = Line.End

-- its kind, and its fields
abbrev pub split_of : PieceLine → Split Fields
split_of l = split (line_of l)

-- the kind and the fields of a gap line
abbrev pub gap_of : ℕ → Evidence → Split Fields
gap_of t why = split (Line.Listed (SplitLine.Gap t why))
