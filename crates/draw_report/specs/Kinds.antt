-- The kinds of reports that are drawn over an object, what the lines of each give, and when a text is one of them in order.
-- A further kind is one more variant of `Kind` and a clause of `lines_of`.
use Rattle.std.specs.Prelude.{◌≡◌, ℕ, pos, List, [], ◌∷◌}
use Rattle.shape_terms.specs.Points.{Point}
use Rattle.text_terms.specs.Going.{IsTextOf}
use Rattle.text_terms.specs.Reports.{FirstBad}
use Rattle.ball_terms.specs.Lines as Balls
use Rattle.piece_terms.specs.Lines as Pieces
use Rattle.piece_terms.specs.SplitLines.{SplitLine}
use Rattle.edge_terms.specs.Lines as Edges
use Rattle.draw_report.specs.Parts.{Mark, Part, LineKind, kind_by, marks_of, in_order}
use Rattle.draw_report.specs.declared.kind.Kind.{Kind}
use Rattle.draw_report.specs.declared.kind.Kind.TheVariants as kind

-- what a line of a ball report gives
abbrev pub ball_part : Balls.Line → Part
ball_part (Balls.Line.Balls sides number) = Part.Heading sides
ball_part (Balls.Line.Ball b) = Part.Gives (Mark.Ball b.centre b.s)
ball_part Balls.Line.End = Part.End

-- what a line of a report of straight pieces gives: each chain is a border, and each piece a stretch of it
abbrev pub piece_part : Pieces.Line → Part
piece_part (Pieces.Line.Pieces sides) = Part.Heading sides
piece_part (Pieces.Line.Listed (SplitLine.Chain c n m)) = Part.Gives Mark.Border
piece_part (Pieces.Line.Listed (SplitLine.Piece b e t line)) = Part.Gives (Mark.Along (record { first = b; last = e }))
piece_part (Pieces.Line.Listed (SplitLine.Gap t why)) = Part.Quiet
piece_part Pieces.Line.End = Part.End

-- what a line of an edge report gives: each cycle is a border, and each arc a stretch of it
abbrev pub edge_part : Edges.Line → Part
edge_part (Edges.Line.Edges w h) = Part.Heading (pos w ∷ pos h ∷ [])
edge_part (Edges.Line.Cycle c n m) = Part.Gives Mark.Border
edge_part (Edges.Line.Arc s line) = Part.Gives (Mark.Along s)
edge_part (Edges.Line.Gap e) = Part.Quiet
edge_part Edges.Line.End = Part.End

-- the lines of each kind, in reports of flat pictures
abbrev pub lines_of : Kind → LineKind
lines_of kind.Balls = kind_by (Balls.spelled 2) Balls.Line.End ball_part
lines_of kind.Pieces = kind_by Pieces.spelled Pieces.Line.End piece_part
lines_of kind.Edges = kind_by Edges.spelled Edges.Line.End edge_part

-- the text is a report in order of this kind, about a picture with these sides, and its lines give these marks
abbrev pub IsMarkedBy : Kind → Point → List Mark → List ℕ → Type 0
IsMarkedBy k sides marks text = IsTextOf (in_order (lines_of k) sides) (λ lines. marks ≡ marks_of (lines_of k) lines) text

-- line n is the first bad one of the order of some kind; where it is the first of all, it is a heading of none with these sides
pub record IsNoFurther (sides : Point) (n : ℕ) (text : List ℕ) : Type 0 where
  pub kind : Kind
  pub bad : FirstBad (in_order (lines_of kind) sides) text n
  pub any : n ≡ 1 → (k : Kind) → FirstBad (in_order (lines_of k) sides) text 1
