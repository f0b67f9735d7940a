-- Which lines end a further report, and that none comes in order behind such a line.
-- Laws of lines and states alone.
use Rattle.std.proofs.Common.{◌≡◌, refl, sym, subst}
use Rattle.shape_terms.specs.Points.{Point}
use Rattle.text_terms.specs.Reports.{IsReport}
use Rattle.text_terms.specs.Courses.{EndsBy}
use Rattle.text_terms.proofs.CourseLaws.{course_ends}
use Rattle.ball_terms.specs.Lines as Balls
use Rattle.piece_terms.specs.Lines as Pieces
use Rattle.piece_terms.specs.SplitLines.{SplitLine}
use Rattle.edge_terms.specs.Lines as Edges
use Rattle.draw_report.specs.Parts.{Part, Standing, LineKind, step, Claim, course, in_order}
use Rattle.draw_report.specs.Kinds.{ball_part, piece_part, edge_part}

-- ---- each kind has one last line

pub only_ball_end : (l : Balls.Line) → ball_part l ≡ Part.End → l ≡ Balls.Line.End
only_ball_end (Balls.Line.Balls sides number) e = cc
only_ball_end (Balls.Line.Ball b) e = cc
only_ball_end Balls.Line.End e = refl

pub only_piece_end : (l : Pieces.Line) → piece_part l ≡ Part.End → l ≡ Pieces.Line.End
only_piece_end (Pieces.Line.Pieces sides) e = cc
only_piece_end (Pieces.Line.Listed (SplitLine.Chain c n m)) e = cc
only_piece_end (Pieces.Line.Listed (SplitLine.Piece b l t line)) e = cc
only_piece_end (Pieces.Line.Listed (SplitLine.Gap t why)) e = cc
only_piece_end Pieces.Line.End e = refl

pub only_edge_end : (l : Edges.Line) → edge_part l ≡ Part.End → l ≡ Edges.Line.End
only_edge_end (Edges.Line.Edges w h) e = cc
only_edge_end (Edges.Line.Cycle c n m) e = cc
only_edge_end (Edges.Line.Arc s line) e = cc
only_edge_end (Edges.Line.Gap g) e = cc
only_edge_end Edges.Line.End e = refl

-- ---- no line comes behind it

abbrev pub HasEnded : Standing → Type 0
HasEnded Standing.Ended = Unit {0}
HasEnded _ = ⊥

ends_only : (s : Standing) (p : Part) → HasEnded (step s p) → p ≡ Part.End
ends_only s (Part.Heading sides) h = absurd h
ends_only s (Part.Gives m) h = absurd h
ends_only s Part.Quiet h = absurd h
ends_only s Part.End h = refl

pub none_behind : (sides : Point) (s : Standing) (p : Part) → HasEnded s → Claim sides s p → ⊥
none_behind sides Standing.Opening p e h = e
none_behind sides Standing.Open p e h = e
none_behind sides Standing.Ended (Part.Heading t) e h = h
none_behind sides Standing.Ended (Part.Gives m) e h = h
none_behind sides Standing.Ended Part.Quiet e h = h
none_behind sides Standing.Ended Part.End e h = h

module _ (K : LineKind) (ends : K.part K.last ≡ Part.End) (only : (l : K.Line) → K.part l ≡ Part.End → l ≡ K.last) (sides : Point) where
  pub ends_by : EndsBy (course K sides) K.last HasEnded
  ends_by = record {
    late = λ h. h;
    here = λ s. subst (λ p. HasEnded (step s p)) (sym ends) tt;
    only = λ s l h. only l (ends_only s (K.part l) h);
    none = λ s l e h. none_behind sides s (K.part l) e h;
  }

  pub is_report : IsReport (in_order K sides)
  is_report = course_ends (course K sides) K.last HasEnded ends_by K.text
