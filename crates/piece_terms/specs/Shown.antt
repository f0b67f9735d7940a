-- What a report of pieces shows of a picture, in geometry alone: for each of its contours, in order, a split with the fewest pieces.
-- No claim of a line and no judge stands here, only how the lines tell the facts.
use Rattle.std.specs.Prelude.{◌≡◌, ℕ, List, [], ◌∷◌, ◌++◌, length, map, flat_map, pos, All}
use Rattle.std.specs.List.{AllZip}
use Rattle.shape_terms.specs.Points.{Point}
use Rattle.shape_terms.specs.Pictures.{Picture}
use Rattle.shape_terms.specs.Contours.{Crack}
use Rattle.shape_terms.specs.Traces.{Contour, AreContours}
use Rattle.text_terms.specs.Spellings.{text_of}
use Rattle.piece_terms.specs.Splits.{IsShortestSplit}
use Rattle.piece_terms.specs.Pieces.{Piece, ArePieces, BreaksEach, ShareNoStep, runs_of}
use Rattle.piece_terms.specs.SplitLines.{SplitLine}
use Rattle.piece_terms.specs.Lines.{Line, spelled}

-- ---- what the lines tell

-- what is told of one contour: its first crack, how many points it has, and the pieces of a split
pub record SplitFact : Type 0 where
  pub start : Crack
  pub points : ℕ
  pub pieces : List Piece

-- the line of a piece
abbrev pub piece_line : Piece → SplitLine
piece_line p = SplitLine.Piece p.first p.last p.axis p.line

-- the lines of pieces in order: behind each but the last stands why it can't be longer, for the axis x and then for y
abbrev pub lines_of_pieces : List Piece → List SplitLine
lines_of_pieces [] = []
lines_of_pieces (p ∷ []) = piece_line p ∷ []
lines_of_pieces (p ∷ (q ∷ pieces)) = piece_line p ∷ (SplitLine.Gap 0 p.x ∷ (SplitLine.Gap 1 p.y ∷ lines_of_pieces (q ∷ pieces)))

-- the lines that tell of a contour: its own, with how many pieces it has, and those of the pieces
abbrev pub split_lines : SplitFact → List SplitLine
split_lines f = SplitLine.Chain f.start f.points (length f.pieces) ∷ lines_of_pieces f.pieces

-- the lines of a report that tells these facts of a picture with these sides, which stand as a point
abbrev pub piece_lines : Point → List SplitFact → List Line
piece_lines sides facts = Line.Pieces sides ∷ (map (λ l. Line.Listed l) (flat_map split_lines facts) ++ Line.End ∷ [])

-- ---- what they show

-- the crack and the number of points are those of the contour, and the pieces are a split with the fewest of all its splits: each is straight with its line,
-- and every split has a break in the run of each but the last with its next point, which is not straight; no two of these runs share a step
pub record SplitShows (contour : Contour) (fact : SplitFact) : Type 0 where
  pub start : fact.start ≡ contour.start
  pub count : fact.points ≡ length contour.points
  pub pieces : ArePieces contour.points fact.pieces
  pub shortest : IsShortestSplit contour.points (runs_of contour.points fact.pieces)
  pub breaks : BreaksEach contour.points fact.pieces
  pub apart : ShareNoStep fact.pieces

-- the text tells of each contour of the picture, in their order, a split with the fewest pieces
pub record PiecesShow (X : Picture) (text : List ℕ) : Type 0 where
  pub contours : List Contour
  pub are : AreContours X contours
  pub facts : List SplitFact
  pub each : AllZip SplitShows contours facts
  pub fields : All spelled.IsLine (piece_lines (map pos X.sides) facts)
  pub text_is : text ≡ text_of spelled (piece_lines (map pos X.sides) facts)
