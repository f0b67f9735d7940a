-- A report of pieces while it grows: the text of good lines, up to some contour or some piece of a contour.
-- What a split is stands in the terms; how one is found belongs elsewhere.
use Rattle.std.specs.Prelude.{◌≡◌, ℕ, ◌+◌, ◌<◌, List, [], length, slice_get, Some}
use Rattle.shape_terms.specs.Points.{Point}
use Rattle.shape_terms.specs.Pictures.{Picture}
use Rattle.shape_terms.specs.Traces.{Contour, AreContours}
use Rattle.text_terms.specs.Reports.{BeginsWith}
use Rattle.text_terms.specs.Courses.{reached}
use Rattle.piece_terms.specs.Pieces.{Piece, place_after, ArePieces}
use Rattle.piece_terms.specs.SplitLines.{Standing, IsFull}
use Rattle.piece_terms.specs.Lines.{Line}
use Rattle.piece_terms.specs.PieceReports.{State, course, piece_report}
use Rattle.shape_pieces.specs.Steps.{AreShortPieces}

-- the text is that of good lines of a report about the picture, which lead to this state
pub record LeadsTo (X : Picture) (s : State) (text : List ℕ) : Type 0 where
  pub lines : List Line
  pub front : BeginsWith (piece_report X) text lines []
  pub state : reached (course X) lines ≡ s

-- the heading stands there, and the first k contours have all their pieces
pub record HasSplits (X : Picture) (k : ℕ) (text : List ℕ) : Type 0 where
  pub stand : Standing
  pub leads : LeadsTo X (State.Listing stand) text
  pub full : IsFull stand
  pub begun : stand.begun ≡ k

-- after the first k contours the next was begun, is to have these pieces, and has the first j of them, each with its gap lines
pub record HasPieces (X : Picture) (k : ℕ) (pieces : List Piece) (j : ℕ) (text : List ℕ) : Type 0 where
  pub stand : Standing
  pub leads : LeadsTo X (State.Listing stand) text
  pub begun : stand.begun ≡ k + 1
  pub declared : stand.declared ≡ length pieces
  pub given : stand.pieces ≡ j
  pub next : stand.next ≡ place_after pieces j
  pub gaps : 0 < j → j < length pieces → stand.gaps ≡ 2

-- the contour is the k-th of the picture
pub record IsContourAt (X : Picture) (k : ℕ) (contour : Contour) : Type 0 where
  pub contours : List Contour
  pub are : AreContours X contours
  pub there : slice_get contours k ≡ Some contour

-- the pieces are those of a split of some contour, with short numbers
abbrev pub IsSomeSplit : List Piece → Type 0
IsSomeSplit pieces = (points : List Point) × ArePieces points pieces × AreShortPieces pieces
