-- The further kinds of reports: the word that asks for each, the pictures that it is about, and what its texts mean.
-- A further kind is a constructor, and a line of each table; no other definition of this crate and no proof names one.
use Rattle.std.specs.Prelude.{ℕ, List, [], ◌∷◌, codes, Option}
use Rattle.shape_terms.specs.Pictures.{Picture}
use Rattle.text_terms.specs.Reports.{Report, Holds}
use Rattle.shape_desk.specs.Desk.{DeskState}
use Rattle.report_text.specs.Checks.{HasChecked, Answer}
use Rattle.edge_terms.specs.EdgeReports.{edge_report}
use Rattle.edge_terms.specs.EdgeFacts.{EdgesShow}
use Rattle.piece_terms.specs.PieceReports.{piece_report}
use Rattle.piece_terms.specs.Shown.{PiecesShow}
use Rattle.ball_terms.specs.Reports.{ball_report}
use Rattle.ball_terms.specs.Shows.{BallsShow}
use Rattle.shape_cli.specs.Abouts.{About}
use Rattle.shape_cli.specs.declared.further.FurtherKind.{FurtherKind as ProgramFurtherKind}
use Rattle.shape_cli.specs.declared.further.FurtherKind.TheVariants as further

-- a further kind of report: one for which no words are wanted behind those of a source
pub data FurtherKind : Type 0 where
  Edges Pieces Balls : FurtherKind

-- all of them
abbrev pub further_kinds : List FurtherKind
further_kinds = FurtherKind.Edges ∷ FurtherKind.Pieces ∷ FurtherKind.Balls ∷ []

-- what there is to say of a kind
pub record Row : Type 1 where
  -- the word that asks for a report of the kind; behind "check" it asks for the check of one
  pub word : List ℕ
  -- the pictures that a report of the kind may be about
  pub about : About
  -- the lines of a report of the kind
  pub Line : Type 0
  -- the report of the kind about a picture
  pub report : Picture → Report Line
  -- the text shows what a report of the kind that holds of the picture says of it
  pub Shows : Picture → List ℕ → Type 0
  -- the program's own: the text holds, a check went so, and what holds shows; each is a type of the kind's own, which a call of the kind gives
  pub Makes : Picture → List ℕ → Type 0
  pub Checked : Picture → Option (List ℕ) → DeskState → DeskState → Answer → Type 0
  pub Tells : Type 0
  -- what each means, for every kind
  pub makes : (X : Picture) (text : List ℕ) → Makes X text → Holds (report X) text
  pub checked : (X : Picture) (text : Option (List ℕ)) (old new : DeskState) (r : Answer) → Checked X text old new r → HasChecked (report X) text old new r
  pub tells : Tells → (X : Picture) (text : List ℕ) → Holds (report X) text → Shows X text

-- the row of a kind with this word, about these pictures, with this report and what that shows
abbrev pub row_with : (word : List ℕ) (about : About) {L : Type 0} (R : Picture → Report L) (Shows : Picture → List ℕ → Type 0) → Row
row_with word about R Shows = record {
  word = word;
  about = about;
  Line = _;
  report = R;
  Shows = Shows;
  Makes = λ X text. Holds (R X) text;
  Checked = λ X text old new r. HasChecked (R X) text old new r;
  Tells = (X : Picture) (text : List ℕ) → Holds (R X) text → Shows X text;
  makes = λ X text h. h;
  checked = λ X text old new r h. h;
  tells = λ h. h;
}

-- the table of the kinds
abbrev pub row_of : FurtherKind → Row
row_of FurtherKind.Edges = row_with (codes "edges") About.Flat edge_report EdgesShow
row_of FurtherKind.Pieces = row_with (codes "pieces") About.Flat piece_report PiecesShow
row_of FurtherKind.Balls = row_with (codes "balls") About.Every ball_report BallsShow

-- the kind that the program reads
abbrev pub read_further : ProgramFurtherKind → FurtherKind
read_further further.Edges = FurtherKind.Edges
read_further further.Pieces = FurtherKind.Pieces
read_further further.Balls = FurtherKind.Balls
