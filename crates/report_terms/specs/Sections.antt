-- The sections of a report, in their order, and when a line is good after the lines before it.
-- Each claim speaks of the heading and of the lines of its own section alone; what contours, faces and the thinning claim stands in `ContourLines`, `FaceLines`
-- and `ThinningLines`.
use Rattle.std.specs.Prelude.{◌≡◌, ◌≢◌, ℕ, ◌<◌, ◌≤◌, ◌==◌, List, [], ◌∷◌, length, map, filter, slice_get, Some, pos, All}
use Rattle.shape_terms.specs.Pictures.{Picture, object_points, Least}
use Rattle.shape_terms.specs.Parts.{Counts}
use Rattle.shape_terms.specs.Thinning.{Rule}
use Rattle.shape_terms.specs.Shelves.{Named}
use Rattle.text_terms.specs.Reports as Texts
use Rattle.text_terms.specs.Reports.{Report}
use Rattle.report_terms.specs.Subjects.{Subject, IsOnShelf}
use Rattle.report_terms.specs.Lines.{Line, Heading as Head, spelled}
use Rattle.report_terms.specs.ContourLines.{ContourClaim, ContoursComplete}
use Rattle.report_terms.specs.FaceLines.{FaceClaim, FacesComplete}
use Rattle.report_terms.specs.ThinningLines.{ThinningClaim, ThinningComplete}

-- the sections of a report
pub data Section : Type 0 where
  Heading Counted Nearest Contours Faces Thinned End : Section

-- all sections, in their order
abbrev pub sections : List Section
sections = Section.Heading ∷ Section.Counted ∷ Section.Nearest ∷ Section.Contours ∷ Section.Faces ∷ Section.Thinned ∷ Section.End ∷ []

-- the place of a section among them
abbrev pub rank : Section → ℕ
rank Section.Heading = 0
rank Section.Counted = 1
rank Section.Nearest = 2
rank Section.Contours = 3
rank Section.Faces = 4
rank Section.Thinned = 5
rank Section.End = 6

abbrev pub section_of : Line → Section
section_of (Line.Shape _) = Section.Heading
section_of (Line.Parts _ _ _) = Section.Counted
section_of (Line.Near _ _ _) = Section.Nearest
section_of (Line.Contour _ _ _ _) = Section.Contours
section_of (Line.At _) = Section.Contours
section_of (Line.Seg _ _ _ _ _) = Section.Contours
section_of (Line.Least _) = Section.Contours
section_of (Line.Gap _ _) = Section.Contours
section_of (Line.Face _ _ _) = Section.Faces
section_of (Line.Patch _ _ _) = Section.Faces
section_of (Line.On _) = Section.Faces
section_of (Line.Off _ _) = Section.Faces
section_of (Line.Del _) = Section.Thinned
section_of (Line.Tip _) = Section.Thinned
section_of (Line.Kept _ _ _) = Section.Thinned
section_of Line.End = Section.End

-- the lines of a section
abbrev pub lines_of : Section → List Line → List Line
lines_of s lines = filter (λ l. rank (section_of l) == rank s) lines

-- ---- claims

-- the sides of the picture, and the name of a rule on the shelf
abbrev pub HeadingClaim : Subject → Line → Type 0
HeadingClaim X (Line.Shape h) = (h.sides ≡ map pos X.picture.sides) × ((rule : Rule) × IsOnShelf X.shelf h.rule rule)
HeadingClaim X _ = ⊥

-- the counts of the picture
abbrev pub CountsClaim : Picture → Line → Type 0
CountsClaim X (Line.Parts n o b) = Counts X n o b
CountsClaim X _ = ⊥

-- the next object point, a nearest background point and the distance
abbrev pub NearClaim : Picture → List Line → Line → Type 0
NearClaim X before (Line.Near p q s) = (slice_get (object_points X) (length before) ≡ Some p) × Least X p q s
NearClaim X before _ = ⊥

-- each object point has its line
abbrev pub NearsComplete : Picture → List Line → Type 0
NearsComplete X lines = length lines ≡ length (object_points X)

-- a line of a contour is of a flat picture, in a report with this number
abbrev pub FlatClaim : ℕ → Picture → List Line → Line → Type 0
FlatClaim n X before l = (length X.sides ≡ 2) × ContourClaim n X before l

-- a line of a face is of a volume
abbrev pub SolidClaim : Picture → List Line → Line → Type 0
SolidClaim X before l = (length X.sides ≡ 3) × FaceClaim X before l

-- the first line of a report is a heading, which names the rule on the shelf
pub record NamesRule (shelf : List (Named Rule)) (first : List Line) (rule : Rule) : Type 0 where
  pub heading : Head
  pub first_is : first ≡ Line.Shape heading ∷ []
  pub on_shelf : IsOnShelf shelf heading.rule rule

-- the number that the heading gives
abbrev pub number_of : (first : List Line) → ℕ
number_of (Line.Shape h ∷ lines) = h.number
number_of _ = 0

-- the claim of a line after the heading and the lines of its section before it
abbrev pub SectionClaim : Subject → (heading : List Line) → Section → (before : List Line) → Line → Type 0
SectionClaim X heading Section.Heading before l = (before ≡ []) × HeadingClaim X l
SectionClaim X heading Section.Counted before l = (before ≡ []) × CountsClaim X.picture l
SectionClaim X heading Section.Nearest before l = NearClaim X.picture before l
SectionClaim X heading Section.Contours before l = FlatClaim (number_of heading) X.picture before l
SectionClaim X heading Section.Faces before l = SolidClaim X.picture before l
SectionClaim X heading Section.Thinned before l = (rule : Rule) × NamesRule X.shelf heading rule × ThinningClaim rule X.picture before l
SectionClaim X heading Section.End before l = before ≡ []

-- each contour of a flat picture has its lines, and any other picture has no line of a contour
pub record AllContours (X : Picture) (lines : List Line) : Type 0 where
  pub flat : length X.sides ≡ 2 → ContoursComplete X lines
  pub other : length X.sides ≢ 2 → lines ≡ []

-- each of the six faces of a volume has its lines, and any other picture has no line of a face
pub record AllFaces (X : Picture) (lines : List Line) : Type 0 where
  pub solid : length X.sides ≡ 3 → FacesComplete X lines
  pub other : length X.sides ≢ 3 → lines ≡ []

-- the section's lines are complete
abbrev pub SectionComplete : Subject → Section → List Line → Type 0
SectionComplete X Section.Heading lines = length lines ≡ 1
SectionComplete X Section.Counted lines = length lines ≡ 1
SectionComplete X Section.Nearest lines = NearsComplete X.picture lines
SectionComplete X Section.Contours lines = AllContours X.picture lines
SectionComplete X Section.Faces lines = AllFaces X.picture lines
SectionComplete X Section.Thinned lines = ThinningComplete lines
SectionComplete X Section.End lines = length lines ≡ 1

-- ---- all lines

-- the claim of a line after the lines before it
abbrev pub Claim : Subject → List Line → Line → Type 0
Claim X earlier l = SectionClaim X (lines_of Section.Heading earlier) (section_of l) (lines_of (section_of l) earlier) l

abbrev pub IsComplete : Subject → Section → List Line → Type 0
IsComplete X s lines = SectionComplete X s (lines_of s lines)

-- the lines have come to the section: none is of a later one, and each earlier one is complete
pub record HasCome (X : Subject) (s : Section) (lines : List Line) : Type 0 where
  pub order : All (λ e. rank (section_of e) ≤ rank s) lines
  pub complete : (t : Section) → rank t < rank s → IsComplete X t lines

-- the line is good after the earlier ones: they have come to its section, and its claim is true
pub record GoodAfter (X : Subject) (earlier : List Line) (l : Line) : Type 0 where
  pub come : HasCome X (section_of l) earlier
  pub claim : Claim X earlier l

-- the analysis as a kind of report: its lines are those of the picture's dimension, good in their sections, and `end` is the last
abbrev pub analysis : Subject → Report Line
analysis X = record { text = spelled (length X.picture.sides); GoodAfter = GoodAfter X; last = Line.End }

-- each line is good after those before it
abbrev pub GoodSoFar : Subject → List Line → Type 0
GoodSoFar X lines = Texts.GoodSoFar (analysis X) lines
