-- The kinds of reports: what each is called, which pictures it is about, and what its texts mean.
-- The further kinds are the rows of `Further`; nothing here names one.
use Rattle.std.specs.Prelude.{◌≡◌, ◌++◌, ℕ, List, [], ◌∷◌, codes, ⊤, Contains, slice_get, Some}
use Rattle.shape_terms.specs.Pictures.{Picture}
use Rattle.shape_terms.specs.Thinning.{Rule}
use Rattle.shape_terms.specs.Shelves.{Named}
use Rattle.text_terms.specs.Reports.{Report, Holds}
use Rattle.report_terms.specs.Subjects.{subject_of}
use Rattle.report_terms.specs.Lines.{Line}
use Rattle.report_terms.specs.Sections.{analysis}
use Rattle.report_terms.specs.Shows.{TextShows}
use Rattle.shape_analyse.specs.Analyses.{IsReportBy}
use Rattle.shape_cli.specs.Sources.{Kind}
use Rattle.shape_cli.specs.Abouts.{About, IsAbout}
use Rattle.shape_cli.specs.Further.{FurtherKind, row_of, read_further}
use Rattle.shape_cli.specs.declared.kind.About.{About as ProgramAbout}
use Rattle.shape_cli.specs.declared.kind.About.TheVariants as about
use Rattle.shape_cli.specs.declared.kind.ReportKind.{ReportKind as ProgramReportKind}
use Rattle.shape_cli.specs.declared.kind.ReportKind.TheVariants as kind
use Rattle.shape_cli.specs.declared.kind.Wanted.{Wanted as ProgramWanted}
use Rattle.shape_cli.specs.declared.kind.Wanted.TheVariants as wanted

-- a kind of report
pub data ReportKind : Type 0 where
  Analysis : ReportKind
  Further : (kind : FurtherKind) → ReportKind

-- a report that is wanted of a picture: an analysis by the rule with a name, or one of a further kind
pub data Wanted : Type 0 where
  Analysis : (rule : List ℕ) → Wanted
  Further : (kind : FurtherKind) → Wanted

-- its kind
abbrev pub kind_of : Wanted → ReportKind
kind_of (Wanted.Analysis rule) = ReportKind.Analysis
kind_of (Wanted.Further kind) = ReportKind.Further kind

-- ---- words

-- the word that asks for a report of the kind
abbrev pub make_word : ReportKind → List ℕ
make_word ReportKind.Analysis = codes "analyse"
make_word (ReportKind.Further kind) = (row_of kind).word

-- the word that asks for its check
abbrev pub check_word : ReportKind → List ℕ
check_word ReportKind.Analysis = codes "check"
check_word (ReportKind.Further kind) = codes "check" ++ (row_of kind).word

-- the words behind those of the source of the picture
abbrev pub last_words : Wanted → List (List ℕ)
last_words (Wanted.Analysis rule) = rule ∷ []
last_words (Wanted.Further kind) = []

-- what these words name is there: the rule of an analysis is one of these names
abbrev pub IsNamed : List (List ℕ) → Wanted → Type 0
IsNamed names (Wanted.Analysis rule) = Contains names rule
IsNamed names (Wanted.Further kind) = ⊤

-- ---- pictures

-- the pictures that a report of the kind may be about
abbrev pub about_of : ReportKind → About
about_of ReportKind.Analysis = About.Every
about_of (ReportKind.Further kind) = (row_of kind).about

-- there are reports of the kind about pictures of this kind
abbrev pub Takes : ReportKind → Kind → Type 0
Takes kind = IsAbout (about_of kind)

-- ---- meanings, where these rules are on the shelf

-- the lines of a report of the kind
abbrev pub LineOf : ReportKind → Type 0
LineOf ReportKind.Analysis = Line
LineOf (ReportKind.Further kind) = (row_of kind).Line

-- the report of the kind about a picture
abbrev pub report_of : List (Named Rule) → (kind : ReportKind) → Picture → Report (LineOf kind)
report_of shelf ReportKind.Analysis X = analysis (subject_of X shelf)
report_of shelf (ReportKind.Further kind) X = (row_of kind).report X

-- the text shows what a report of the kind that holds of the picture says of it
abbrev pub ShowsOf : List (Named Rule) → ReportKind → Picture → List ℕ → Type 0
ShowsOf shelf ReportKind.Analysis X text = TextShows (subject_of X shelf) text
ShowsOf shelf (ReportKind.Further kind) X text = (row_of kind).Shows X text

-- the text is the report of the picture that was wanted
abbrev pub Makes : List (Named Rule) → Wanted → Picture → List ℕ → Type 0
Makes shelf (Wanted.Analysis rule) X text = IsReportBy (subject_of X shelf) rule text
Makes shelf (Wanted.Further kind) X text = Holds ((row_of kind).report X) text

-- ---- the program's own

-- the pictures that the program reads
abbrev pub read_about : ProgramAbout → About
read_about about.Every = About.Every
read_about about.Flat = About.Flat

-- the kind that the program reads
abbrev pub read_report_kind : ProgramReportKind → ReportKind
read_report_kind kind.Analysis = ReportKind.Analysis
read_report_kind (kind.Further kind) = ReportKind.Further (read_further kind)

-- the report that the program makes
abbrev pub read_wanted : ProgramWanted → Wanted
read_wanted (wanted.Analysis rule which) = Wanted.Analysis rule.now
read_wanted (wanted.Further kind) = Wanted.Further (read_further kind)

-- the place of the rule among the names is the one that the program found
abbrev pub IsFound : List (List ℕ) → ProgramWanted → Type 0
IsFound names (wanted.Analysis rule which) = slice_get names which ≡ Some rule.now
IsFound names (wanted.Further kind) = ⊤
