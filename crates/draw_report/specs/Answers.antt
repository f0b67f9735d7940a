-- What drawing a further report over the object of an analysis answers.
-- Clauses on the bytes of files hold where the desk tells its files.
use Rattle.std.specs.Prelude.{◌≡◌, ◌≢◌, ◌⊎◌, ℕ, ⊤, List, Option, Result, Ok, Err, map, pos}
use Rattle.shape_desk.specs.Desk.{DeskState, Rose, IsMissing}
use Rattle.shape_desk.specs.Line.{IfTold}
use Rattle.shape_desk.specs.Files.{OfFile}
use Rattle.shape_terms.specs.Points.{Point}
use Rattle.text_terms.specs.Going.{IsTextOf}
use Rattle.report_terms.specs.Lines.{Line}
use Rattle.report_lines.specs.Reports.{flat, in_order, IsReport, FirstBad, IsOfVolume}
use Rattle.report_lines.specs.Said.{given_sides}
use Rattle.report_lines.specs.declared.fault.ReportFault.{ReportFault}
use Rattle.report_lines.specs.declared.fault.ReportFault.TheVariants as cause
use Rattle.text_terms.specs.Reports as Texts
use Rattle.draw_report.specs.Parts as Parts
use Rattle.draw_report.specs.Parts.{Mark, LineKind, marks_of}
use Rattle.draw_report.specs.Kinds.{lines_of, IsMarkedBy, IsNoFurther}
use Rattle.draw_report.specs.Headings.{TakesHeading}
use Rattle.draw_report.specs.Layers.{IsOverlay}
use Rattle.draw_report.specs.Seen.{all_marks}
use Rattle.draw_report.specs.Standing.{IsAnalysisOf}
use Rattle.draw_report.specs.declared.kind.Kind.{Kind}
use Rattle.draw_report.specs.declared.analysis.Analysis.{Analysis}
use Rattle.draw_report.specs.declared.further.Further.{Further}
use Rattle.draw_report.specs.declared.fault.OverFault.{OverFault}
use Rattle.draw_report.specs.declared.fault.OverFault.TheVariants as fault

-- ---- texts

-- line k of the text is the first bad one of a flat picture's analysis, or the text begins with the heading of a volume
abbrev pub IsNoAnalysis : ℕ → List ℕ → Type 0
IsNoAnalysis k text = FirstBad flat text k ⊎ ((k ≡ 1) × IsOfVolume text)

-- the sides of the picture that an analysis with these lines is of
abbrev pub sides_in : List Line → Point
sides_in lines = map pos (given_sides lines)

-- the texts are an analysis of a flat picture and a further report about the same sides, and this is the drawing of the one over the other
pub record AreDrawnAs (analysis further svg : List ℕ) : Type 0 where
  pub lines : List Line
  pub report : IsReport flat analysis lines
  pub kind : Kind
  pub marks : List Mark
  pub marked : IsMarkedBy kind (sides_in lines) marks further
  pub overlay : IsOverlay kind lines marks svg

-- the first text is an analysis of a flat picture, and line k of the second is the first bad one of a further report about the same sides
pub record AreNotOver (analysis further : List ℕ) (k : ℕ) : Type 0 where
  pub lines : List Line
  pub report : IsReport flat analysis lines
  pub bad : IsNoFurther (sides_in lines) k further

-- ---- one text, where it is told, and the count of faults of reading before and now

-- why an analysis is not read
abbrev pub AnalysisFails : (text : Option (List ℕ)) (before now : ℕ) → ReportFault → Type 0
AnalysisFails text before now (cause.NotReport k) = IfTold text (IsNoAnalysis k)
AnalysisFails text before now cause.ReadFault = Rose before now
AnalysisFails text before now cause.NoMemory = ⊤

-- what reading an analysis answers
abbrev pub AnalysisRead : (text : Option (List ℕ)) (before now : ℕ) → Result Analysis ReportFault → Type 0
AnalysisRead text before now (Ok a) = IfTold text (IsTextOf (in_order flat) (λ lines. IsAnalysisOf lines a))
AnalysisRead text before now (Err fault) = AnalysisFails text before now fault

-- why a further report is not read
abbrev pub FurtherFails : Point → (text : Option (List ℕ)) (before now : ℕ) → OverFault → Type 0
FurtherFails sides text before now (fault.Analysis why) = ⊥
FurtherFails sides text before now (fault.NotOver k) = IfTold text (IsNoFurther sides k)
FurtherFails sides text before now fault.ReadFault = Rose before now
FurtherFails sides text before now fault.NoMemory = ⊤

-- line n is the first bad one, and stands behind the heading
abbrev pub FirstBehind : (K : LineKind) → Point → List ℕ → ℕ → Type 0
FirstBehind K sides text n = Texts.FirstBad (Parts.in_order K sides) text n × (n ≢ 1)

-- why the marks of the lines of a kind behind a heading are not gathered
abbrev pub GatherFails : (K : LineKind) → Point → (text : Option (List ℕ)) (before now : ℕ) → OverFault → Type 0
GatherFails K sides text before now (fault.Analysis why) = ⊥
GatherFails K sides text before now (fault.NotOver n) = IfTold text (λ t. FirstBehind K sides t n)
GatherFails K sides text before now fault.ReadFault = Rose before now
GatherFails K sides text before now fault.NoMemory = ⊤

-- what gathering them answers
abbrev pub GatheredAll : {V : Type 0} → (V → List Mark) → (K : LineKind) → Point → (text : Option (List ℕ)) (before now : ℕ) → Result V OverFault → Type 0
GatheredAll marks K sides text before now (Ok v) = IfTold text (IsTextOf (Parts.in_order K sides) (λ lines. marks v ≡ marks_of K lines))
GatheredAll marks K sides text before now (Err why) = GatherFails K sides text before now why

-- what taking the heading of a further report answers: of the bytes left before and now
abbrev pub HeadingRead : Point → (old new : Option (List ℕ)) (before now : ℕ) → Result Kind OverFault → Type 0
HeadingRead sides old new before now (Ok k) = IfTold old (TakesHeading (lines_of k) sides new)
HeadingRead sides old new before now (Err why) = FurtherFails sides old before now why

-- what reading a further report answers
abbrev pub FurtherRead : Point → (text : Option (List ℕ)) (before now : ℕ) → Result Further OverFault → Type 0
FurtherRead sides text before now (Ok f) = IfTold text (IsMarkedBy f.kind sides (all_marks f.marks.items))
FurtherRead sides text before now (Err why) = FurtherFails sides text before now why

-- ---- files

-- a fact of the bytes of two files, where the desk tells them
abbrev pub OfFiles : DeskState → (first second : List ℕ) → (List ℕ → List ℕ → Type 0) → Type 0
OfFiles d first second P = OfFile d.files first (λ a. OfFile d.files second (λ b. P a b))

-- a call of the desk failed, or it has no file with the name
abbrev pub IsUnread : List ℕ → DeskState → DeskState → Type 0
IsUnread name old new = Rose old.read_faults new.read_faults ⊎ IsMissing old.files name

-- why the analysis in a file is not read
abbrev pub AnalysisRefused : List ℕ → DeskState → DeskState → ReportFault → Type 0
AnalysisRefused name old new (cause.NotReport k) = OfFile old.files name (IsNoAnalysis k)
AnalysisRefused name old new cause.ReadFault = IsUnread name old new
AnalysisRefused name old new cause.NoMemory = ⊤

-- what reading the analysis in a file answers
abbrev pub AnalysisInFile : List ℕ → DeskState → DeskState → Result Analysis ReportFault → Type 0
AnalysisInFile name old new (Ok a) = OfFile old.files name (IsTextOf (in_order flat) (λ lines. IsAnalysisOf lines a))
AnalysisInFile name old new (Err why) = AnalysisRefused name old new why

-- why the further report in a file is not read
abbrev pub FurtherRefused : Point → List ℕ → DeskState → DeskState → OverFault → Type 0
FurtherRefused sides name old new (fault.Analysis why) = ⊥
FurtherRefused sides name old new (fault.NotOver k) = OfFile old.files name (IsNoFurther sides k)
FurtherRefused sides name old new fault.ReadFault = IsUnread name old new
FurtherRefused sides name old new fault.NoMemory = ⊤

-- what reading the further report in a file answers
abbrev pub FurtherInFile : Point → List ℕ → DeskState → DeskState → Result Further OverFault → Type 0
FurtherInFile sides name old new (Ok f) = OfFile old.files name (IsMarkedBy f.kind sides (all_marks f.marks.items))
FurtherInFile sides name old new (Err why) = FurtherRefused sides name old new why

-- why the one report is not drawn over the other
abbrev pub Refused : (analysis further : List ℕ) → DeskState → DeskState → OverFault → Type 0
Refused analysis further old new (fault.Analysis why) = AnalysisRefused analysis old new why
Refused analysis further old new (fault.NotOver k) = OfFiles old analysis further (λ a b. AreNotOver a b k)
Refused analysis further old new fault.ReadFault = IsUnread further old new
Refused analysis further old new fault.NoMemory = ⊤

-- what drawing the further report in a file over the analysis in another answers
abbrev pub Overlaid : {V : Type 0} → (V → List ℕ) → (analysis further : List ℕ) → DeskState → DeskState → Result V OverFault → Type 0
Overlaid bytes analysis further old new (Ok svg) = OfFiles old analysis further (λ a b. AreDrawnAs a b (bytes svg))
Overlaid bytes analysis further old new (Err why) = Refused analysis further old new why
