-- Which texts are reports of a picture with so many axes, as far as their lines have to come in order, and where a text that is none goes wrong.
-- No claim is judged: lines have to be spelled right and to stand in the order of their sections, from the heading to `end`.
use Rattle.std.specs.Prelude.{◌≡◌, ◌<◌, ◌≤◌, ℕ, ℤ, List, [], All, pos}
use Rattle.shape_terms.specs.Limits.{most_flat, most_solid}
use Rattle.shape_terms.specs.Points.{AreSides}
use Rattle.text_terms.specs.Reports as Texts
use Rattle.text_terms.specs.Reports.{Report, report_of, BeginsWith, EndsWith}
use Rattle.report_terms.specs.Lines.{Line, Heading, spelled}
use Rattle.report_terms.specs.Sections.{Section, rank, section_of}
use Rattle.report_terms.specs.Progress.{StartsWithLine}

-- the boxes that pictures of reports stand in: so many axes, and sides from 1 to the greatest
pub record Space : Type 0 where
  pub axes : ℕ
  pub greatest : ℤ

abbrev pub space : ℕ → ℤ → Space
space d m = record { axes = d; greatest = m }

-- the space of flat pictures, and that of volumes
abbrev pub flat : Space
flat = space 2 (pos most_flat)

abbrev pub solid : Space
solid = space 3 (pos most_solid)

-- the place of a line's section
abbrev pub line_rank : Line → ℕ
line_rank l = rank (section_of l)

-- the line is the heading of a picture that stands in a box with sides up to the greatest
abbrev pub IsHeading : (greatest : ℤ) → Line → Type 0
IsHeading m (Line.Shape h) = AreSides m h.sides
IsHeading m _ = ⊥

-- the line comes in order: the first is a heading, and no line before it is of a later section, nor `end`
pub record ComesInOrder (greatest : ℤ) (before : List Line) (l : Line) : Type 0 where
  pub heading : before ≡ [] → IsHeading greatest l
  pub order : All (λ e. line_rank e ≤ line_rank l) before
  pub more : All (λ e. line_rank e < rank Section.End) before

-- the report of lines in order
abbrev pub in_order : Space → Report Line
in_order s = report_of (spelled s.axes) Line.End (ComesInOrder s.greatest)

-- the text is these lines, in order, with `end` last
pub record IsReport (s : Space) (text : List ℕ) (lines : List Line) : Type 0 where
  pub whole : BeginsWith (in_order s) text lines []
  pub ends : EndsWith Line.End lines

-- line k is the first one that is missing, is no line, or does not come in order
abbrev pub FirstBad : Space → List ℕ → ℕ → Type 0
FirstBad s text k = Texts.FirstBad (in_order s) text k

-- the text begins with the heading of a volume, whatever its sides are
abbrev pub IsOfVolume : List ℕ → Type 0
IsOfVolume text = (h : Heading) × (rest : List ℕ) × StartsWithLine 3 text (Line.Shape h) rest
