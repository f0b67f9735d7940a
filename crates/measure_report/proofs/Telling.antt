-- The table of a report that holds has the measures and borders of the picture's components.
-- Put together from the laws of reports, of tables and of borders.
use Rattle.std.proofs.Common.{◌≡◌, ℕ, List, refl, sym, ◌∙◌, subst, length}
use Rattle.std.specs.Prelude.{All}
use Rattle.std.proofs.lemmas.List.{append-nil}
use Rattle.std.proofs.lemmas.List.Elements.{recursion_from_All}
use Rattle.shape_terms.specs.Pictures.{Picture}
use Rattle.report_terms.specs.Subjects.{Subject}
use Rattle.report_terms.specs.Lines.{IsLineOf, text_of}
use Rattle.report_terms.specs.Holds.{Holds}
use Rattle.report_terms.specs.Sections.{number_of}
use Rattle.report_terms.specs.Shows.{TextShows}
use Rattle.report_terms.proofs.HoldsShows.{holds_shows}
use Rattle.report_lines.specs.Reports.{Space}
use Rattle.report_lines.specs.Said.{said}
use Rattle.report_lines.specs.Tells.{StandsIn, Tells}
use Rattle.report_lines.proofs.Telling as Lines
use Rattle.report_lines.proofs.TextLines.{one_list}
use Rattle.measure_terms.specs.Measures.{Measures}
use Rattle.measure_terms.specs.Texts.{table_text}
use Rattle.measure_terms.specs.Components.{MeasuresComponents}
use Rattle.measure_terms.proofs.TableOfComponents.{table_measures, labels_kept}
use Rattle.measure_terms.specs.Borders.{borders}
use Rattle.measure_terms.specs.Shown.{BordersShow}
use Rattle.measure_terms.proofs.BordersShown.{text_borders}
use Rattle.measure_terms.proofs.BordersBegin.{borders_begin}
use Rattle.measure_terms.proofs.HolesShown.{holes_shown}
use Rattle.measure_report.specs.Further.{FurtherComponents}
use Rattle.measure_report.specs.FurtherColumns.{further_columns, tells_distances}
use Rattle.measure_report.specs.TableTexts.{IsTableText}
use Rattle.measure_report.specs.Holding.{SpellsMeasures, TableTells}
use Rattle.measure_report.specs.declared.groups.Groups.{Groups}
use Rattle.report_lines.specs.Made.{IsSpace}
use Rattle.measure_report.proofs.Squares.{balls_of}
use Rattle.measure_report.proofs.FurtherOnce.{further_measure}
use Rattle.measure_report.proofs.TableMade.{areas_of}

-- the measures of components, with these labels
WithLabels : Picture → List ℕ → Picture → List Measures → List ℕ → Type 0
WithLabels X squares left rows labels = (m : MeasuresComponents X squares left rows) × (m.labels ≡ labels)

-- the lines of a text that shows what it says
lines_same : (s : Space) (X : Subject) (text : List ℕ) (t : Tells s X text) (u : TextShows X text) → StandsIn s X.picture → u.lines ≡ t.lines
lines_same s X text t u i =
    let mine = subst (λ n. All (IsLineOf n) u.lines) i.picture.axes u.fields in
    one_list s.axes u.lines t.lines (recursion_from_All (IsLineOf s.axes) u.lines mine) (recursion_from_All (IsLineOf s.axes) t.lines t.report.whole.fields)
    (sym u.text_is ∙ t.report.whole.split ∙ append-nil (text_of t.lines))

-- the borders that the lines of a report tell are those of the contours
pub borders_so : (s : Space) (X : Subject) (text : List ℕ) (t : Tells s X text) → Holds X text → StandsIn s X.picture → s.axes ≡ 2
    → BordersShow (number_of t.lines) X.picture (borders t.lines)
borders_so s X text t h i e =
    let u = holds_shows X text h in
    subst (λ ls. BordersShow (number_of ls) X.picture (borders ls)) (lines_same s X text t u i) (text_borders X text (i.picture.axes ∙ e) u)

-- bytes that are the table of its lines spell the measures of the picture's components
pub spelled_so : (g : Groups) (s : Space) → IsSpace s → (X : Subject) (text bytes : List ℕ) (t : Tells s X text) → Holds X text → StandsIn s X.picture
    → IsTableText g s.axes t.lines bytes → SpellsMeasures g s.axes X t.lines bytes
unfolding WithLabels
spelled_so g s known X text bytes t holds i h =
    let said_left = (said t.lines).left in
    let said_object = (said t.lines).object in
    let squares = (said t.lines).squares in
    let labels = h.table.labels in
    let m : WithLabels said_object squares said_left h.rows labels =
    (table_measures said_object said_left squares h.rows refl h.table, labels_kept said_object said_left squares h.rows refl h.table) in
    let m2 : WithLabels X.picture squares said_left h.rows labels = subst (λ (Y : Picture). WithLabels Y squares said_left h.rows labels) t.object m in
    let m3 : WithLabels X.picture squares t.stage.left h.rows labels = subst (λ (Y : Picture). WithLabels X.picture squares Y h.rows labels) t.left m2 in
    let same = sym m3.1 in
    record {
      squares = squares;
      least = t.squares;
      rule = t.rule;
      names = t.names;
      stage = t.stage;
      thinning = t.thinning;
      rows = h.rows;
      measures = m3.0;
      borders = borders t.lines;
      shows = borders_so s X text t holds i;
      holes = λ e k few. holes_shown X.picture (i.picture.axes ∙ e) (borders t.lines)
          (borders_begin (number_of t.lines) X.picture (borders t.lines) (borders_so s X text t holds i e))
          m3.0.labels m3.0.named (length h.rows) m3.0.all k few;
      further = h.further;
      are = subst (λ (ls : List ℕ). FurtherComponents g s.axes X.picture ls (length h.rows) h.further) same
          (subst (λ (Y : Picture). FurtherComponents g s.axes Y labels (length h.rows) h.further) t.object
          (further_measure g s.axes said_object said_left squares h.rows h.further (balls_of s known X.picture said_object i t.object squares t.squares) h.table
          h.are));
      text = h.text ∙ (λ j. table_text (tells_distances g s.axes) s.axes
          (further_columns g s.axes (number_of t.lines) (t.object j).sides (same j) (borders t.lines) (areas_of h.rows) h.further) h.rows);
    }

pub table_tells : (g : Groups) (s : Space) (X : Subject) (text bytes : List ℕ) → IsSpace s → Holds X text → StandsIn s X.picture → TableTells g s X text bytes
table_tells g s X text bytes known h i =
    let t = Lines.holding_tells s X text h i in
    record { lines = t.lines; report = t.report; told = spelled_so g s known X text bytes t h i }
