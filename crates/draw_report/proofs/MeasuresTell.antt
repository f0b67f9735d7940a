-- The measures of the labels in a drawing are those of the components of the picture of which the report holds.
-- Put together from the laws of each kind of measure, and of runs.
use Rattle.std.proofs.Common.{◌≡◌, inl, ℕ, List, length, refl, sym, subst}
use Rattle.shape_terms.specs.Pictures.{Picture}
use Rattle.shape_terms.specs.Parts.{Object, NamesParts}
use Rattle.shape_terms.specs.Adjacency.{Near}
use Rattle.shape_desk.specs.Desk.{DeskState}
use Rattle.report_terms.specs.Subjects.{Subject}
use Rattle.report_terms.specs.Holds.{Holds}
use Rattle.report_terms.specs.Lines.{Line}
use Rattle.report_lines.specs.Reports.{flat}
use Rattle.report_lines.specs.Said.{said}
use Rattle.report_lines.specs.Tells.{StandsIn, Tells}
use Rattle.report_lines.proofs.OneReading.{one_reading}
use Rattle.report_lines.proofs.Telling.{holding_tells}
use Rattle.report_lines.specs.Made.{flat_alone}
use Rattle.report_lines.specs.Runs.{RanFlat}
use Rattle.report_lines.specs.Complete.{FileIs}
use Rattle.report_lines.specs.declared.outcome.Outcome.TheVariants.{Done}
use Rattle.report_lines.proofs.Weaker as Weaker
use Rattle.report_lines.proofs.Written.{writes_of}
use Rattle.measure_terms.specs.Facts.{facts}
use Rattle.measure_terms.specs.Spacing.{spaced_distance, unit_spacing}
use Rattle.measure_terms.specs.Measures.{Measures, greatest}
use Rattle.measure_terms.specs.Tables.{rows, IsTable}
use Rattle.measure_terms.proofs.TableOfComponents.{table_measures, labels_kept, ferets_measure, table_length}
use Rattle.measure_terms.proofs.HullComponents.{hulls_table}
use Rattle.measure_terms.proofs.MomentComponents.{moments_table}
use Rattle.drawing.specs.Svg.{most_drawing}
use Rattle.draw_report.specs.Holding.{at_point}
use Rattle.draw_report.specs.Measured.{Measured, AreAxes, AreMeasured, MeasuredComponents}
use Rattle.draw_report.specs.MeasureDrawings.{IsMeasuredText, IsMeasuredDrawing, measured_drawing}
use Rattle.draw_report.specs.MeasureHolding.{LinesComponents, MeasuresTell, WritesMeasured}

-- ---- by components

-- what is measured by the labels of a table's components, of these components
measured_so : (object left : Picture) (squares : List ℕ) (rs : List Measures) (m : Measured) → (h : IsTable object squares left rs)
    → AreMeasured object.sides h.labels (greatest h.labels) m → MeasuredComponents object h.labels (length rs) m
measured_so object left squares rs m h a = record {
  moments = moments_table object left squares rs m.moments h a.moments;
  axes = subst (λ n. AreAxes n m.moments m.axes) (sym (table_length object left squares rs h)) a.axes;
  ferets = ferets_measure (spaced_distance unit_spacing) object left squares rs m.ferets h a.ferets;
  hulls = hulls_table object left squares rs m.hulls h a.hulls;
}

-- the components with the labels of a table
all_named : (object left : Picture) (squares : List ℕ) (rs : List Measures) → left.sides ≡ object.sides → (h : IsTable object squares left rs)
    → NamesParts Near (Object object) (length rs) (at_point object h.labels)
all_named object left squares rs same h =
    subst (λ ls. NamesParts Near (Object object) (length rs) (at_point object ls)) (labels_kept object left squares rs same h)
    (table_measures object left squares rs same h).all

-- the lines of all rows of a table are those of the components
lines_so : (object left : Picture) (squares : List ℕ) (lines : List Line) (bytes : List ℕ) (rs : List Measures) (m : Measured) → left.sides ≡ object.sides
    → (h : IsTable object squares left rs)
    → AreMeasured object.sides h.labels (greatest h.labels) m → bytes ≡ measured_drawing lines (greatest h.labels) m → LinesComponents object lines bytes
lines_so object left squares lines bytes rs m same h a e = record {
  labels = h.labels;
  named = h.named;
  count = length rs;
  all = all_named object left squares rs same h;
  measured = m;
  are = measured_so object left squares rs m h a;
  text = subst (λ n. bytes ≡ measured_drawing lines n m) (sym (table_length object left squares rs h)) e;
}

-- ---- of a report that holds

told_so : (X : Subject) (text bytes : List ℕ) (t : Tells flat X text) → IsMeasuredText t.lines bytes → LinesComponents X.picture t.lines bytes
told_so X text bytes t h =
    let s = said t.lines in
    let rs = rows (greatest h.labels) (facts s.object s.squares s.left h.labels) in
    let there = lines_so s.object s.left s.squares t.lines bytes rs h.measured refl (record { labels = h.labels; named = h.named; rows = refl }) h.are h.text in
    subst (λ (Y : Picture). LinesComponents Y t.lines bytes) t.object there

pub measures_tell : (X : Subject) (text bytes : List ℕ) → Holds X text → StandsIn flat X.picture → MeasuresTell X text bytes
measures_tell X text bytes h i =
    let t = holding_tells flat X text h i in
    record { lines = t.lines; report = t.report; told = told_so X text bytes t }

-- ---- what a run wrote

pub measures_drawn : (X : Subject) (name text : List ℕ) (old new : DeskState) → Holds X text → StandsIn flat X.picture
    → FileIs old.files name (λ bytes. bytes ≡ text) → RanFlat most_drawing IsMeasuredDrawing name old new Done → WritesMeasured X text old new
measures_drawn X name text old new holds stands file ran =
    let make = flat_alone IsMeasuredDrawing in
    let tells = holding_tells flat X text holds stands in
    let w = writes_of make flat name text tells.lines old new (inl refl) tells.report file
    (Weaker.without_bound most_drawing make name old new Done ran (λ e. cc)) in
    let t = measures_tell X text w.bytes holds stands in
    let same : tells.lines ≡ t.lines = one_reading flat text tells.lines t.lines tells.report t.report in
    record { lines = t.lines; report = t.report; bytes = w.bytes; measured = t.told (subst (λ ls. IsMeasuredText ls w.bytes) same w.made.0); puts = w.puts }
