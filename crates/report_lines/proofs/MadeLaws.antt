-- From the heading of a report and the lines behind it to what is made of it, or why nothing is.
-- Laws over texts and lines; what is made is only what it is said to be.
use Rattle.std.proofs.Common.{◌≡◌, inl, ℕ, refl, sym, subst, List, [], ◌∷◌, ◌++◌, Option, None, Some}
use Rattle.std.specs.Prelude.{Err}
use Rattle.shape_desk.specs.Line.{IfTold}
use Rattle.text_terms.specs.Going.{IsTextOf}
use Rattle.text_terms.proofs.Checking.{begins_none, begins_next, first_bad}
use Rattle.report_text.proofs.Told.{if_told}
use Rattle.report_terms.specs.Lines.{Line}
use Rattle.report_terms.proofs.Spelled.{are_spelled}
use Rattle.report_lines.specs.Reports.{Space, flat, solid, in_order, FirstBad, IsOfVolume}
use Rattle.report_lines.specs.Headings.{TakesHeading, LacksHeading, IsOfNoBox, IsNoOpening}
use Rattle.report_lines.specs.Answers as Lines
use Rattle.report_lines.specs.declared.fault.ReportFault.{ReportFault}
use Rattle.report_lines.specs.declared.fault.ReportFault.TheVariants.{NotReport, ReadFault, NoMemory}
use Rattle.report_lines.proofs.Order.{comes_first}
use Rattle.report_lines.proofs.Headings.{any_heading}
use Rattle.report_lines.specs.Made.{Maker, IsSpace, IsMadeOf, IsNoReport, Refused}

-- ---- what is made

pub made_so : {S : Type 0} (make : Maker) (s : Space) (known : IsSpace s) (IsOf : List Line → S → Type 0) (kept : S) (text : Option (List ℕ)) (bytes : List ℕ)
    → IfTold text (IsTextOf (in_order s) (λ lines. IsOf lines kept)) → ((lines : List Line) → IsOf lines kept → make s.axes lines bytes)
    → IfTold text (λ t. IsMadeOf make t bytes)
made_so make s known IsOf kept text bytes h e = if_told text (λ t k. record {
  space = s;
  known = known;
  lines = k.front ++ Line.End ∷ [];
  report = record { whole = k.whole; ends = record { front = k.front; is = refl } };
  made = e (k.front ++ Line.End ∷ []) k.follows;
}) h

-- ---- no heading

none_there : (front : List Line) → [] ≡ front ++ Line.End ∷ [] → ⊥
none_there [] e = cc
none_there (l ∷ front) e = cc

-- without a heading of the space the first line is bad
first_of : (s : Space) (text : List ℕ) → LacksHeading s text → FirstBad s text 1
first_of s text lacks = first_bad (in_order s) (are_spelled s.axes) text [] text (begins_none (in_order s) text) (λ l rest t c. lacks l rest t (c.heading refl))
    (λ front f z. none_there front f)

neither : (text : List ℕ) → LacksHeading flat text → LacksHeading solid text → IsNoReport text 1
neither text f g = record { space = flat; known = inl refl; bad = first_of flat text f; either = λ e. (first_of flat text f, first_of solid text g) }

lacks_volume : (text : List ℕ) → (IsOfVolume text → ⊥) → LacksHeading solid text
lacks_volume text none = λ l rest t i.
    let v = any_heading solid.greatest l i in
    none (v.0, rest, rw v.1 at t)

pub no_box : (text : Option (List ℕ)) → IfTold text IsOfNoBox → IfTold text (λ t. IsNoReport t 1)
no_box text h = if_told text (λ t k. neither t k.flat k.solid) h

pub no_opening : (text : Option (List ℕ)) → IfTold text IsNoOpening → IfTold text (λ t. IsNoReport t 1)
no_opening text h = if_told text (λ t k. neither t k.flat (lacks_volume t k.volume)) h

-- ---- lines behind the heading

-- the first bad line behind a heading
pub behind_heading : (s : Space) (known : IsSpace s) (text left : Option (List ℕ)) (heading : Line) (k : ℕ)
    → IfTold text (λ bytes. TakesHeading s bytes left heading) → IfTold text (λ t. FirstBad s t k) → IfTold text (λ t. IsNoReport t k)
behind_heading s known None left heading k taken bad = tt
behind_heading s known (Some text) left heading k taken bad = record {
  space = s;
  known = known;
  bad = bad;
  either = λ e. absurd (bad.bad (
    heading ∷ [],
    taken.takes.rest,
    sym e,
    begins_next (in_order s) text [] text heading taken.takes.rest (begins_none (in_order s) text) taken.takes.starts
        (comes_first s.greatest heading taken.heading),
  ));
}

-- why the lines were not read to their end, where their heading was taken
pub refused_behind : (s : Space) (known : IsSpace s) (text left : Option (List ℕ)) (heading : Line) (before now : ℕ) (fault : ReportFault)
    → IfTold text (λ bytes. TakesHeading s bytes left heading) → Lines.Refused s text before now fault → Refused text before now fault
refused_behind s known text left heading before now (NotReport k) taken h = behind_heading s known text left heading k taken h
refused_behind s known text left heading before now ReadFault taken h = h
refused_behind s known text left heading before now NoMemory taken h = tt

-- why there is no opening, of the bytes that were left
pub refused_opening : (bytes new text : Option (List ℕ)) (before now : ℕ) (fault : ReportFault) → bytes ≡ text
    → Lines.OpeningAnswer bytes new before now (Err fault) → Refused text before now fault
refused_opening bytes new text before now (NotReport k) e h =
    subst (λ t. IfTold t (λ b. IsNoReport b k)) e (subst (λ j. IfTold bytes (λ t. IsNoReport t j)) (sym h.0) (no_opening bytes h.1))
refused_opening bytes new text before now ReadFault e h = h
refused_opening bytes new text before now NoMemory e h = tt
