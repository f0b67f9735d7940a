-- What reading a report answers: its heading, and then its other lines.
-- Clauses on the text hold where the desk tells it.
use Rattle.std.specs.Prelude.{◌≡◌, ℕ, ⊤, List, Option, Result, Ok, Err}
use Rattle.shape_desk.specs.Desk.{Rose}
use Rattle.shape_desk.specs.Line.{IfTold}
use Rattle.text_terms.specs.Going.{IsTextOf}
use Rattle.report_terms.specs.Lines.{Line}
use Rattle.report_lines.specs.Reports.{Space, flat, solid, in_order, FirstBad}
use Rattle.report_lines.specs.Headings.{IsHeadingLine, IsNoBoxLine, IsNoHeadingLine, TakesHeading, IsOfNoBox, IsNoOpening}
use Rattle.report_lines.specs.Seen.{flat_line, solid_line}
use Rattle.report_lines.specs.declared.fault.ReportFault.{ReportFault}
use Rattle.report_lines.specs.declared.fault.ReportFault.TheVariants.{NotReport, ReadFault, NoMemory}
use Rattle.report_lines.specs.declared.opening.Opening.{Opening}
use Rattle.report_lines.specs.declared.opening.Opening.TheVariants.{Flat, Solid, NoBox}

-- what the bytes of the first line give
abbrev pub OpeningOf : List ℕ → Result Opening ReportFault → Type 0
OpeningOf bytes (Ok (Flat h)) = IsHeadingLine flat bytes (flat_line h.line)
OpeningOf bytes (Ok (Solid h)) = IsHeadingLine solid bytes (solid_line h.line)
OpeningOf bytes (Ok NoBox) = IsNoBoxLine bytes
OpeningOf bytes (Err (NotReport k)) = (k ≡ 1) × IsNoHeadingLine bytes
OpeningOf bytes (Err ReadFault) = ⊥
OpeningOf bytes (Err NoMemory) = ⊥

-- what taking the heading answers: of the bytes left before and now, and the count of faults of reading before and now
abbrev pub OpeningAnswer : (old new : Option (List ℕ)) (before now : ℕ) → Result Opening ReportFault → Type 0
OpeningAnswer old new before now (Ok (Flat h)) = IfTold old (λ bytes. TakesHeading flat bytes new (flat_line h.line))
OpeningAnswer old new before now (Ok (Solid h)) = IfTold old (λ bytes. TakesHeading solid bytes new (solid_line h.line))
OpeningAnswer old new before now (Ok NoBox) = IfTold old IsOfNoBox
OpeningAnswer old new before now (Err (NotReport k)) = (k ≡ 1) × IfTold old IsNoOpening
OpeningAnswer old new before now (Err ReadFault) = Rose before now
OpeningAnswer old new before now (Err NoMemory) = ⊥

-- why the lines behind the heading were not read to their end: of the text of the report, and the count of faults of reading before and now
abbrev pub Refused : Space → (text : Option (List ℕ)) (before now : ℕ) → ReportFault → Type 0
Refused s text before now (NotReport k) = IfTold text (λ t. FirstBad s t k)
Refused s text before now ReadFault = Rose before now
Refused s text before now NoMemory = ⊤

-- what reading the lines behind the heading answers: the text is a report in order, and `IsOf` holds of all its lines and the sketch
abbrev pub Reads : {S : Type 0} → Space → (IsOf : List Line → S → Type 0) → (text : Option (List ℕ)) (before now : ℕ) → Result S ReportFault → Type 0
Reads s IsOf text before now (Ok sketch) = IfTold text (IsTextOf (in_order s) (λ lines. IsOf lines sketch))
Reads s IsOf text before now (Err fault) = Refused s text before now fault
