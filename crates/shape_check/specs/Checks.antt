-- What checking a report of a picture answers.
-- It is said for every kind of report in `report_text`; here for the analysis.
use Rattle.std.specs.Prelude.{ℕ, List, Option}
use Rattle.shape_desk.specs.Desk.{DeskState}
use Rattle.text_terms.specs.Going as Texts
use Rattle.report_text.specs.Checks as Reports
use Rattle.report_text.specs.Checks.{Answer}
use Rattle.report_terms.specs.Subjects.{Subject}
use Rattle.report_terms.specs.Sections.{analysis}

-- `text` is the bytes of the report, where they are told; then the count of faults of reading before and now.
-- Yes: the text holds of the picture. No: the line is the first bad one. A fault of reading: the count rose.
abbrev pub Checks : Subject → Option (List ℕ) → (before now : ℕ) → Answer → Type 0
Checks X text before now answer = Reports.Checks (analysis X) text before now answer

-- of the text, some good lines and at most 2048 bytes more were taken, and the rest is left at the place
abbrev pub TakesFew : Subject → (text : List ℕ) → (left : Option (List ℕ)) → Type 0
TakesFew X text left = Texts.TakesFew (analysis X) text left

-- a check against X of a report with this text, where it is told, led from one state of the desk to the next: what was
-- answered, and how much of the text was taken
abbrev pub HasChecked : Subject → (text : Option (List ℕ)) → (old new : DeskState) → Answer → Type 0
HasChecked X text old new result = Reports.HasChecked (analysis X) text old new result
