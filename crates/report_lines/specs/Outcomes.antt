-- What a program shows of each outcome.
-- The table of statuses, texts and numbers, one case a line; the text of `Usage` is the program's own.
use Rattle.std.specs.Prelude.{ℕ, List, [], codes, Option, None, Some}
use Rattle.report_lines.specs.declared.fault.ReportFault.{ReportFault}
use Rattle.report_lines.specs.declared.fault.ReportFault.TheVariants as fault
use Rattle.report_lines.specs.declared.outcome.Outcome.{Outcome}
use Rattle.report_lines.specs.declared.outcome.Outcome.TheVariants as outcome

-- the exit status
abbrev pub status_of : Outcome → ℕ
status_of outcome.Done = 0
status_of outcome.Usage = 2
status_of (outcome.NotReport k) = 3
status_of (outcome.NotOver k) = 3
status_of outcome.TooLarge = 3
status_of outcome.NotSolid = 3
status_of outcome.NotFlat = 3
status_of outcome.ReadFault = 4
status_of outcome.WriteFault = 5
status_of outcome.NoMemory = 6

-- the text on standard error, of a program with this usage
abbrev pub message_of : List ℕ → Outcome → List ℕ
message_of usage outcome.Done = []
message_of usage outcome.Usage = usage
message_of usage (outcome.NotReport k) = codes "not a report at"
message_of usage (outcome.NotOver k) = codes "the second is no report over the first at"
message_of usage outcome.TooLarge = codes "the drawing is too large; draw contours draws the contours alone"
message_of usage outcome.NotSolid = codes "the report is of a flat picture; spacing is for volumes"
message_of usage outcome.NotFlat = codes "the report is one of a volume; draw measures draws flat pictures alone"
message_of usage outcome.ReadFault = codes "read failed"
message_of usage outcome.WriteFault = codes "write failed"
message_of usage outcome.NoMemory = codes "no memory"

-- the number behind the text: that of a line
abbrev pub number_of : Outcome → Option ℕ
number_of (outcome.NotReport k) = Some k
number_of (outcome.NotOver k) = Some k
number_of _ = None

-- the outcome where nothing is made
abbrev pub refusal_of : ReportFault → Outcome
refusal_of (fault.NotReport k) = outcome.NotReport k
refusal_of fault.ReadFault = outcome.ReadFault
refusal_of fault.NoMemory = outcome.NoMemory
