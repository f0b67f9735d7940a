-- What the program shows of each outcome.
-- The table of statuses, texts and numbers, one case a line.
use Rattle.std.specs.Prelude.{ℕ, List, [], ◌∷◌, ◌++◌, codes, flat_map, Option, None, Some}
use Rattle.shape_picture.specs.declared.fault.PictureFault.{PictureFault}
use Rattle.shape_picture.specs.declared.fault.PictureFault.TheVariants as fault
use Rattle.shape_picture.specs.declared.fault.PictureError.{PictureError}
use Rattle.shape_picture.specs.declared.fault.PictureError.TheVariants as error
use Rattle.report_text.specs.declared.answer.Judgement.{Judgement}
use Rattle.report_text.specs.declared.answer.Judgement.TheVariants as judgement
use Rattle.shape_cli.specs.Abouts.{About}
use Rattle.shape_cli.specs.Further.{FurtherKind, further_kinds, row_of}
use Rattle.shape_cli.specs.declared.outcome.Outcome.{Outcome}
use Rattle.shape_cli.specs.declared.outcome.Outcome.TheVariants as outcome

-- the exit status
abbrev pub status_of : Outcome → ℕ
status_of outcome.Done = 0
status_of outcome.Yes = 0
status_of (outcome.No k) = 1
status_of outcome.Usage = 2
status_of (outcome.Picture f) = 3
status_of outcome.ReadFault = 4
status_of outcome.WriteFault = 5
status_of outcome.NoMemory = 6

abbrev pub fault_message : PictureFault → List ℕ
fault_message fault.NotPlain = codes "not a PBM"
fault_message (fault.BadNumber i) = codes "bad header byte at"
fault_message fault.ZeroSide = codes "a side is zero"
fault_message (fault.SideTooLarge v) = codes "a side is too large:"
fault_message (fault.BadByte i) = codes "bad pixel at"
fault_message (fault.Short i) = codes "picture ends early at"
fault_message fault.TooLong = codes "picture is too long"
fault_message fault.Trailing = codes "bytes after the volume"

-- the words of the sources of such pictures, as they are told to a user
abbrev pub source_forms : About → List (List ℕ)
source_forms About.Every = codes " pbm FILE" ∷ codes " raw X Y Z FILE" ∷ []
source_forms About.Flat = codes " pbm FILE" ∷ []

-- the forms of the words that begin so, for each of these sources, with these words last
abbrev pub forms_of : (first last : List ℕ) → About → List ℕ
forms_of first last about = flat_map (λ source. codes ", " ++ (first ++ (source ++ last))) (source_forms about)

-- the forms of the words for a report of a further kind, and for its check
abbrev pub further_forms : FurtherKind → List ℕ
further_forms kind = forms_of (row_of kind).word [] (row_of kind).about ++ forms_of (codes "check" ++ (row_of kind).word) (codes " REPORT") (row_of kind).about

-- the forms of the words that make something of a report, which other calls of the program take
abbrev pub product_forms : List ℕ
product_forms = codes
    ", draw [labels|contours|measures] REPORT, draw REPORT FURTHER, measure [moments] [thickness] [spacing X Y Z] REPORT, measure whole REPORT, mask skeleton|object|distances|squares|thickness REPORT"

-- the forms of the words of all commands, and last of those that make something of a report
abbrev pub usage_text : List ℕ
usage_text = codes "usage: analyse pbm FILE RULE, analyse raw X Y Z FILE RULE, check pbm FILE REPORT, check raw X Y Z FILE REPORT, trial pbm SEED SIDE, trial raw SEED SIDE" ++ (flat_map further_forms further_kinds ++ product_forms)

-- the text on standard error
abbrev pub message_of : Outcome → List ℕ
message_of outcome.Done = []
message_of outcome.Yes = []
message_of (outcome.No k) = []
message_of outcome.Usage = usage_text
message_of (outcome.Picture f) = fault_message f
message_of outcome.ReadFault = codes "read failed"
message_of outcome.WriteFault = codes "write failed"
message_of outcome.NoMemory = codes "no memory"

-- the number of a fault: the place of a byte, or the value of a side
abbrev pub fault_place : PictureFault → Option ℕ
fault_place (fault.BadNumber i) = Some i
fault_place (fault.SideTooLarge v) = Some v
fault_place (fault.BadByte i) = Some i
fault_place (fault.Short i) = Some i
fault_place _ = None

-- the number behind the text
abbrev pub number_of : Outcome → Option ℕ
number_of (outcome.Picture f) = fault_place f
number_of _ = None

-- the outcome where there is no picture
abbrev pub refusal_of : PictureError → Outcome
refusal_of (error.Bad f) = outcome.Picture f
refusal_of error.ReadFault = outcome.ReadFault
refusal_of error.NoMemory = outcome.NoMemory

-- the outcome of a verdict that was written
abbrev pub outcome_of : Judgement → Outcome
outcome_of judgement.Yes = outcome.Yes
outcome_of (judgement.No k) = outcome.No k
