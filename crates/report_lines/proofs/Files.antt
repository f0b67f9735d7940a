-- What a run did, from what its parts did.
-- Laws of desks and texts; no report is read here.
use Rattle.std.proofs.Common.{ℕ, ◌≤◌, inl, List, Option}
use Rattle.std.specs.Prelude.{Result, Ok, Err}
use Rattle.shape_desk.specs.Desk.{DeskState, IsAtFront, Rose}
use Rattle.report_lines.specs.declared.fault.ReportFault.{ReportFault}
use Rattle.report_lines.specs.declared.fault.ReportFault.TheVariants.{NotReport, ReadFault, NoMemory}
use Rattle.shape_desk.proofs.Begun.{of_file, rose_earlier}
use Rattle.report_lines.specs.Made.{Maker, IsMadeOf, IsNoReport, Refused, Makes}
use Rattle.report_lines.specs.Runs.{FileRefused, FileMade}

-- why nothing is made of a report, of the file that it is in
file_refused : (name : List ℕ) (old mid new : DeskState) (left : Option (List ℕ)) (fault : ReportFault) → IsAtFront old.files name left
    → (Rose mid.read_faults new.read_faults → Rose old.read_faults new.read_faults) → Refused left mid.read_faults new.read_faults fault
    → FileRefused name old new fault
file_refused name old mid new left (NotReport k) a rose h = of_file old.files name left (λ t. IsNoReport t k) a h
file_refused name old mid new left ReadFault a rose h = inl (rose h)
file_refused name old mid new left NoMemory a rose h = tt

-- what making bytes of a report answers, of the file that it is in
pub file_made : {V : Type 0} (make : V → Maker) (bytes : V → List ℕ) (name : List ℕ) (old mid new : DeskState) (left : Option (List ℕ))
    (r : Result V ReportFault) → IsAtFront old.files name left → old.read_faults ≤ mid.read_faults → Makes make bytes left mid.read_faults new.read_faults r
    → FileMade make bytes name old new r
file_made make bytes name old mid new left (Ok v) a l h = of_file old.files name left (λ t. IsMadeOf (make v) t (bytes v)) a h
file_made make bytes name old mid new left (Err fault) a l h =
    file_refused name old mid new left fault a (rose_earlier old.read_faults mid.read_faults new.read_faults l) h
