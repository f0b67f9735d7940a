-- Desks that never fail: the bytes of a picture and of a report.
-- What a desk tells and counts is defined in `Desk`.
use Rattle.std.specs.Prelude.{ℕ, true, List, None, Some, drop}
use Rattle.shape_desk.specs.declared.desk.Place.{Place}
use Rattle.shape_desk.specs.declared.desk.Place.TheVariants.{Picture, Report}
use Rattle.shape_desk.specs.declared.steady.Held.{Held}
use Rattle.shape_desk.specs.declared.steady.SteadyDesk.{SteadyDesk}
use Rattle.shape_desk.specs.Desk.{DeskState}
use Rattle.shape_desk.specs.Memory.{pick}

-- a desk with both places begun and these bytes left at them, which tells neither files nor output and counts no fault
abbrev pub steady : (picture report : List ℕ) → DeskState
steady picture report = record {
  files = None;
  left = λ place. Some (pick place picture report);
  begun = λ _. true;
  written = None;
  read_faults = 0;
  write_faults = 0;
}

-- the bytes left of those that are held
abbrev pub rest_of : Held → List ℕ
rest_of h = drop h.at h.bytes.items

-- all bytes of a place
abbrev pub bytes_of : SteadyDesk → Place → List ℕ
bytes_of d place = pick place d.picture.bytes.items d.report.bytes.items

-- the bytes left at a place
abbrev pub left_of : SteadyDesk → Place → List ℕ
left_of d place = pick place (rest_of d.picture) (rest_of d.report)

-- all that the desk tells and counts
abbrev pub state_of : SteadyDesk → DeskState
state_of d = steady (left_of d Picture) (left_of d Report)
