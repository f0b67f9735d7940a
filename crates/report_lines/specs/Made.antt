-- What is made of a report, and why nothing is.
-- What is made is told by the lines and the number of axes.
use Rattle.std.specs.Prelude.{◌≡◌, ◌⊎◌, ◌<◌, ◌≤◌, ℕ, ⊤, List, length, Option, Result, Ok, Err}
use Rattle.shape_desk.specs.Desk.{Rose}
use Rattle.shape_desk.specs.Line.{IfTold}
use Rattle.report_terms.specs.Lines.{Line}
use Rattle.report_lines.specs.Reports.{Space, flat, solid, IsReport, FirstBad}
use Rattle.report_lines.specs.Said.{Said, said}
use Rattle.report_lines.specs.declared.fault.ReportFault.{ReportFault}
use Rattle.report_lines.specs.declared.fault.ReportFault.TheVariants.{NotReport, ReadFault, NoMemory}

-- which bytes are made of the lines of a report about a picture with so many axes
abbrev pub Maker : Type 1
Maker = ℕ → List Line → List ℕ → Type 0

-- just the bytes of a function of what the lines say of the points of their box
abbrev pub exactly : (ℕ → Said → List ℕ) → Maker
exactly f d lines bytes = bytes ≡ f d (said lines)

-- made so, about a picture with so many axes
abbrev pub about : ℕ → Maker → Maker
about axes make d lines bytes = make d lines bytes × (d ≡ axes)

-- made so, of a flat picture
abbrev pub flat_alone : Maker → Maker
flat_alone make d lines bytes = make d lines bytes × (d ≡ 2)

-- made so, and of a flat picture no more bytes than so many
abbrev pub up_to : ℕ → Maker → Maker
up_to most make d lines bytes = make d lines bytes × (d ≡ 2 → length bytes ≤ most)

-- made so, and not of a flat picture
abbrev pub of_volume : Maker → Maker
of_volume make d lines bytes = make d lines bytes × (d ≡ 2 → ⊥)

-- made so, of a flat picture, and more bytes than so many
abbrev pub beyond : ℕ → Maker → Maker
beyond most make d lines bytes = make d lines bytes × (d ≡ 2) × (most < length bytes)

-- the space is that of flat pictures or of volumes
abbrev pub IsSpace : Space → Type 0
IsSpace s = (s ≡ flat) ⊎ (s ≡ solid)

-- the text is a report of a flat picture or of a volume, and the bytes are made of its lines
pub record IsMadeOf (make : Maker) (text bytes : List ℕ) : Type 0 where
  pub space : Space
  pub known : IsSpace space
  pub lines : List Line
  pub report : IsReport space text lines
  pub made : make space.axes lines bytes

-- the text is a report of a volume
pub record IsSolidReport (text : List ℕ) : Type 0 where
  pub lines : List Line
  pub report : IsReport solid text lines

-- line k of the text is the first bad one: where it is the first of all, it is a heading of neither space
pub record IsNoReport (text : List ℕ) (k : ℕ) : Type 0 where
  pub space : Space
  pub known : IsSpace space
  pub bad : FirstBad space text k
  pub either : k ≡ 1 → FirstBad flat text 1 × FirstBad solid text 1

-- why nothing is made of a report: of its text, where it is told, and the count of faults of reading before and now
abbrev pub Refused : (text : Option (List ℕ)) (before now : ℕ) → ReportFault → Type 0
Refused text before now (NotReport k) = IfTold text (λ t. IsNoReport t k)
Refused text before now ReadFault = Rose before now
Refused text before now NoMemory = ⊤

-- what making bytes of a report answers
abbrev pub Makes : {V : Type 0} → (V → Maker) → (V → List ℕ) → (text : Option (List ℕ)) (before now : ℕ) → Result V ReportFault → Type 0
Makes make bytes text before now (Ok v) = IfTold text (λ t. IsMadeOf (make v) t (bytes v))
Makes make bytes text before now (Err fault) = Refused text before now fault
