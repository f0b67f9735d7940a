-- The bytes that tell the numbers of the whole object of a report, and which bytes are made of a report where words ask for something.
-- What the numbers are, and how they are spelled, stands in `measure_terms`.
use Rattle.std.specs.Prelude.{ℕ, List, Option, Some, None}
use Rattle.shape_desk.specs.Desk.{DeskState}
use Rattle.report_lines.specs.Runs.{Ran, RanSolid}
use Rattle.report_lines.specs.declared.outcome.Outcome.{Outcome}
use Rattle.measuring.specs.declared.spacing.Spacing.{Spacing}
use Rattle.report_lines.specs.Said.{said}
use Rattle.report_lines.specs.Made.{Maker}
use Rattle.measure_terms.specs.Whole.{IsWholeText}
use Rattle.measure_report.specs.TableTexts.{IsTableText}
use Rattle.measure_report.specs.declared.wanted.Wanted.{Wanted}
use Rattle.measure_report.specs.declared.wanted.Wanted.TheVariants.{Table, Whole}

-- the bytes tell the numbers of the object that the lines give, in a box with d axes
abbrev pub IsWholeMade : Maker
IsWholeMade d lines bytes = IsWholeText d (said lines).object bytes

-- which bytes are made
abbrev pub made_of : Wanted → Maker
made_of (Table g) = IsTableText g
made_of Whole = IsWholeMade

-- what a run did, which makes a table by a spacing of volumes alone
abbrev pub ran_by : Option Spacing → Maker → List ℕ → DeskState → DeskState → Outcome → Type 0
ran_by None make name old new o = Ran make name old new o
ran_by (Some s) make name old new o = RanSolid make name old new o

-- what a run did where words ask for something of the report in the file with this name
abbrev pub RanFor : Wanted → List ℕ → DeskState → DeskState → Outcome → Type 0
RanFor (Table g) name old new o = ran_by g.spacing (IsTableText g) name old new o
RanFor Whole name old new o = Ran IsWholeMade name old new o
