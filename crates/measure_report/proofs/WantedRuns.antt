-- What a run did where words ask for something, by whether they ask for a spacing.
-- Laws over the relations of runs; no report is read here.
use Rattle.std.proofs.Common.{ℕ, List}
use Rattle.std.specs.Prelude.{Option, Some, None}
use Rattle.shape_desk.specs.Desk.{DeskState}
use Rattle.report_lines.specs.Made.{Maker}
use Rattle.report_lines.specs.declared.outcome.Outcome.TheVariants as outcome
use Rattle.measuring.specs.declared.spacing.Spacing.{Spacing}
use Rattle.measure_report.specs.Wholes.{ran_by, RanFor}
use Rattle.measure_report.specs.TableTexts.{IsTableText}
use Rattle.measure_report.specs.declared.wanted.Wanted.{Wanted}
use Rattle.measure_report.specs.declared.wanted.Wanted.TheVariants.{Table, Whole}

no_usage_by : (o : Option Spacing) (make : Maker) (name : List ℕ) (old new : DeskState) → ran_by o make name old new outcome.Usage → ⊥
no_usage_by None make name old new r = r
no_usage_by (Some s) make name old new r = r

-- words that ask for something are used well
pub no_usage : (w : Wanted) (name : List ℕ) (old new : DeskState) → RanFor w name old new outcome.Usage → ⊥
no_usage (Table g) name old new r = no_usage_by g.spacing (IsTableText g) name old new r
no_usage Whole name old new r = r
