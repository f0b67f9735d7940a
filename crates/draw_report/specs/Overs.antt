-- What a run did that draws a further report over the object of an analysis, outcome by outcome.
-- Which drawing that is, and why there is none, stands in `Answers`.
use Rattle.std.specs.Prelude.{◌⊎◌, ℕ, List}
use Rattle.shape_desk.specs.Desk.{DeskState, Rose, IsMissing, Puts, PutsFront}
use Rattle.shape_desk.specs.Files.{OfFile, IsSilent}
use Rattle.report_lines.specs.Outcomes as Making
use Rattle.report_lines.specs.declared.outcome.Outcome.{Outcome}
use Rattle.report_lines.specs.declared.outcome.Outcome.TheVariants as outcome
use Rattle.draw_report.specs.Answers.{OfFiles, AreDrawnAs, AreNotOver, IsNoAnalysis}
use Rattle.draw_report.specs.declared.fault.OverFault.{OverFault}
use Rattle.draw_report.specs.declared.fault.OverFault.TheVariants as fault

-- the outcome where nothing is drawn
abbrev pub refusal_of : OverFault → Outcome
refusal_of (fault.Analysis why) = Making.refusal_of why
refusal_of (fault.NotOver k) = outcome.NotOver k
refusal_of fault.ReadFault = outcome.ReadFault
refusal_of fault.NoMemory = outcome.NoMemory

-- the drawing of the one report over the other was written
pub record WritesOver (analysis further : List ℕ) (old new : DeskState) : Type 0 where
  pub svg : List ℕ
  pub drawn : OfFiles old analysis further (λ a b. AreDrawnAs a b svg)
  pub puts : Puts old.written new.written svg

-- a write failed, and a front of the drawing was written
pub record CutsOver (analysis further : List ℕ) (old new : DeskState) : Type 0 where
  pub svg : List ℕ
  pub drawn : OfFiles old analysis further (λ a b. AreDrawnAs a b svg)
  pub puts : PutsFront old.written new.written svg
  pub cause : Rose old.write_faults new.write_faults

-- a call that reads failed, or one of the files is missing
abbrev pub IsUnread : (analysis further : List ℕ) → DeskState → DeskState → Type 0
IsUnread analysis further old new = Rose old.read_faults new.read_faults ⊎ (IsMissing old.files analysis ⊎ IsMissing old.files further)

-- what a run did for the two files, outcome by outcome
abbrev pub RanOver : (analysis further : List ℕ) → DeskState → DeskState → Outcome → Type 0
RanOver analysis further old new outcome.Done = WritesOver analysis further old new
RanOver analysis further old new outcome.Usage = ⊥
RanOver analysis further old new (outcome.NotReport k) = OfFile old.files analysis (IsNoAnalysis k) × IsSilent old new
RanOver analysis further old new (outcome.NotOver k) = OfFiles old analysis further (λ a b. AreNotOver a b k) × IsSilent old new
RanOver analysis further old new outcome.TooLarge = ⊥
RanOver analysis further old new outcome.NotSolid = ⊥
RanOver analysis further old new outcome.NotFlat = ⊥
RanOver analysis further old new outcome.ReadFault = IsUnread analysis further old new × IsSilent old new
RanOver analysis further old new outcome.WriteFault = CutsOver analysis further old new
RanOver analysis further old new outcome.NoMemory = IsSilent old new
