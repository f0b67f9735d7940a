-- The lines of the thinning in a report: its events one after another, and behind them the counts of the points left.
-- Only the lines of this section stand here; how sections follow each other stands in `Sections`.
use Rattle.std.specs.Prelude.{◌≡◌, ℕ, List, [], length, filter_map, Option, Some, None}
use Rattle.shape_terms.specs.Pictures.{Picture}
use Rattle.shape_terms.specs.Parts.{Counts}
use Rattle.shape_terms.specs.Thinning.{Rule, Event, Stage, ThinsTo, IsThinned}
use Rattle.shape_terms.specs.Following.{IsNextEvent}
use Rattle.report_terms.specs.Lines.{Line}

-- ---- what the lines give

-- the event that a `del` or a `tip` line gives
abbrev pub event_of : Line → Option Event
event_of (Line.Del p) = Some (Event.Del p)
event_of (Line.Tip p) = Some (Event.Tip p)
event_of _ = None

abbrev pub events_of : List Line → List Event
events_of lines = filter_map event_of lines

-- how many object points there are, and how many components of the object and of the background
pub record PartsFact : Type 0 where
  pub points : ℕ
  pub object : ℕ
  pub background : ℕ

-- the counts that a `kept` line gives
abbrev pub kept_fact : Line → Option PartsFact
kept_fact (Line.Kept n o b) = Some (record { points = n; object = o; background = b })
kept_fact _ = None

abbrev pub kept_facts : List Line → List PartsFact
kept_facts lines = filter_map kept_fact lines

-- ---- claims

-- the claim of a `del` or `tip` line: before the `kept` line, it gives the next event of the thinning by the rule
pub record IsEventLine (rule : Rule) (X : Picture) (before : List Line) (e : Event) : Type 0 where
  pub early : kept_facts before ≡ []
  pub next : IsNextEvent rule X (events_of before) e

-- the claim of the `kept` line: after the events no unmarked simple point is left, and it gives the counts of the points left
pub record IsKeptLine (rule : Rule) (X : Picture) (before : List Line) (n o b : ℕ) : Type 0 where
  pub early : kept_facts before ≡ []
  pub stage : Stage
  pub thins : ThinsTo rule X (events_of before) stage
  pub all : IsThinned stage
  pub counts : Counts stage.left n o b

-- the claim of a line of the thinning of the picture by the rule, after the lines of the thinning before it
abbrev pub ThinningClaim : Rule → Picture → List Line → Line → Type 0
ThinningClaim rule X before (Line.Del p) = IsEventLine rule X before (Event.Del p)
ThinningClaim rule X before (Line.Tip p) = IsEventLine rule X before (Event.Tip p)
ThinningClaim rule X before (Line.Kept n o b) = IsKeptLine rule X before n o b
ThinningClaim rule X before _ = ⊥

-- the points left are counted, and so all events have come
abbrev pub ThinningComplete : List Line → Type 0
ThinningComplete lines = length (kept_facts lines) ≡ 1
