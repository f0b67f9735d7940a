-- What the judge of a thinning stands for: the lines of the section that it has taken.
-- How it follows the events is handed in.
use Rattle.std.specs.Prelude.{◌≡◌, ℕ, Bool, true, false, List, [], length}
use Rattle.shape_terms.specs.Points.{box_count}
use Rattle.shape_terms.specs.Pictures.{Picture}
use Rattle.shape_terms.specs.Parts.{Counts}
use Rattle.shape_terms.specs.Thinning.{Rule, Event}
use Rattle.report_terms.specs.Lines.{Line}
use Rattle.report_terms.specs.ThinningLines.{events_of, kept_facts}
use Rattle.shape_check.specs.Rows.{HasTaken}

-- the events were followed from the opening state of the rule to its state now; before the rule began there is none
abbrev pub HasFollowed : (begun : Bool) → (Follows : List Event → List ℕ → Type 0) → (opening now : List ℕ) → List Event → Type 0
HasFollowed false Follows opening now events = (events ≡ []) × Follows [] opening
HasFollowed true Follows opening now events = Follows events now

-- the picture has a value for each point, and these components; its events were followed so far, and the `kept` line was taken or not
pub record Thins (X : Picture) (by : Rule) (Follows : List Event → List ℕ → Type 0) (begun kept : Bool) (object background : ℕ) (now : List ℕ)
    (lines : List Line) : Type 0 where
  pub filled : length X.values ≡ box_count X.sides
  pub points : ℕ
  pub counts : Counts X points object background
  pub followed : HasFollowed begun Follows by.opening now (events_of lines)
  pub taken : HasTaken kept (kept_facts lines)
