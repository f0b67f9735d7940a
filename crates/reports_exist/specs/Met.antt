-- What it is that a kind of report is met by some text, that a picture has counts, covers or thinnings, and which sides pictures have.
-- Which kinds are met, and which pictures have these, the laws of `src` say.
use Rattle.std.specs.Prelude.{ℕ, List, map, pos, All}
use Rattle.shape_terms.specs.Points.{AreSides}
use Rattle.shape_terms.specs.Pictures.{Picture}
use Rattle.shape_terms.specs.Parts.{Counts}
use Rattle.shape_terms.specs.Thinning.{Rule, Event, Stage, IsThinning}
use Rattle.shape_terms.specs.Traces.{Contour, AreContours}
use Rattle.shape_line.specs.Found.{Found, IsCoverOf}
use Rattle.text_terms.specs.Reports.{Report, Holds}

-- some text holds as such a report
abbrev pub IsMet : {L : Type 0} → Report L → Type 0
IsMet R = (text : List ℕ) × Holds R text

-- the picture has its counts: those of its object points, of the components of its object and of those of its background
abbrev pub HasCounts : Picture → Type 0
HasCounts X = (n : ℕ) × (o : ℕ) × (b : ℕ) × Counts X n o b

-- the picture has a thinning by the rule
abbrev pub HasThinning : Rule → Picture → Type 0
HasThinning rule X = (events : List Event) × (s : Stage) × IsThinning rule X events s

-- the picture has contours, and each of them has its cover: its maximal straight runs, each with a least line, and evidence for each gap
pub record HasCovers (X : Picture) : Type 0 where
  pub contours : List Contour
  pub are : AreContours X contours
  pub covers : All (λ c. (found : List Found) × IsCoverOf c.points found) contours

-- each side of the picture is from 1 to the greatest
abbrev pub HasSidesTo : ℕ → Picture → Type 0
HasSidesTo greatest X = AreSides (pos greatest) (map pos X.sides)
