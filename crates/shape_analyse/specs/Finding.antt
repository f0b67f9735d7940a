-- What is found of a picture before a line of its report is told.
-- How the lines follow one another, `Growing` says.
use Rattle.std.specs.Prelude.{◌≡◌, ℕ, List, ◌++◌, Some, length, slice_get}
use Rattle.shape_terms.specs.Pictures.{Picture, object_points}
use Rattle.shape_terms.specs.Parts.{Counts}
use Rattle.shape_terms.specs.Points.{Point}
use Rattle.shape_terms.specs.Distances.{AreFeatures}
use Rattle.shape_terms.specs.Thinning.{Rule, Stage, IsThinning}
use Rattle.shape_terms.specs.Shelves.{Named, rules_of}
use Rattle.report_terms.specs.Subjects.{IsOnShelf}
use Rattle.shape_thin.specs.Runs.{Run}
use Rattle.shape_thin.specs.Laws.{KeepsParts}
use Rattle.shape_analyse.specs.declared.tally.Extent.{Extent}
use Rattle.shape_analyse.specs.Growing.{aim_of, HasNears, HasSurveyed}
use Rattle.shape_analyse.specs.Tallies.{IsExtentOf}

-- the text is that of the outline of a picture of d axes: behind all lines before those of contours it comes to all lines before those of the thinning
abbrev pub IsOutlineOf : ℕ → Picture → List ℕ → Type 0
IsOutlineOf d X text = (shelf : List (Named Rule)) (name : List ℕ) (by : Rule) (before : List ℕ) → HasNears (aim_of X shelf name by) before
    → HasSurveyed d (aim_of X shelf name by) (before ++ text)

-- what was found of a picture: the name of the rule it was thinned by, how many components its object and its background have, the nearest
-- background points, the text of its outline and the extent of that, and its thinning
pub record Found : Type 0 where
  pub picture : Picture
  pub rule : List ℕ
  pub object : ℕ
  pub background : ℕ
  pub nears : List Point
  pub outline : List ℕ
  pub extent : Extent
  pub run : Run

-- what was found is so of the picture of d axes, whatever the rule
pub record AreFound (d : ℕ) (f : Found) : Type 0 where
  pub counts : Counts f.picture (length (object_points f.picture)) f.object f.background
  pub nears : AreFeatures f.picture f.nears
  pub outline : IsOutlineOf d f.picture f.outline
  pub extent : IsExtentOf f.picture f.extent
  pub kept : KeepsParts f.picture f.run.left

-- the run is the thinning of the picture by the rule
pub record IsThinnedBy (rule : Rule) (X : Picture) (run : Run) : Type 0 where
  pub stage : Stage
  pub thinning : IsThinning rule X run.events stage
  pub left : stage.left ≡ run.left

-- what was found is about the picture, which was thinned by the entry of the shelf that was asked for
pub record AreFindingsOf (X : Picture) (names : List (List ℕ)) (rules : List (Named Rule)) (which : ℕ) (f : Found) : Type 0 where
  pub about : f.picture ≡ X
  pub named : slice_get names which ≡ Some f.rule
  pub by : Rule
  pub on_shelf : IsOnShelf rules f.rule by
  pub entry : (rule : Rule) → slice_get (rules_of rules) which ≡ Some rule → by ≡ rule
  pub thinned : IsThinnedBy by f.picture f.run
