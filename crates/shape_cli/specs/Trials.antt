-- The line of a trial: the numbers of the picture that a seed gives, and of its thinning by the last rule on the shelf.
-- The line is a function of the seed, the side and that rule; how the program comes to its numbers is told nowhere here.
use Rattle.std.specs.Prelude.{◌≡◌, ◌++◌, ◌-◌, ℕ, List, codes, length, slice_get, Some}
use Rattle.std.specs.Fmt.{decimal}
use Rattle.shape_terms.specs.Pictures.{Picture}
use Rattle.shape_terms.specs.Thinning.{Rule}
use Rattle.shape_terms.specs.Shelves.{Named, rules_of}
use Rattle.shape_grid.specs.Balls.{ball_picture}
use Rattle.shape_analyse.specs.Tallies.{IsTallyOf}
use Rattle.shape_analyse.specs.declared.tally.Tally.{Tally}
use Rattle.shape_analyse.specs.declared.tally.Extent.{Extent}
use Rattle.shape_analyse.specs.declared.tally.Extent.TheVariants as extent
use Rattle.shape_cli.specs.Sources.{Kind}

-- the picture that a seed gives: of two axes, or of three
abbrev pub trial_picture : Kind → (seed side : ℕ) → Picture
trial_picture Kind.Flat seed side = ball_picture 2 seed side
trial_picture Kind.Solid seed side = ball_picture 3 seed side

-- the numbers from the components on that the line of a trial ends in
abbrev pub thinned_text : Tally → List ℕ
thinned_text t = codes " events " ++ (decimal t.events ++ (codes " kept " ++ (decimal t.kept ++ codes " yes\n")))

-- and the numbers before them, behind those of the outline's kind
abbrev pub counted_text : (seed side : ℕ) → Tally → List ℕ
counted_text seed side t =
    decimal seed ++ (codes " "
    ++ (decimal side ++ (codes " points " ++ (decimal t.points ++ (codes " parts " ++ (decimal t.parts.object ++ (codes " " ++ decimal t.parts.background)))))))

-- the line of a trial with these numbers
abbrev pub trial_text : (seed side : ℕ) → Tally → Extent → List ℕ
trial_text seed side t (extent.Contours n m) =
    codes "trial pbm " ++ (counted_text seed side t ++ (codes " contours " ++ (decimal n ++ (codes " segments " ++ (decimal m ++ thinned_text t)))))
trial_text seed side t (extent.Faces n) = codes "trial raw " ++ (counted_text seed side t ++ (codes " exposed " ++ (decimal n ++ thinned_text t)))

-- the numbers are those of the picture of a seed, and of its thinning by the last rule on the shelf
pub record IsTriedBy (shelf : List (Named Rule)) (kind : Kind) (seed side : ℕ) (t : Tally) : Type 0 where
  pub rule : Rule
  pub last : slice_get (rules_of shelf) (length shelf - 1) ≡ Some rule
  pub right : IsTallyOf (trial_picture kind seed side) rule t

-- the text is the line of these numbers
abbrev pub IsTrialLine : List (Named Rule) → Kind → (seed side : ℕ) → List ℕ → Type 0
IsTrialLine shelf kind seed side text = (t : Tally) × IsTriedBy shelf kind seed side t × (text ≡ trial_text seed side t t.extent)
