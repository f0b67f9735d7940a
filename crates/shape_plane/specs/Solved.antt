-- What slopes and clashes say of the pairs of a list of points.
-- How they are found belongs elsewhere.
use Rattle.std.specs.Prelude.{ℕ, List, ℤ, take, Option, Some, None}
use Rattle.shape_terms.specs.Points.{Point}
use Rattle.shape_terms.specs.Refutations.{Refutation as Weights}
use Rattle.shape_refute.specs.declared.refutation.Refutation.{Refutation}
use Rattle.shape_refute.specs.Weights.{refutation_of}
use Rattle.shape_plane.specs.declared.pair.Pair.{Pair}
use Rattle.shape_plane.specs.declared.answer.Slopes.{Slopes as Coefficients}
use Rattle.shape_plane.specs.declared.answer.Solved.{Solved}
use Rattle.shape_plane.specs.declared.answer.Solved.TheVariants.{Slopes, Clash}
use Rattle.shape_plane.specs.Pairs.{AreSlopes, AreSmallCoefficients}
use Rattle.shape_plane.specs.Weighing.{AreWeights}

-- weights of places of the pairs that refute the points, where no proper slopes meet the pairs
pub record IsClash (d t : ℕ) (points : List Point) (pairs : List Pair) (why : Weights) : Type 0 where
  pub weights : AreWeights d t points pairs why
  pub none : (a : List ℤ) → AreSlopes t points pairs a → ⊥

-- the answer is right for the axis t in a space of d axes
abbrev pub IsSolved : ℕ → ℕ → List Point → List Pair → Solved → Type 0
IsSolved d t points pairs (Slopes s) = AreSlopes t points pairs (take d s.a) × AreSmallCoefficients d s.a
IsSolved d t points pairs (Clash why) = IsClash d t points pairs (refutation_of why)

-- the same of slopes, or of none and the weights
abbrev pub IsFound : ℕ → ℕ → List Point → List Pair → Option Coefficients → Refutation → Type 0
IsFound d t points pairs (Some s) why = AreSlopes t points pairs (take d s.a) × AreSmallCoefficients d s.a
IsFound d t points pairs None why = IsClash d t points pairs (refutation_of why)

abbrev pub solved_by : Option Coefficients → Refutation → Solved
solved_by (Some s) why = Slopes s
solved_by None why = Clash why
