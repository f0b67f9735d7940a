-- That a point has one thickness, a picture one list of them, and that greatest balls tell them: statements over the definitions alone.
-- A law of the program is a function whose contract is one of these.
use Rattle.std.specs.Prelude.{◌≡◌, ◌≤◌, ℕ, List}
use Rattle.shape_terms.specs.Points.{Point}
use Rattle.shape_terms.specs.Pictures.{Picture}
use Rattle.shape_terms.specs.Parts.{Object}
use Rattle.shape_terms.specs.Thinning.{HasDistance}
use Rattle.shape_terms.specs.Distances.{AreDistances}
use Rattle.measure_terms.specs.Thickness.{IsThickness, AreThicknesses}
use Rattle.shape_thickness.specs.Greatest.{AreGreatest, greatest_squares}

-- a point has one thickness
abbrev pub OneThickness : Type 0
OneThickness = (X : Picture) (p : Point) (t u : ℕ) → IsThickness X p t → IsThickness X p u → t ≡ u

-- a picture has one list of thicknesses
abbrev pub OneList : Type 0
OneList = (X : Picture) (ts us : List ℕ) → AreThicknesses X ts → AreThicknesses X us → ts ≡ us

-- the thickness of an object point is no less than its squared distance to the background
abbrev pub NoThinner : Type 0
NoThinner = (X : Picture) (p : Point) (s t : ℕ) → Object X p → HasDistance X p s → IsThickness X p t → s ≤ t

-- where the squares are the squared distances to the background, the greatest squares are the thicknesses
abbrev pub GreatestAreThicknesses : Type 0
GreatestAreThicknesses = (X : Picture) (squares ts : List ℕ) → AreDistances X squares → AreGreatest X squares ts → AreThicknesses X ts

-- the greatest squares are those that the function tells
abbrev pub GreatestSquares : Type 0
GreatestSquares = (X : Picture) (squares ts : List ℕ) → AreGreatest X squares ts → ts ≡ greatest_squares X squares
