-- What the cosine of a matrix's angle and the size of its sine go by.
-- How they are found is not told here.
use Rattle.std.specs.Prelude.{ℕ, ℤ, ◌+◌, neg_ℤ}
use Rattle.measure_terms.specs.Ellipse.{square}
use Rattle.measuring.specs.Turns.{IsPartBelow}
use Rattle.measuring.specs.declared.matrix.Matrix.{Matrix}
use Rattle.measuring.specs.declared.axis_turn.Part.{Part}
use Rattle.measuring.specs.declared.axis_turn.Part.TheVariants.{Cosine, Sine}

-- how far the vector of twice the angle reaches along x, or the other way
abbrev pub along : Part → Matrix → ℤ
along Cosine a = a.double_x
along Sine a = neg_ℤ a.double_x

-- the part is less than r and a half
abbrev pub IsLess : Part → Matrix → ℕ → Type 0
IsLess part a r = IsPartBelow (along part a) (square a.double_x + square a.double_y) r
