-- The greatest balls that the squared distances of a picture tell are those of its local thickness.
-- Lists and pictures alone.
use Rattle.std.proofs.Common.{◌≡◌, ℕ, List, map, sym, subst}
use Rattle.shape_terms.specs.Pictures.{Picture}
use Rattle.report_lines.specs.Reports.{Space}
use Rattle.report_lines.specs.Tells.{StandsIn, AreSquares}
use Rattle.report_lines.specs.Made.{IsSpace}
use Rattle.measure_terms.specs.Thickness.{AreThicknesses}
use Rattle.shape_thickness.specs.Greatest.{greatest_squares}
use Rattle.masking.specs.Pictures.{told_square}
use Rattle.masking.proofs.ThicknessLaws.{told_same, small, thicknesses, thick}

-- the balls of the squares of a picture have its thicknesses
unfoldable pub AreBalls : Picture → List ℕ → Type 0
AreBalls X squares = AreThicknesses X (greatest_squares X (map told_square squares))

balls_are : (s : Space) → IsSpace s → (X : Picture) → StandsIn s X → (squares : List ℕ) → AreSquares X squares → AreBalls X squares
unfolding AreBalls thicknesses
balls_are s known X stands squares are =
    subst (λ (ns : List ℕ). AreThicknesses X (greatest_squares X ns)) (sym (told_same squares (small s known X stands squares are)))
    (thick s known X stands squares are)

pub balls_of : (s : Space) → IsSpace s → (X object : Picture) → StandsIn s X → object ≡ X → (squares : List ℕ) → AreSquares X squares → AreBalls object squares
balls_of s known X object stands e squares are = subst (λ (Y : Picture). AreBalls Y squares) (sym e) (balls_are s known X stands squares are)
