-- Balls as circles with their centres.
-- A ball whose centre lies outside the box is not drawn. Another look is a change of texts here and of the same texts in `balls`.
use Rattle.std.specs.Prelude.{ℕ, ℤ, ◌/◌, ◌%◌, List, ◌++◌, codes, filter, filter_map, flat_map, Option, Some, None}
use Rattle.std.specs.Fmt.{decimal, signed_decimal}
use Rattle.shape_terms.specs.Points.{Point, coordinate, in_box}
use Rattle.measure_terms.specs.Rounding.{root}
use Rattle.measure_terms.specs.Texts.{three_digits}
use Rattle.drawing.specs.Svg.{run_text, path}
use Rattle.draw_report.specs.Parts.{Mark}

-- a ball: its centre, and the square of its radius
pub record Ball : Type 0 where
  pub centre : Point
  pub square : ℕ

-- the ball that a mark is
abbrev pub ball_in : Mark → Option Ball
ball_in (Mark.Ball p n) = Some (record { centre = p; square = n })
ball_in _ = None

-- the balls with their centres in the box, in their order
abbrev pub balls_in : List ℕ → List Mark → List Ball
balls_in sides marks = filter (λ b. in_box sides b.centre) (filter_map ball_in marks)

-- a number of thousandths as a decimal number with three digits
abbrev pub thousandths : ℕ → List ℕ
thousandths n = decimal (n / 1000) ++ (codes "." ++ three_digits (n % 1000))

-- a coordinate behind the name of its attribute
abbrev pub field_text : (name : List ℕ) → ℤ → List ℕ
field_text name x = name ++ signed_decimal x

-- the centre of a circle: x and y
abbrev pub x_text : Point → List ℕ
x_text p = field_text (codes " cx=\"") (coordinate p 0)

abbrev pub y_text : Point → List ℕ
y_text p = field_text (codes "\" cy=\"") (coordinate p 1)

abbrev pub centre_text : Point → List ℕ
centre_text p = x_text p ++ y_text p

-- the circle of a ball; its radius is the root of the square, to a thousandth of a pixel
abbrev pub circle_text : Ball → List ℕ
circle_text b = codes "<circle" ++ (centre_text b.centre ++ (codes "\" r=\"" ++ (thousandths (root b.square) ++ codes "\"/>\n")))

-- all circles
abbrev pub circles_layer : List Ball → List ℕ
circles_layer bs = codes "<g stroke=\"#0072B2\" stroke-width=\".12\">\n" ++ (flat_map circle_text bs ++ codes "</g>\n")

-- a centre, as a run of one point
abbrev pub dot_text : Ball → List ℕ
dot_text b = run_text (record { first = b.centre; count = 1 })

-- all centres, each a small square
abbrev pub centres_layer : List Ball → List ℕ
centres_layer bs = path (codes "<path transform=\"translate(-.2)\" stroke=\"#D55E00\" stroke-width=\".4\" stroke-dasharray=\".4 .6\" d=\"")
    (flat_map dot_text bs)

-- the circles, and on them the centres
abbrev pub balls_layer : List Ball → List ℕ
balls_layer bs = circles_layer bs ++ centres_layer bs
