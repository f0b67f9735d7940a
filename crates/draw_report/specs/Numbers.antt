-- The layer of numbers: of each object its number in the table, with its middle at the deepest point.
-- Lengths are thousandths of a pixel. Another look is a change of texts here and of the same texts in `numbers.rt`.
use Rattle.std.specs.Prelude.{ℕ, ◌+◌, ◌*◌, ◌/◌, List, [], ◌++◌, codes, length, nat_abs, slice_index, slice_index_or}
use Rattle.std.specs.List.{flat_map, range_with_len}
use Rattle.std.specs.Option.{unwrap_or}
use Rattle.std.specs.Fmt.{decimal}
use Rattle.shape_terms.specs.Points.{Point, coordinate}
use Rattle.measure_terms.specs.Measures.{Measures}
use Rattle.drawing.specs.Svg.{scale}

-- the deepest point of an object, and the origin where it has no point
abbrev pub deepest_point : Measures → Point
deepest_point m = unwrap_or m.deepest []

-- the text that opens a number at x and y
abbrev pub place_text : (x y : ℕ) → List ℕ
place_text x y = codes "<text x=\"" ++ (decimal (1000 * x) ++ (codes "\" y=\"" ++ decimal (1000 * y)))

-- a number with its middle at x and y
abbrev pub number_text : (n x y : ℕ) → List ℕ
number_text n x y = place_text x y ++ (codes "\" dy=\".35em\">" ++ (decimal n ++ codes "</text>\n"))

-- a number at a point
abbrev pub number_at : ℕ → Point → List ℕ
number_at n p = number_text n (nat_abs (coordinate p 0)) (nat_abs (coordinate p 1))

-- the numbers from 1 on, one at each of the points
abbrev pub numbered : List Point → ℕ → List ℕ
numbered ps k = number_at (k + 1) (slice_index_or ps k [])

abbrev pub numbers_text : List Point → List ℕ
numbers_text ps = flat_map (numbered ps) (range_with_len 0 (length ps))

-- the height of the digits of a picture with these sides: sixteen points of the screen
abbrev pub digit_size : ℕ → ℕ → ℕ
digit_size w h = 16000 / scale w h

-- the text that opens the layer: digits in purple, with a white outline
abbrev pub opening : ℕ → List ℕ
opening size = codes "<g transform=\"scale(.001)\" font-family=\"sans-serif\" font-size=\""
    ++ (decimal size ++ codes "\" font-weight=\"bold\" text-anchor=\"middle\" fill=\"#909\" stroke=\"#fff\" stroke-width=\".2em\" paint-order=\"stroke\">\n")

-- the layer on a picture with these sides
abbrev pub number_layer : List ℕ → List Point → List ℕ
number_layer sides ps = opening (digit_size (slice_index sides 0) (slice_index sides 1)) ++ (numbers_text ps ++ codes "</g>\n")
