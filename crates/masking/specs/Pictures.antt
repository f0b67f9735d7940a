-- The bytes of raw pictures: of Netpbm for flat pictures, and of volumes, a number for each voxel.
-- Another form of file is one more definition here.
use Rattle.std.specs.Prelude.{ℕ, ◌+◌, ◌*◌, ◌/◌, ◌%◌, min, pos, Bool, if◌then◌else◌, List, [], ◌∷◌, ◌++◌, codes, map, slice_index_or}
use Rattle.std.specs.List.{flat_map, range_with_len}
use Rattle.std.specs.Fmt.{decimal}
use Rattle.shape_terms.specs.Pictures.{Picture, at}
use Rattle.shape_thickness.specs.Greatest.{greatest_squares}
use Rattle.masking.specs.Roots.{root}

-- the side of a box on an axis
abbrev pub side : List ℕ → ℕ → ℕ
side sides k = slice_index_or sides k 0

-- the front of a raw picture of Netpbm: its magic word and its sides
abbrev pub header : (magic : List ℕ) → (width height : ℕ) → List ℕ
header magic width height = magic ++ (codes "\n" ++ (decimal width ++ (codes " " ++ (decimal height ++ codes "\n"))))

-- ---- bits

-- a weight, where the pixel is an object point
abbrev pub weight : Picture → (y x w : ℕ) → ℕ
weight X y x w = if at X (pos x ∷ pos y ∷ []) then w else 0

-- the byte of eight pixels of a row, the first of them as its highest bit; past the row there are no object points
abbrev pub eight : Picture → (y x : ℕ) → ℕ
eight X y x = weight X y x 128 + (weight X y (x + 1) 64 + (weight X y (x + 2) 32 + (weight X y (x + 3) 16
    + (weight X y (x + 4) 8 + (weight X y (x + 5) 4 + (weight X y (x + 6) 2 + weight X y (x + 7) 1))))))

-- the bytes of a row, as many as its pixels want
abbrev pub row : Picture → ℕ → List ℕ
row X y = map (λ k. eight X y (8 * k)) (range_with_len 0 ((side X.sides 0 + 7) / 8))

-- a raw PBM, in which the object points are black
abbrev pub pbm : Picture → List ℕ
pbm X = header (codes "P4") (side X.sides 0) (side X.sides 1) ++ flat_map (row X) (range_with_len 0 (side X.sides 1))

-- ---- voxels

-- 255 for an object point, and 0 for another
abbrev pub shade : Bool → ℕ
shade b = if b then 255 else 0

-- a byte for each voxel, in raster order
abbrev pub voxels : Picture → List ℕ
voxels X = map shade X.values

-- ---- distances

-- a distance in hundredths, rounded down, of which the square is given; 65535 where it is greater
abbrev pub level : ℕ → ℕ
level square = min (root (10000 * square)) 65535

-- the two bytes of a number below 65536, the higher one first or last
abbrev pub high_first : ℕ → List ℕ
high_first n = n / 256 ∷ n % 256 ∷ []

abbrev pub low_first : ℕ → List ℕ
low_first n = n % 256 ∷ n / 256 ∷ []

-- a raw PGM of the distances of the points of a box
abbrev pub pgm : (sides squares : List ℕ) → List ℕ
pgm sides squares = header (codes "P5") (side sides 0) (side sides 1) ++ (codes "65535\n" ++ flat_map (λ s. high_first (level s)) squares)

-- two bytes for the distance of each voxel, in raster order
abbrev pub depths : (squares : List ℕ) → List ℕ
depths squares = flat_map (λ s. low_first (level s)) squares

-- ---- squared distances

-- a squared distance as a number of 32 bits, and 4294967295 where it is greater
abbrev pub told_square : ℕ → ℕ
told_square square = min square 4294967295

-- the four bytes of a number below 2 ^ 32, the lowest one first
abbrev pub low_first32 : ℕ → List ℕ
low_first32 n = n % 256 ∷ n / 256 % 256 ∷ n / 65536 % 256 ∷ n / 16777216 % 256 ∷ []

-- four bytes for the squared distance of each point, in raster order
abbrev pub square_bytes : (squares : List ℕ) → List ℕ
square_bytes squares = flat_map (λ s. low_first32 (told_square s)) squares

-- ---- thickness

-- the squared diameter of a ball of which the squared radius is given, as a number of 32 bits
abbrev pub told_diameter : ℕ → ℕ
told_diameter square = told_square (4 * square)

-- of each point of a box, in raster order, the squared diameter of the greatest ball that holds it, where a list gives the squared radius of the ball of each
-- object point
unfoldable pub squared_diameters : Picture → (squares : List ℕ) → List ℕ
squared_diameters X squares = map told_diameter (greatest_squares X (map told_square squares))
