-- The raster of a PBM as a machine, one byte after another, and what is known of the bytes read.
use Rattle.std.specs.Prelude.{◌≡◌, ℕ, ◌+◌, ◌-◌, ◌*◌, ◌%◌, ◌<◌, ◌==◌, ◌&&◌, min, Bool, true, false, not, if◌then◌else◌, List, [], ◌∷◌, ◌++◌, length, map}
use Rattle.std.specs.Prelude.{replicate, All, Result, Ok, Err}
use Rattle.std.specs.List.{concat, flat_map}
use Rattle.shape_terms.specs.Pictures.{Picture}
use Rattle.shape_picture.specs.declared.fault.PictureFault.{PictureFault}
use Rattle.shape_picture.specs.declared.fault.PictureFault.TheVariants as fault
use Rattle.shape_picture.specs.declared.header.Form.TheVariants.{Plain, Packed}
use Rattle.shape_picture.specs.declared.raster.Piece.{Piece}
use Rattle.shape_picture.specs.declared.raster.Piece.TheVariants as piece
use Rattle.shape_picture.specs.Pbm.{is_white, is_line_end, is_pixel, number_value, pixels_of, pixel_code, bits_of, row_bytes, row_pixels, IsInRaster}
use Rattle.shape_picture.specs.Pbm.{DecidesFault}
use Rattle.shape_picture.specs.Header.{CommentLeadsTo}

-- ---- the values so far

-- the first n values of the picture of these sides are known, and the others, of which there are some, are still background
pub record FirstValues (X : Picture) (width height n : ℕ) (known : List Bool) : Type 0 where
  pub sides : X.sides ≡ width ∷ height ∷ []
  pub fewer : n < width * height
  pub count : length known ≡ n
  pub values : X.values ≡ known ++ replicate (width * height - n) false

-- ---- the form `P1`

-- what a byte is, within a comment or not, after so many pixels
abbrev pub piece_of : Bool → ℕ → ℕ → ℕ → Result Piece PictureFault
piece_of true n at c = Ok (piece.Gap (not (is_line_end c)))
piece_of false n at c = if is_white c then Ok (piece.Gap false) else if (n == 0) && (c == 35) then Ok (piece.Gap true) else if is_pixel c then
    Ok (piece.Pixel (c == 49)) else Err (fault.BadByte at)

-- the front ends within the raster, or within a comment before it
abbrev pub IsAtRaster : ℕ → Bool → List ℕ → List ℕ → List ℕ → List ℕ → Type 0
IsAtRaster limit false front width height raster = IsInRaster Plain limit front width height raster
IsAtRaster limit true front width height raster = (raster ≡ []) × CommentLeadsTo Plain limit (λ f. IsInRaster Plain limit f width height []) front

-- how the raster goes on by a byte c that is this
abbrev pub RasterGoesOn : ℕ → List ℕ → ℕ → List ℕ → List ℕ → List ℕ → Piece → Type 0
RasterGoesOn limit front c width height raster (piece.Gap k) = (more : List ℕ) × IsAtRaster limit k (front ++ c ∷ []) width height more
    × (pixels_of more ≡ pixels_of raster) × (raster ≡ [] → more ≡ [])
RasterGoesOn limit front c width height raster (piece.Pixel b) = IsAtRaster limit false (front ++ c ∷ []) width height (raster ++ c ∷ []) × (c ≡ pixel_code b)

-- what a byte says of the front before it
abbrev pub PieceAnswer : ℕ → List ℕ → ℕ → List ℕ → List ℕ → List ℕ → Result Piece PictureFault → Type 0
PieceAnswer limit front c width height raster (Ok p) = RasterGoesOn limit front c width height raster p
PieceAnswer limit front c width height raster (Err f) = DecidesFault limit front c f

-- the front ends in a raster that is not complete, whose pixels are the first n values of the picture
pub record PictureSoFar (limit : ℕ) (X : Picture) (comment : Bool) (n : ℕ) (front : List ℕ) : Type 0 where
  pub width : List ℕ
  pub height : List ℕ
  pub raster : List ℕ
  pub known : List Bool
  pub at : IsAtRaster limit comment front width height raster
  pub none : n ≡ 0 → raster ≡ []
  pub pixels : pixels_of raster ≡ map pixel_code known
  pub first : FirstValues X (number_value width) (number_value height) n known

-- ---- the form `P4`

-- how many pixels the next byte holds after so many of the picture: eight, or as many as its row still wants
abbrev pub byte_pixels : ℕ → ℕ → ℕ
byte_pixels width n = min (width - n % width) 8

-- the front ends in a raster that is not complete, in whole rows and some bytes of the next, whose pixels are the first n
-- values of the picture
pub record RowsSoFar (limit : ℕ) (X : Picture) (n : ℕ) (front : List ℕ) : Type 0 where
  pub width : List ℕ
  pub height : List ℕ
  pub rows : List (List ℕ)
  pub row : List ℕ
  pub at : IsInRaster Packed limit front width height (concat rows ++ row)
  pub row_length : All (λ row. length row ≡ row_bytes (number_value width)) rows
  pub begun : length row * 8 < number_value width
  pub place : n ≡ length rows * number_value width + length row * 8
  pub first : FirstValues X (number_value width) (number_value height) n (flat_map (row_pixels (number_value width)) rows ++ flat_map bits_of row)
