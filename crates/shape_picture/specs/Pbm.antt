-- PBM, the bitmaps of Netpbm, in the form `P1`, a byte for each pixel, and the form `P4`, a bit for each: which bytes spell
-- which picture, and which fault other bytes have. The grammar stands here and nothing of how a file is read; a file may be
-- anything behind its picture.
use Rattle.std.specs.Prelude.{◌≡◌, ◌≢◌, ◌⊎◌, ℕ, zero, suc, ◌+◌, ◌-◌, ◌*◌, ◌<◌, ◌≤◌, ◌==◌, ◌||◌, Bool, true, false, not, IsTrue, List, [], ◌∷◌, ◌++◌, length}
use Rattle.std.specs.Prelude.{map, filter, fold, take, slice_get, Some, All}
use Rattle.std.specs.List.{concat, flat_map}
use Rattle.std.specs.Int.{bit_at, div_ceil}
use Rattle.shape_terms.specs.Points.{box_count}
use Rattle.shape_terms.specs.Pictures.{Picture}
use Rattle.shape_picture.specs.declared.fault.PictureFault.{PictureFault}
use Rattle.shape_picture.specs.declared.fault.PictureFault.TheVariants as fault
use Rattle.shape_picture.specs.declared.header.Form.{Form}
use Rattle.shape_picture.specs.declared.header.Form.TheVariants.{Plain, Packed}

-- ---- bytes

-- white space: blank, tab, CR or LF
abbrev pub is_white : ℕ → Bool
is_white c = (c == 32) || (c == 9) || (c == 13) || (c == 10)

-- CR or LF
abbrev pub is_line_end : ℕ → Bool
is_line_end c = (c == 13) || (c == 10)

-- a decimal digit
abbrev pub IsDigit : ℕ → Type 0
IsDigit c = (48 ≤ c) × (c ≤ 57)

-- a pixel: `0` or `1`
abbrev pub is_pixel : ℕ → Bool
is_pixel c = (c == 48) || (c == 49)

-- a byte that ends a number: white space, or the `#` of a comment
abbrev pub is_stop : ℕ → Bool
is_stop c = is_white c || (c == 35)

-- ---- the header

-- the digit that names a form: `1` or `4`
abbrev pub form_digit : Form → ℕ
form_digit Plain = 49
form_digit Packed = 52

-- the magic number of a form: `P1` or `P4`
abbrev pub magic : Form → List ℕ
magic form = 80 ∷ form_digit form ∷ []

-- a comment: `#`, any bytes but CR and LF, and then one CR or LF
pub data IsComment : List ℕ → Type 0 where
  hash : (text : List ℕ) (c : ℕ) → All (λ b. is_line_end b ≡ false) text → IsTrue (is_line_end c) → IsComment (35 ∷ (text ++ c ∷ []))

-- a piece of a gap: a white-space byte, or a comment
pub data IsGapPiece : List ℕ → Type 0 where
  white : (c : ℕ) → IsTrue (is_white c) → IsGapPiece (c ∷ [])
  comment : {piece : List ℕ} → IsComment piece → IsGapPiece piece

-- a gap: one or more such pieces in any mixture
pub data IsGap : List ℕ → Type 0 where
  one : {piece : List ℕ} → IsGapPiece piece → IsGap piece
  more : (piece gap : List ℕ) → IsGapPiece piece → IsGap gap → IsGap (piece ++ gap)

-- one or more comments, directly after each other
pub data AreComments : List ℕ → Type 0 where
  one : {comment : List ℕ} → IsComment comment → AreComments comment
  more : (comments comment : List ℕ) → AreComments comments → IsComment comment → AreComments (comments ++ comment)

-- exactly one white-space byte, alone or behind such comments
pub data IsOneWhite : List ℕ → Type 0 where
  alone : (c : ℕ) → IsTrue (is_white c) → IsOneWhite (c ∷ [])
  behind : (comments : List ℕ) (c : ℕ) → AreComments comments → IsTrue (is_white c) → IsOneWhite (comments ++ c ∷ [])

-- what ends a header behind the height: by the form `P1` a gap, by the form `P4` exactly one white-space byte, which
-- comments directly behind the height may precede
abbrev pub EndsHeader : Form → List ℕ → Type 0
EndsHeader Plain ending = IsGap ending
EndsHeader Packed ending = IsOneWhite ending

-- the value of decimal digits
abbrev pub number_value : List ℕ → ℕ
number_value digits = fold (λ n c. n * 10 + (c - 48)) 0 digits

-- the digits of a side that is done: one or more, with a value from 1 to the limit; leading zeros are allowed
pub record IsSide (limit : ℕ) (digits : List ℕ) : Type 0 where
  pub some : 0 < length digits
  pub digits_only : All IsDigit digits
  pub value : (1 ≤ number_value digits) × (number_value digits ≤ limit)

-- the front is the magic number, a gap and then digits of the width, with a value of at most the limit; none yet where the
-- gap may go on
pub record IsInWidth (form : Form) (limit : ℕ) (front digits : List ℕ) : Type 0 where
  pub gap : List ℕ
  pub is_gap : IsGap gap
  pub digits_only : All IsDigit digits
  pub within : number_value digits ≤ limit
  pub front_is : front ≡ magic form ++ gap ++ digits

-- the front is such a front with a whole width, a gap and then digits of the height, or none yet
pub record IsInHeight (form : Form) (limit : ℕ) (front width digits : List ℕ) : Type 0 where
  pub before : List ℕ
  pub gap : List ℕ
  pub in_width : IsInWidth form limit before width
  pub width_done : IsSide limit width
  pub is_gap : IsGap gap
  pub digits_only : All IsDigit digits
  pub within : number_value digits ≤ limit
  pub front_is : front ≡ before ++ gap ++ digits

-- the front is such a front by the form `P4` with a whole height and then comments directly after each other
pub record IsBehindComments (limit : ℕ) (front width height : List ℕ) : Type 0 where
  pub before : List ℕ
  pub comments : List ℕ
  pub in_height : IsInHeight Packed limit before width height
  pub height_done : IsSide limit height
  pub are_comments : AreComments comments
  pub front_is : front ≡ before ++ comments

-- ---- the raster

-- a byte that holds pixels: by the form `P1` a pixel, by the form `P4` any byte
abbrev pub holds_pixels : Form → ℕ → Bool
holds_pixels Plain c = is_pixel c
holds_pixels Packed c = true

-- the front is such a front with a whole height, what ends the header, and then some of the raster: bytes that hold pixels
-- and white space, of which the first holds pixels; nothing of it yet where a gap may go on
pub record IsInRaster (form : Form) (limit : ℕ) (front width height raster : List ℕ) : Type 0 where
  pub before : List ℕ
  pub ending : List ℕ
  pub in_height : IsInHeight form limit before width height
  pub height_done : IsSide limit height
  pub ends_header : EndsHeader form ending
  pub begins : (c : ℕ) → slice_get raster 0 ≡ Some c → IsTrue (holds_pixels form c)
  pub bytes : All (λ c. IsTrue (holds_pixels form c || is_white c)) raster
  pub front_is : front ≡ before ++ ending ++ raster

-- the pixels of a raster by the form `P1`: its bytes without white space
abbrev pub pixels_of : List ℕ → List ℕ
pixels_of raster = filter (λ c. not (is_white c)) raster

-- the pixel of a value: object is `1`
abbrev pub pixel_code : Bool → ℕ
pixel_code false = 48
pixel_code true = 49

-- the bits of a byte, the highest first: object is 1
abbrev pub bits_of : ℕ → List Bool
bits_of c = map (λ i. bit_at c i == 1) (7 ∷ 6 ∷ 5 ∷ 4 ∷ 3 ∷ 2 ∷ 1 ∷ 0 ∷ [])

-- how many bytes a row of this width has by the form `P4`: an eighth of its pixels, rounded up
abbrev pub row_bytes : ℕ → ℕ
row_bytes width = div_ceil width 8

-- the pixels of a row's bytes: as many of their bits, from the first on, as the row is wide
abbrev pub row_pixels : ℕ → List ℕ → List Bool
row_pixels width row = take width (flat_map bits_of row)

-- the bytes are so many rows one after another, each of `row_bytes` bytes, and the values are their pixels
pub record AreRows (width height : ℕ) (bytes : List ℕ) (values : List Bool) : Type 0 where
  pub rows : List (List ℕ)
  pub as_many : length rows ≡ height
  pub row_length : All (λ row. length row ≡ row_bytes width) rows
  pub bytes_are : bytes ≡ concat rows
  pub values_are : values ≡ flat_map (row_pixels width) rows

-- the bytes of a raster that hold pixels
abbrev pub holders : Form → List ℕ → List ℕ
holders Plain raster = pixels_of raster
holders Packed raster = raster

-- how many of them a picture of these sides has
abbrev pub holder_count : Form → ℕ → ℕ → ℕ
holder_count Plain width height = width * height
holder_count Packed width height = height * row_bytes width

-- these values, row by row from the top, are the pixels that such bytes hold
abbrev pub HoldValues : Form → ℕ → ℕ → List ℕ → List Bool → Type 0
HoldValues Plain width height bytes values = bytes ≡ map pixel_code values
HoldValues Packed width height bytes values = AreRows width height bytes values

-- the first m bytes spell the picture by one of the forms, and byte m - 1 is its last pixel, or the last byte of its last
-- row; m is at most `longest`
pub record Pbm (limit longest : ℕ) (bytes : List ℕ) (X : Picture) (m : ℕ) : Type 0 where
  pub form : Form
  pub width : List ℕ
  pub height : List ℕ
  pub raster : List ℕ
  pub front : IsInRaster form limit (take m bytes) width height raster
  pub sides : X.sides ≡ number_value width ∷ number_value height ∷ []
  pub values : HoldValues form (number_value width) (number_value height) (holders form raster) X.values
  pub filled : length X.values ≡ box_count X.sides
  pub last : (k : ℕ) × (k + 1 ≡ m) × ((c : ℕ) × (slice_get bytes k ≡ Some c) × IsTrue (holds_pixels form c))
  pub short : m ≤ longest

-- ---- the faults

-- the front ends in these digits of a side, or in the gap before the side where there are none
abbrev pub IsInSide : Form → ℕ → List ℕ → List ℕ → Type 0
IsInSide form limit front digits = IsInWidth form limit front digits ⊎ ((width : List ℕ) × IsInHeight form limit front width digits)

-- the front is a header and a raster that holds fewer pixels than the picture has
abbrev pub IsInPicture : Form → ℕ → List ℕ → List ℕ → Type 0
IsInPicture form limit front raster = (width height : List ℕ) × IsInRaster form limit front width height raster
    × (length (holders form raster) < holder_count form (number_value width) (number_value height))

-- the front ends behind a piece of what ends the header where a comment may follow: by the form `P1` anywhere before the
-- first pixel, by the form `P4` behind comments alone
abbrev pub IsBehindHeight : Form → ℕ → List ℕ → List ℕ → List ℕ → Type 0
IsBehindHeight Plain limit front width height = IsInRaster Plain limit front width height []
IsBehindHeight Packed limit front width height = IsBehindComments limit front width height

-- a comment may begin after the front
pub data MayComment (form : Form) (limit : ℕ) (front : List ℕ) : Type 0 where
  behind_magic : front ≡ magic form → MayComment form limit front
  in_gap : IsInSide form limit front [] → MayComment form limit front
  behind_side : (digits : List ℕ) → IsInSide form limit front digits → IsSide limit digits → MayComment form limit front
  behind_height : (width height : List ℕ) → IsBehindHeight form limit front width height → MayComment form limit front

-- the front ends within a comment
pub record IsInComment (form : Form) (limit : ℕ) (front : List ℕ) : Type 0 where
  pub before : List ℕ
  pub text : List ℕ
  pub may : MayComment form limit before
  pub no_end : All (λ b. is_line_end b ≡ false) text
  pub front_is : front ≡ before ++ 35 ∷ text

-- the places where a front of a file by this form may end that no byte has spoilt and that is no whole picture
pub data IsUnfinishedBy (form : Form) (limit : ℕ) (front : List ℕ) : Type 0 where
  in_magic : (k : ℕ) → k ≤ 2 → front ≡ take k (magic form) → IsUnfinishedBy form limit front
  in_side : (digits : List ℕ) → IsInSide form limit front digits → IsUnfinishedBy form limit front
  behind_height : (width height : List ℕ) → IsBehindHeight form limit front width height → IsUnfinishedBy form limit front
  in_picture : (raster : List ℕ) → IsInPicture form limit front raster → IsUnfinishedBy form limit front
  in_comment : IsInComment form limit front → IsUnfinishedBy form limit front

-- a front of a file that no byte has spoilt and that is no whole picture
abbrev pub IsUnfinished : ℕ → List ℕ → Type 0
IsUnfinished limit front = (form : Form) × IsUnfinishedBy form limit front

-- the byte at place i, of the first three, is there and is not `P`, `1` or `4`, and white space or `#`
abbrev pub IsWrongMagic : ℕ → ℕ → Type 0
IsWrongMagic zero c = c ≢ 80
IsWrongMagic (suc zero) c = (form : Form) → c ≢ form_digit form
IsWrongMagic (suc (suc zero)) c = is_stop c ≡ false
IsWrongMagic _ c = ⊥

-- the byte c can follow the front in no header: in a side, or before its digits, it is neither a digit nor white space nor
-- `#`, and behind the comments that the form `P4` has directly behind the height neither white space nor `#`
pub data IsMisplaced (limit : ℕ) (front : List ℕ) (c : ℕ) : Type 0 where
  in_side : (form : Form) (digits : List ℕ) → IsInSide form limit front digits → is_stop c ≡ false → (IsDigit c → ⊥) → IsMisplaced limit front c
  behind_comments : (width height : List ℕ) → IsBehindComments limit front width height → is_stop c ≡ false → IsMisplaced limit front c

-- behind a front that no byte has spoilt, the byte c decides the fault:
-- `NotPlain` among the first three bytes;
-- `BadNumber` where c can follow in no header of its form;
-- `ZeroSide` where the digits of a side end and their value is 0;
-- `SideTooLarge` where the digits of a side, c with them, pass the limit for the first time;
-- `BadByte` where c is neither pixel nor white space in a raster of the form `P1`, from the first pixel's place on, where
-- it may begin a comment
abbrev pub DecidesFault : ℕ → List ℕ → ℕ → PictureFault → Type 0
DecidesFault limit front c fault.NotPlain = (form : Form) × (front ≡ take (length front) (magic form)) × IsWrongMagic (length front) c
DecidesFault limit front c (fault.BadNumber i) = (i ≡ length front) × IsMisplaced limit front c
DecidesFault limit front c fault.ZeroSide = (form : Form) × (digits : List ℕ) × IsInSide form limit front digits × (0 < length digits)
    × (number_value digits ≡ 0) × IsTrue (is_stop c)
DecidesFault limit front c (fault.SideTooLarge value) = (form : Form) × (digits : List ℕ) × IsInSide form limit front digits × IsDigit c
    × (value ≡ number_value (digits ++ c ∷ [])) × (limit < value)
DecidesFault limit front c (fault.BadByte i) = (i ≡ length front) × ((raster : List ℕ) × IsInPicture Plain limit front raster × (raster ≡ [] → c ≢ 35))
    × (is_pixel c || is_white c ≡ false)
DecidesFault limit front c _ = ⊥

-- the bytes have the fault: a byte decides it, or the file ends before its picture does, or the greatest length is reached
abbrev pub PbmFault : ℕ → ℕ → List ℕ → PictureFault → Type 0
PbmFault limit longest bytes (fault.Short n) = (n ≡ length bytes) × (n < longest) × IsUnfinished limit bytes
PbmFault limit longest bytes fault.TooLong = (longest ≤ length bytes) × IsUnfinished limit (take longest bytes)
PbmFault limit longest bytes f = (i c : ℕ) × (i < longest) × (slice_get bytes i ≡ Some c) × DecidesFault limit (take i bytes) c f
