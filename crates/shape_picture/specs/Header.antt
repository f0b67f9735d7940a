-- The header of a PBM as a machine, one byte after another, and what is known of the bytes read in each of its states.
use Rattle.std.specs.Prelude.{◌≡◌, ℕ, ◌+◌, ◌-◌, ◌*◌, ◌<◌, ◌≤◌, ◌==◌, ◌&&◌, nat_le, nat_lt, Bool, false, IsTrue, if◌then◌else◌, List, [], ◌∷◌, ◌++◌, length, All}
use Rattle.std.specs.Prelude.{Result, Ok, Err}
use Rattle.shape_picture.specs.declared.fault.PictureFault.{PictureFault}
use Rattle.shape_picture.specs.declared.fault.PictureFault.TheVariants as fault
use Rattle.shape_picture.specs.declared.header.Form.{Form}
use Rattle.shape_picture.specs.declared.header.Form.TheVariants.{Plain, Packed}
use Rattle.shape_picture.specs.declared.header.Side.{Side}
use Rattle.shape_picture.specs.declared.header.Side.TheVariants as side
use Rattle.shape_picture.specs.declared.header.Coming.{Coming}
use Rattle.shape_picture.specs.declared.header.Coming.TheVariants as coming
use Rattle.shape_picture.specs.declared.header.Header.{Header}
use Rattle.shape_picture.specs.declared.header.Header.TheVariants as header
use Rattle.shape_picture.specs.declared.header.Progress.{Progress}
use Rattle.shape_picture.specs.declared.header.Progress.TheVariants as progress
use Rattle.shape_picture.specs.Pbm.{is_white, is_line_end, is_stop, form_digit, magic, IsComment, number_value, IsInWidth, IsInHeight, IsInRaster}
use Rattle.shape_picture.specs.Pbm.{IsBehindHeight, MayComment, DecidesFault}

-- ---- the machine

-- a decimal digit
abbrev pub is_digit : ℕ → Bool
is_digit c = nat_le 48 c && nat_le c 57

-- the gap before a side
abbrev pub before_side : Side → Coming
before_side side.Width = coming.Width
before_side (side.Height w) = coming.Height w

-- what comes after a side of this value
abbrev pub after_side : Side → ℕ → Coming
after_side side.Width v = coming.Height v
after_side (side.Height w) v = coming.Raster w v

-- behind white space
abbrev pub gap_of : Form → Coming → Progress
gap_of form coming.Width = progress.More (header.Gap form side.Width)
gap_of form (coming.Height w) = progress.More (header.Gap form (side.Height w))
gap_of form (coming.Raster w h) = progress.Done form w h

-- behind a comment that follows a whole height
abbrev pub behind_height : Form → ℕ → ℕ → Progress
behind_height Plain w h = progress.Done Plain w h
behind_height Packed w h = progress.More (header.Closing w h)

-- behind a comment
abbrev pub comment_end : Form → Coming → Progress
comment_end form (coming.Raster w h) = behind_height form w h
comment_end form t = gap_of form t

-- a byte where white space or a comment may follow
abbrev pub opened : Form → Coming → ℕ → PictureFault → Result Progress PictureFault
opened form t c other = if is_white c then Ok (gap_of form t) else if c == 35 then Ok (progress.More (header.Comment form t)) else Err other

-- a digit of a side
abbrev pub digit_step : Form → ℕ → Side → ℕ → ℕ → Result Progress PictureFault
digit_step form limit s v c = if nat_lt limit (v * 10 + (c - 48)) then Err (fault.SideTooLarge (v * 10 + (c - 48))) else Ok
    (progress.More (header.Digits form s (v * 10 + (c - 48))))

-- a byte of the magic number
abbrev pub magic_step : ℕ → Header → Result Progress PictureFault → ℕ → Result Progress PictureFault
magic_step wanted next other c = if c == wanted then Ok (progress.More next) else other

-- the digit that names the form
abbrev pub form_step : ℕ → Result Progress PictureFault
form_step c = magic_step (form_digit Plain) (header.Magic Plain) (magic_step (form_digit Packed) (header.Magic Packed) (Err fault.NotPlain) c) c

-- the header after one byte more, which stands at this place
abbrev pub header_step : ℕ → ℕ → Header → ℕ → Result Progress PictureFault
header_step limit at header.Start c = magic_step 80 header.Letter (Err fault.NotPlain) c
header_step limit at header.Letter c = form_step c
header_step limit at (header.Magic form) c = opened form coming.Width c fault.NotPlain
header_step limit at (header.Gap form s) c = if is_digit c then digit_step form limit s 0 c else opened form (before_side s) c (fault.BadNumber at)
header_step limit at (header.Comment form t) c = if is_line_end c then Ok (comment_end form t) else Ok (progress.More (header.Comment form t))
header_step limit at (header.Digits form s v) c = if is_digit c then digit_step form limit s v c else if v == 0 && is_stop c then
    Err fault.ZeroSide else opened form (after_side s v) c (fault.BadNumber at)
header_step limit at (header.Closing w h) c = opened Packed (coming.Raster w h) c (fault.BadNumber at)

-- the digits so far are within the limit
abbrev pub IsSmall : ℕ → Header → Type 0
IsSmall limit (header.Digits form s v) = v ≤ limit
IsSmall limit _ = Unit {0}

-- ---- the states

-- the front ends behind white space before what comes
abbrev pub IsInGap : Form → ℕ → Coming → List ℕ → Type 0
IsInGap form limit coming.Width front = IsInWidth form limit front []
IsInGap form limit (coming.Height w) front = (width : List ℕ) × (number_value width ≡ w) × IsInHeight form limit front width []
IsInGap form limit (coming.Raster w h) front = (width height : List ℕ) × (number_value width ≡ w) × (number_value height ≡ h)
    × IsInRaster form limit front width height []

-- the front ends behind a comment before what comes
abbrev pub IsAfterComment : Form → ℕ → Coming → List ℕ → Type 0
IsAfterComment form limit (coming.Raster w h) front = (width height : List ℕ) × (number_value width ≡ w) × (number_value height ≡ h)
    × IsBehindHeight form limit front width height
IsAfterComment form limit t front = IsInGap form limit t front

-- the front ends in these digits of the side
abbrev pub IsInDigits : Form → ℕ → Side → List ℕ → List ℕ → Type 0
IsInDigits form limit side.Width front digits = IsInWidth form limit front digits
IsInDigits form limit (side.Height w) front digits = (width : List ℕ) × (number_value width ≡ w) × IsInHeight form limit front width digits

-- a comment may begin behind the front, and leads to T
pub record CommentOpens (form : Form) (limit : ℕ) (T : List ℕ → Type 0) (front : List ℕ) : Type 0 where
  pub may : MayComment form limit front
  pub onward : (comment : List ℕ) → IsComment comment → T (front ++ comment)

-- white space may follow the front, and leads to T, and so may a comment, which leads to U
pub record GapLeadsTo (form : Form) (limit : ℕ) (T U : List ℕ → Type 0) (front : List ℕ) : Type 0 where
  pub by_white : (c : ℕ) → IsTrue (is_white c) → T (front ++ c ∷ [])
  pub by_comment : CommentOpens form limit U front

-- the front ends within a comment, whose end leads to T
pub record CommentLeadsTo (form : Form) (limit : ℕ) (T : List ℕ → Type 0) (front : List ℕ) : Type 0 where
  pub before : List ℕ
  pub text : List ℕ
  pub opens : CommentOpens form limit T before
  pub no_end : All (λ b. is_line_end b ≡ false) text
  pub front_is : front ≡ before ++ 35 ∷ text

-- some digits of this value
pub record HasDigits (form : Form) (limit : ℕ) (s : Side) (v : ℕ) (front : List ℕ) : Type 0 where
  pub digits : List ℕ
  pub some : 0 < length digits
  pub value : number_value digits ≡ v
  pub within : IsInDigits form limit s front digits

-- what is known of the front in each state
abbrev pub HeaderReached : ℕ → Header → List ℕ → Type 0
HeaderReached limit header.Start front = front ≡ []
HeaderReached limit header.Letter front = front ≡ 80 ∷ []
HeaderReached limit (header.Magic form) front = front ≡ magic form
HeaderReached limit (header.Gap form s) front = IsInGap form limit (before_side s) front
HeaderReached limit (header.Comment form t) front = CommentLeadsTo form limit (IsAfterComment form limit t) front
HeaderReached limit (header.Digits form s v) front = HasDigits form limit s v front
HeaderReached limit (header.Closing w h) front = IsAfterComment Packed limit (coming.Raster w h) front

-- what is known of the front after a step
abbrev pub ProgressReached : ℕ → Progress → List ℕ → Type 0
ProgressReached limit (progress.More h) front = HeaderReached limit h front
ProgressReached limit (progress.Done form w h) front = IsInGap form limit (coming.Raster w h) front

-- what a step says of the front before it and the byte
abbrev pub StepAnswer : ℕ → List ℕ → ℕ → Result Progress PictureFault → Type 0
StepAnswer limit front c (Ok p) = ProgressReached limit p (front ++ c ∷ [])
StepAnswer limit front c (Err f) = DecidesFault limit front c f
