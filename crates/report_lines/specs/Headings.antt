-- What the first line of a report gives, of one line and of the bytes of a text.
-- A heading is taken for what it is wherever the sides are those of a box; a volume's heading is known without that.
use Rattle.std.specs.Prelude.{◌≡◌, ℕ, Bool, true, false, List, Option, None, Some}
use Rattle.report_terms.specs.Lines.{Line, Heading, IsLineOf, spelling}
use Rattle.report_terms.specs.Progress.{StartsWithLine}
use Rattle.shape_report.specs.Next.{TakesClaim}
use Rattle.report_lines.specs.Reports.{Space, flat, solid, IsHeading, IsOfVolume}

-- ---- one line

-- the bytes of a line spell some line of d axes of which this holds
abbrev pub Spells : ℕ → List ℕ → (Line → Type 0) → Type 0
Spells d bytes P = (l : Line) × IsLineOf d l × (spelling l ≡ bytes) × P l

-- the line is a heading, whatever its sides are
abbrev pub IsAnyHeading : Line → Type 0
IsAnyHeading l = (h : Heading) × (l ≡ Line.Shape h)

-- the bytes spell this line, which is a heading of the space
abbrev pub IsHeadingLine : Space → List ℕ → Line → Type 0
IsHeadingLine s bytes line = IsLineOf s.axes line × (spelling line ≡ bytes) × IsHeading s.greatest line

-- the heading that the bytes of a line are, where `line` gives its line: None exactly where they are none of the space
abbrev pub HeadingOf : {H : Type 0} → Space → (H → Line) → List ℕ → Option H → Type 0
HeadingOf s line bytes None = Spells s.axes bytes (IsHeading s.greatest) → ⊥
HeadingOf s line bytes (Some h) = IsHeadingLine s bytes (line h)

-- whether the bytes of a line are the heading of a volume
abbrev pub SolidHeading : List ℕ → Bool → Type 0
SolidHeading bytes false = Spells 3 bytes IsAnyHeading → ⊥
SolidHeading bytes true = Spells 3 bytes IsAnyHeading

-- the bytes of a line are the heading of a volume with sides of no box
pub record IsNoBoxLine (bytes : List ℕ) : Type 0 where
  pub volume : Spells 3 bytes IsAnyHeading
  pub flat : Spells 2 bytes (IsHeading flat.greatest) → ⊥
  pub no_box : Spells 3 bytes (IsHeading solid.greatest) → ⊥

-- the bytes of a line are no heading of a flat picture that stands in a box, and none of a volume
pub record IsNoHeadingLine (bytes : List ℕ) : Type 0 where
  pub flat : Spells 2 bytes (IsHeading flat.greatest) → ⊥
  pub solid : Spells 3 bytes IsAnyHeading → ⊥

-- ---- the bytes of a text

-- the line, which is a heading of the space, was taken from the front of the bytes, and the rest is left now
pub record TakesHeading (s : Space) (bytes : List ℕ) (new : Option (List ℕ)) (line : Line) : Type 0 where
  pub takes : TakesClaim s.axes bytes new line
  pub heading : IsHeading s.greatest line

-- the bytes begin with no heading of the space
abbrev pub LacksHeading : Space → List ℕ → Type 0
LacksHeading s bytes = (l : Line) (rest : List ℕ) → StartsWithLine s.axes bytes l rest → IsHeading s.greatest l → ⊥

-- the bytes begin with the heading of a volume, whose sides are those of no box
pub record IsOfNoBox (bytes : List ℕ) : Type 0 where
  pub volume : IsOfVolume bytes
  pub flat : LacksHeading flat bytes
  pub solid : LacksHeading solid bytes

-- the bytes begin with no heading of a flat picture that stands in a box, nor with one of a volume
pub record IsNoOpening (bytes : List ℕ) : Type 0 where
  pub flat : LacksHeading flat bytes
  pub volume : IsOfVolume bytes → ⊥
