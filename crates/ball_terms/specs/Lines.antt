-- The lines of a ball report: their kinds, the fields of each, and how they stand in words.
-- A further kind is a constructor of both types and a clause of each function; what a line claims stands in `Reports`.
use Rattle.std.specs.Prelude.{ℕ, List, [], ◌∷◌, codes}
use Rattle.shape_terms.specs.Points.{Point}
use Rattle.text_terms.specs.Forms.{Form, nothing, behind, ◌⨾◌}
use Rattle.text_terms.specs.Fields.{count, weight, point}
use Rattle.text_terms.specs.PictureKinds.{kind_word}
use Rattle.text_terms.specs.Spellings.{Spelled}
use Rattle.text_terms.specs.Tables.{Table, Split, spelled_via}
use Rattle.ball_terms.specs.Balls as Terms

-- ---- kinds

-- a kind of line
pub data Kind : Type 0 where
  Balls Ball End : Kind

-- the word that a line of this kind begins with
abbrev pub first_word : Kind → List ℕ
first_word Kind.Balls = codes "balls"
first_word Kind.Ball = codes "ball"
first_word Kind.End = codes "end"

-- what the fields of a line of this kind are
abbrev pub Fields : Kind → Type 0
Fields Kind.Balls = Point × ℕ
Fields Kind.Ball = Point × (Point × (ℕ × Point))
Fields Kind.End = Unit {0}

-- the fields of a kind of line in reports of pictures with d axes
abbrev pub form_of : ℕ → (k : Kind) → Form (Fields k)
form_of d Kind.Balls = behind (codes "1") (behind (kind_word d) (point d ⨾ count))
form_of d Kind.Ball = point d ⨾ point d ⨾ weight ⨾ point d
form_of d Kind.End = nothing

-- the kinds of lines in reports of pictures with d axes
abbrev pub table : ℕ → Table Fields
table d = record { kinds = Kind.Balls ∷ Kind.Ball ∷ Kind.End ∷ []; first_word = first_word; form_of = form_of d }

-- ---- lines

-- a line: the sides of the picture, as a point, and the number of balls; one ball; or the end
pub data Line : Type 0 where
  Balls : (sides : Point) → (number : ℕ) → Line
  Ball : (ball : Terms.Ball) → Line
  End : Line

-- the kind of a line, and its fields
abbrev pub split : Line → Split Fields
split (Line.Balls sides number) = record { kind = Kind.Balls; fields = (sides, number) }
split (Line.Ball b) = record { kind = Kind.Ball; fields = (b.centre, (b.near, (b.s, b.own))) }
split Line.End = record { kind = Kind.End; fields = tt }

-- how the lines of the reports of pictures with d axes stand in text
abbrev pub spelled : ℕ → Spelled Line
spelled d = spelled_via (table d) split
