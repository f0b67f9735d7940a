-- The kinds of report lines, and the fields of each: a form for each kind, read as the format says it aloud.
-- A further kind is a constructor, its first word, its fields and its form; what a line claims stands elsewhere.
use Rattle.std.specs.Prelude.{ℕ, ℤ, List, [], ◌∷◌, codes}
use Rattle.std.specs.Int.{w64}
use Rattle.shape_terms.specs.Points.{Point}
use Rattle.shape_terms.specs.Refutations.{Refutation}
use Rattle.shape_terms.specs.Patches.{Sense}
use Rattle.text_terms.specs.Forms.{Form, natural, signed, letter, name, nothing, behind, ◌⨾◌, of_axes}
pub use Rattle.text_terms.specs.Fields.{count, weight, point, row}
use Rattle.text_terms.specs.Weights.{why}
use Rattle.text_terms.specs.PictureKinds.{kind_word}
use Rattle.text_terms.specs.Tables as Tables
use Rattle.text_terms.specs.Tables.{Table}
use Rattle.report_terms.specs.Forms.{number, sign}

-- ---- kinds

-- a kind of line
pub data Kind : Type 0 where
  Shape Parts Near Contour At Seg Least Turn Cut Face Patch On Off Del Tip Kept End : Kind

-- all kinds
abbrev pub kinds : List Kind
kinds = Kind.Shape ∷ Kind.Parts ∷ Kind.Near ∷ Kind.Contour ∷ Kind.At ∷ Kind.Seg ∷ Kind.Least ∷ Kind.Turn ∷ Kind.Cut ∷ Kind.Face ∷ Kind.Patch ∷ Kind.On
    ∷ Kind.Off ∷ Kind.Del ∷ Kind.Tip ∷ Kind.Kept ∷ Kind.End ∷ []

-- the word that a line of this kind begins with
abbrev pub first_word : Kind → List ℕ
first_word Kind.Shape = codes "shape"
first_word Kind.Parts = codes "parts"
first_word Kind.Near = codes "near"
first_word Kind.Contour = codes "contour"
first_word Kind.At = codes "at"
first_word Kind.Seg = codes "seg"
first_word Kind.Least = codes "least"
first_word Kind.Turn = codes "turn"
first_word Kind.Cut = codes "cut"
first_word Kind.Face = codes "face"
first_word Kind.Patch = codes "patch"
first_word Kind.On = codes "on"
first_word Kind.Off = codes "off"
first_word Kind.Del = codes "del"
first_word Kind.Tip = codes "tip"
first_word Kind.Kept = codes "kept"
first_word Kind.End = codes "end"

-- what the fields of a line of this kind are
abbrev pub Fields : Kind → Type 0
Fields Kind.Shape = ℕ × (Point × List ℕ)
Fields Kind.Parts = ℕ × (ℕ × ℕ)
Fields Kind.Near = Point × (Point × ℕ)
Fields Kind.Contour = Point × (ℕ × (ℕ × ℕ))
Fields Kind.At = Point
Fields Kind.Seg = ℕ × (ℕ × (ℕ × (List ℤ × ℤ)))
Fields Kind.Least = ℕ × (ℕ × (ℕ × ℕ))
Fields Kind.Turn = ℕ × (ℕ × ℕ)
Fields Kind.Cut = ℕ × Refutation
Fields Kind.Face = ℕ × (Sense × ℕ)
Fields Kind.Patch = ℕ × (List ℤ × ℤ)
Fields Kind.On = Point
Fields Kind.Off = Point × Refutation
Fields Kind.Del = Point
Fields Kind.Tip = Point
Fields Kind.Kept = ℕ × (ℕ × ℕ)
Fields Kind.End = Unit {0}

-- the fields of a kind of line in reports of pictures with d axes
abbrev pub form_of : ℕ → (k : Kind) → Form (Fields k)
form_of d Kind.Shape = number d ⨾ behind (kind_word d) (point d ⨾ name)
form_of d Kind.Parts = count ⨾ count ⨾ count
form_of d Kind.Near = point d ⨾ point d ⨾ weight
form_of d Kind.Contour = of_axes 2 d (point 2 ⨾ natural 4 ⨾ count ⨾ count)
form_of d Kind.At = of_axes 2 d (point 2)
form_of d Kind.Seg = of_axes 2 d (count ⨾ count ⨾ letter 2 ⨾ row 2 ⨾ signed w64 63)
form_of d Kind.Least = of_axes 2 d (count ⨾ count ⨾ count ⨾ count)
form_of d Kind.Turn = of_axes 2 d (letter 2 ⨾ count ⨾ count)
form_of d Kind.Cut = of_axes 2 d (letter 2 ⨾ why 2)
form_of d Kind.Face = of_axes 3 d (letter 3 ⨾ sign ⨾ count)
form_of d Kind.Patch = of_axes 3 d (count ⨾ row 3 ⨾ signed w64 63)
form_of d Kind.On = of_axes 3 d (point 3)
form_of d Kind.Off = of_axes 3 d (point 3 ⨾ why 3)
form_of d Kind.Del = point d
form_of d Kind.Tip = point d
form_of d Kind.Kept = count ⨾ count ⨾ count
form_of d Kind.End = nothing

-- ---- the table

-- the kinds of lines in reports of pictures with d axes
abbrev pub table : ℕ → Table Fields
table d = record { kinds = kinds; first_word = first_word; form_of = form_of d }

-- a kind of line, and fields of that kind
abbrev pub Split : Type 0
Split = Tables.Split Fields

-- the fields are in range, in reports of pictures with d axes
abbrev pub IsSplitOf : ℕ → Split → Type 0
IsSplitOf d s = Tables.IsSplitOf (table d) s

-- the words of the line: its first word, and those of its fields
abbrev pub split_words : ℕ → Split → List (List ℕ)
split_words d s = Tables.split_words (table d) s
