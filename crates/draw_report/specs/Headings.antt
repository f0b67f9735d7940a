-- The first line of a further report: of which kind it is.
-- Said of one line's bytes, and of the bytes that begin with it.
use Rattle.std.specs.Prelude.{◌≡◌, ℕ, List, Option, None, Some}
use Rattle.shape_terms.specs.Points.{Point}
use Rattle.report_text.specs.Next.{TakesClaim}
use Rattle.draw_report.specs.Parts.{Part, LineKind}
use Rattle.draw_report.specs.Kinds.{lines_of}
use Rattle.draw_report.specs.declared.kind.Kind.{Kind}

-- the bytes of a line are a heading of the kind with these sides
pub record IsHeadingLine (K : LineKind) (sides : Point) (bytes : List ℕ) : Type 0 where
  pub line : K.Line
  pub fields : K.text.IsLine line
  pub spelled : K.text.spelling line ≡ bytes
  pub heading : K.part line ≡ Part.Heading sides

-- the kind that the bytes of a line are the heading of, with these sides: None exactly where there is none
abbrev pub KindFound : Point → List ℕ → Option Kind → Type 0
KindFound sides bytes None = (k : Kind) → IsHeadingLine (lines_of k) sides bytes → ⊥
KindFound sides bytes (Some k) = IsHeadingLine (lines_of k) sides bytes

-- a heading of the kind with these sides was taken from the front of the bytes, and the rest is left now
pub record TakesHeading (K : LineKind) (sides : Point) (new : Option (List ℕ)) (bytes : List ℕ) : Type 0 where
  pub line : K.Line
  pub takes : TakesClaim K.text bytes new line
  pub heading : K.part line ≡ Part.Heading sides
