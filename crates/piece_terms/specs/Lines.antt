-- The lines of a report of pieces: their kinds, the fields of each, and how they stand in words.
-- A further kind is a constructor of `Kind` and a clause of each function; what a line claims stands in `PieceReports`.
use Rattle.std.specs.Prelude.{ℕ, ℤ, List, [], ◌∷◌, codes}
use Rattle.std.specs.Int.{w64}
use Rattle.shape_terms.specs.Points.{Point}
use Rattle.shape_terms.specs.Refutations.{Refutation}
use Rattle.shape_terms.specs.Covers.{Evidence}
use Rattle.text_terms.specs.Forms.{Form, natural, signed, letter, nothing, behind, ◌⨾◌}
use Rattle.text_terms.specs.Fields.{count, point, row}
use Rattle.text_terms.specs.Spellings.{Spelled}
use Rattle.text_terms.specs.Tables.{Table, Split, spelled_via}
use Rattle.text_terms.specs.Weights.{why}
use Rattle.piece_terms.specs.SplitLines.{SplitLine}

-- ---- kinds

pub data Kind : Type 0 where
  Pieces Chain Piece Turn Cut End : Kind

-- the word that a line of this kind begins with
abbrev pub first_word : Kind → List ℕ
first_word Kind.Pieces = codes "pieces"
first_word Kind.Chain = codes "chain"
first_word Kind.Piece = codes "piece"
first_word Kind.Turn = codes "turn"
first_word Kind.Cut = codes "cut"
first_word Kind.End = codes "end"

-- what the fields of a line of this kind are
abbrev pub Fields : Kind → Type 0
Fields Kind.Pieces = Point
Fields Kind.Chain = Point × (ℕ × (ℕ × ℕ))
Fields Kind.Piece = ℕ × (ℕ × (ℕ × (List ℤ × ℤ)))
Fields Kind.Turn = ℕ × (ℕ × ℕ)
Fields Kind.Cut = ℕ × Refutation
Fields Kind.End = Unit {0}

-- and how they stand in words; reports of this kind have the number 1
abbrev pub form_of : (k : Kind) → Form (Fields k)
form_of Kind.Pieces = behind (codes "1") (point 2)
form_of Kind.Chain = point 2 ⨾ natural 4 ⨾ count ⨾ count
form_of Kind.Piece = count ⨾ count ⨾ letter 2 ⨾ row 2 ⨾ signed w64 63
form_of Kind.Turn = letter 2 ⨾ count ⨾ count
form_of Kind.Cut = letter 2 ⨾ why 2
form_of Kind.End = nothing

abbrev pub table : Table Fields
table = record {
  kinds = Kind.Pieces ∷ Kind.Chain ∷ Kind.Piece ∷ Kind.Turn ∷ Kind.Cut ∷ Kind.End ∷ [];
  first_word = first_word;
  form_of = form_of;
}

-- ---- lines

-- the sides of the picture; a line that lists the split of a contour; or the end
pub data Line : Type 0 where
  Pieces : (sides : Point) → Line
  Listed : SplitLine → Line
  End : Line

-- the kind of a line, and its fields
abbrev pub split : Line → Split Fields
split (Line.Pieces sides) = record { kind = Kind.Pieces; fields = sides }
split (Line.Listed (SplitLine.Chain c n m)) = record { kind = Kind.Chain; fields = (c.pixel, (c.side, (n, m))) }
split (Line.Listed (SplitLine.Piece b e t line)) = record { kind = Kind.Piece; fields = (b, (e, (t, (line.a, line.mu)))) }
split (Line.Listed (SplitLine.Gap t (Evidence.Turned i j))) = record { kind = Kind.Turn; fields = (t, (i, j)) }
split (Line.Listed (SplitLine.Gap t (Evidence.Cut why))) = record { kind = Kind.Cut; fields = (t, why) }
split Line.End = record { kind = Kind.End; fields = tt }

-- the line of a kind with these fields
abbrev pub joined : (k : Kind) → Fields k → Line
joined Kind.Pieces sides = Line.Pieces sides
joined Kind.Chain (p, (side, (n, m))) = Line.Listed (SplitLine.Chain (record { pixel = p; side = side }) n m)
joined Kind.Piece (b, (e, (t, (a, mu)))) = Line.Listed (SplitLine.Piece b e t (record { a = a; mu = mu }))
joined Kind.Turn (t, (i, j)) = Line.Listed (SplitLine.Gap t (Evidence.Turned i j))
joined Kind.Cut (t, why) = Line.Listed (SplitLine.Gap t (Evidence.Cut why))
joined Kind.End _ = Line.End

-- how the lines stand in text
abbrev pub spelled : Spelled Line
spelled = spelled_via table split
