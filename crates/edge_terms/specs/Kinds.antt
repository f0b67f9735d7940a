-- The kinds of lines of an edge report, and the fields of each: a form for each kind, read as the format says it aloud.
-- A further kind is a constructor, its first word, its fields and its form; what a line claims stands elsewhere.
use Rattle.std.specs.Prelude.{◌==◌, ℕ, ℤ, pos, negsuc, Bool, nat_eq, if◌then◌else◌, List, [], ◌∷◌, get_or, codes}
use Rattle.std.specs.Int.{w64}
use Rattle.shape_terms.specs.Points.{Point}
use Rattle.shape_terms.specs.Refutations.{Refutation}
use Rattle.text_terms.specs.Forms.{Form, one_word, natural, signed, nothing, behind, ◌⨾◌, shaped}
use Rattle.text_terms.specs.Fields.{count, weight, point}
use Rattle.text_terms.specs.Tables.{Table}
use Rattle.text_terms.specs.Weights.{why}
use Rattle.edge_terms.specs.Corners.{IsSign}
use Rattle.edge_terms.specs.EdgeStraight.{Standard}

-- ---- fields

-- the word of a sign, and the sign that is guessed of a word
abbrev pub sign_word : ℤ → List ℕ
sign_word (pos n) = codes "+"
sign_word (negsuc n) = codes "-"

abbrev pub sign_value : List ℕ → ℤ
sign_value w = if get_or w 0 0 == 43 then pos 1 else negsuc 0

abbrev pub is_sign : ℤ → Bool
is_sign (pos n) = nat_eq n 1
is_sign (negsuc n) = nat_eq n 0

abbrev pub sign : Form ℤ
sign = one_word IsSign is_sign sign_word sign_value 1

-- a standard line: its two signs, its two coefficients and its lower bound
abbrev pub standard : Form Standard
standard = shaped (λ p. record { h = p.0; v = p.1.0; a = p.1.1.0; c = p.1.1.1.0; mu = p.1.1.1.1 }) (λ l. (l.h, (l.v, (l.a, (l.c, l.mu)))))
    (sign ⨾ sign ⨾ weight ⨾ weight ⨾ signed w64 63)

-- ---- kinds

-- a kind of line
pub data Kind : Type 0 where
  Edges Cycle Arc Bend Fold End : Kind

-- the word that a line of this kind begins with
abbrev pub first_word : Kind → List ℕ
first_word Kind.Edges = codes "edges"
first_word Kind.Cycle = codes "cycle"
first_word Kind.Arc = codes "arc"
first_word Kind.Bend = codes "bend"
first_word Kind.Fold = codes "fold"
first_word Kind.End = codes "end"

-- what the fields of a line of this kind are
abbrev pub Fields : Kind → Type 0
Fields Kind.Edges = ℕ × ℕ
Fields Kind.Cycle = Point × (ℕ × (ℕ × ℕ))
Fields Kind.Arc = ℕ × (ℕ × Standard)
Fields Kind.Bend = ℕ × ℕ
Fields Kind.Fold = Refutation
Fields Kind.End = Unit {0}

-- the fields of a kind of line
abbrev pub form_of : (k : Kind) → Form (Fields k)
form_of Kind.Edges = behind (codes "1") (count ⨾ count)
form_of Kind.Cycle = point 2 ⨾ natural 4 ⨾ count ⨾ count
form_of Kind.Arc = count ⨾ count ⨾ standard
form_of Kind.Bend = count ⨾ count
form_of Kind.Fold = why 2
form_of Kind.End = nothing

-- the kinds of lines
abbrev pub table : Table Fields
table = record { kinds = Kind.Edges ∷ Kind.Cycle ∷ Kind.Arc ∷ Kind.Bend ∷ Kind.Fold ∷ Kind.End ∷ []; first_word = first_word; form_of = form_of }
