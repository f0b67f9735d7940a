-- A line at the front of bytes, from its first word and the fields behind it.
-- Laws of bytes and lines; how a field is read is told in `report_text`.
use Rattle.std.proofs.Common.{◌≡◌, ◌+◌, ◌<◌, ℕ, suc, List, [], ◌∷◌, ◌++◌, length, take, get_or, ap, ◌∙◌, arith}
use Rattle.std.proofs.Math.Seq.{take-suc}
use Rattle.report_terms.specs.Kinds.{first_word, form_of}
use Rattle.report_terms.specs.Lines as Terms
use Rattle.report_terms.specs.Lines.{split, IsLineOf}
use Rattle.report_text.specs.Spelling.{behind_blanks}
use Rattle.report_text.specs.Front.{StandsAt}
use Rattle.shape_report.specs.Front.{IsFront}
use Rattle.shape_report.proofs.Claims.{spelled}

-- a line of fewer than 64 bytes, whatever room its fields may take
pub short_front : (d : ℕ) (l : Terms.Line) (bytes : List ℕ) (from end room : ℕ) → IsLineOf d l → take from bytes ≡ first_word (split l).kind
    → StandsAt bytes from end room ((form_of d (split l).kind).words (split l).fields) → get_or bytes end 0 ≡ 10 → end < 64 → IsFront d bytes end l
short_front d l bytes from end room a word s lf few = record {
  fields = a;
  text = s.text ∙ ap (λ (u : List ℕ). u ++ behind_blanks ((form_of d (split l).kind).words (split l).fields)) word ∙ spelled d l a;
  lf = lf;
  short = few;
}

pub front_of : (d : ℕ) (l : Terms.Line) (bytes : List ℕ) (from end room : ℕ) → IsLineOf d l → take from bytes ≡ first_word (split l).kind
    → StandsAt bytes from end room ((form_of d (split l).kind).words (split l).fields) → get_or bytes end 0 ≡ 10 → from + room < 64 → IsFront d bytes end l
front_of d l bytes from end room a word s lf few = short_front d l bytes from end room a word s lf (omega (arith, s.few, few))

-- one byte more
pub one_byte : (bytes word : List ℕ) (n c : ℕ) → take n bytes ≡ word → n < length bytes → get_or bytes n 0 ≡ c → take (suc n) bytes ≡ word ++ c ∷ []
one_byte bytes word n c w l e = take-suc bytes n 0 l ∙ ap (λ (u : List ℕ). u ++ get_or bytes n 0 ∷ []) w ∙ ap (λ b. word ++ b ∷ []) e
