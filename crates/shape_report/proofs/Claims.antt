-- From the words of a line to its bytes, and back.
-- Laws for all lines at once; what the words of a kind are, its form says.
use Rattle.std.proofs.Common.{◌≡◌, ◌≢◌, ℕ, ℤ, Option, Some, None, Bool, true, false, cond, List, [], ◌∷◌, ◌++◌, refl, sym, ap, ◌∙◌}
use Rattle.std.specs.Prelude.{MatchOption}
use Rattle.std.specs.List.{join_with_byte}
use Rattle.std.specs.Option.{option_and_then}
use Rattle.text_terms.specs.Forms.{is_same}
use Rattle.text_terms.specs.Tables.{all_read, kind_among, read_kind, read_fields, read_line}
use Rattle.text_terms.proofs.FormLaws.{same_only}
use Rattle.text_terms.proofs.TableLaws.{read_only, read_none}
use Rattle.report_terms.specs.Kinds.{Kind, kinds, first_word, form_of, table}
use Rattle.report_terms.specs.Lines as Terms
use Rattle.report_terms.specs.Lines.{split, axes_of, IsLineOf, line_words, spelling}
use Rattle.report_terms.proofs.LineLaws.{is_table}
use Rattle.report_terms.proofs.Spelled.{same_words, words_of_line}
use Rattle.report_text.specs.Reading.{split_words, ReadsBytes}
use Rattle.report_text.proofs.Claims as Texts
use Rattle.report_text.proofs.SplitWords.{join-split_words, split_words-join}
use Rattle.shape_refute.specs.Evidences.{evidence_of}
use Rattle.shape_refute.specs.declared.refusal.Refusal.{Refusal}
use Rattle.shape_refute.specs.declared.refusal.Refusal.TheVariants.{Turned, Cut}
use Rattle.shape_report.specs.declared.line.Line.{Line}
use Rattle.shape_report.specs.LineOf.{line_of}
use Rattle.shape_report.specs.Reading.{HasNoThird, ReadsEnd, ReadsKind, ReadsFields, ReadsLine, earlier, later}
use Rattle.shape_report.specs.Spelling.{split_text}

-- the text of a line's words is its spelling
pub spelled : (d : ℕ) (l : Terms.Line) → IsLineOf d l → split_text d (split l) ≡ spelling l
spelled d l a = Texts.spelled (table d) (split l) ∙ ap (join_with_byte 32) (same_words d l a)

-- the line of a gap is one of flat pictures alone, and its words hang on no number of axes
pub gap_range : (d t : ℕ) (r : Refusal) → IsLineOf d (Terms.Line.Gap t (evidence_of r)) → IsLineOf 2 (Terms.Line.Gap t (evidence_of r))
gap_range d t (Turned turn) a = (refl, a.1)
gap_range d t (Cut why) a = (refl, a.1)

pub gap_text : (d t : ℕ) (r : Refusal) → split_text 2 (split (Terms.Line.Gap t (evidence_of r))) ≡ split_text d (split (Terms.Line.Gap t (evidence_of r)))
gap_text d t (Turned turn) = refl
gap_text d t (Cut why) = refl

split_spelling : (d : ℕ) (l : Terms.Line) → IsLineOf d l → split_words (spelling l) ≡ line_words l
split_spelling d l a = split_words-join (first_word (split l).kind) ((form_of (axes_of l) (split l).kind).words (split l).fields) (words_of_line d l a)

-- the first kinds are passed over where the word is none of theirs
among_more : {K : Type 0} (f : K → List ℕ) (ks js : List K) (w : List ℕ) → kind_among f ks w ≡ None → kind_among f (ks ++ js) w ≡ kind_among f js w
among_more f [] js w h = refl
among_more f (k ∷ ks) js w h =
    let P : Bool → Type 0 = λ b. cond b (Some k) (kind_among f ks w) ≡ None → cond b (Some k) (kind_among f (ks ++ js) w) ≡ kind_among f js w in
    (elim (is_same w (f k)) as P [ true ↦ λ e. cc | false ↦ λ e. among_more f ks js w e ]) h

-- a word that is none of the earlier kinds and none of the later is that of no line
pub none_of_all : (d : ℕ) (word : List ℕ) (words : List (List ℕ)) → kind_among first_word earlier word ≡ None → kind_among first_word later word ≡ None
    → all_read (read_fields (table d) word words) ≡ None
none_of_all d word words first rest =
    let none : kind_among first_word kinds word ≡ None = among_more first_word earlier later word first ∙ rest in
    ap (λ o. all_read (option_and_then (λ j. read_kind (table d) j words) o)) none

-- the fields behind the first word are those of its kind
pub of_kind : {P : Type 0} (d : ℕ) (coords : P → List ℤ) (k : Kind) (word : List ℕ) (words : List (List ℕ)) (r : Option (Line P)) → word ≡ first_word k
    → ReadsKind d coords k words r → ReadsFields d coords word words r
of_kind d coords k word words None e h =
    let f = ap (λ w. kind_among first_word kinds w) e ∙ (is_table d).again k in
    ap (λ o. all_read (option_and_then (λ j. read_kind (table d) j words) o)) f ∙ h
of_kind d coords k word words (Some line) e h =
    let f = ap (λ w. kind_among first_word kinds w) e ∙ (is_table d).again k in
    (ap (λ o. option_and_then (λ j. read_kind (table d) j words) o) f ∙ h.0, h.1)

-- and so they are where the word was compared with that of the kind
pub of_word : {P : Type 0} (d : ℕ) (coords : P → List ℤ) (k : Kind) (word is : List ℕ) (words : List (List ℕ)) (r : Option (Line P)) → is_same word is ≡ true
    → is ≡ first_word k → ReadsKind d coords k words r → ReadsFields d coords word words r
of_word d coords k word is words r e f h = of_kind d coords k word words r (same_only word is e ∙ f) h

-- a line is its first word and the fields behind it
pub of_fields : {P : Type 0} (d : ℕ) (coords : P → List ℤ) (words : List (List ℕ)) (word : List ℕ) (left : List (List ℕ)) (r : Option (Line P))
    → words ≡ word ∷ left → ReadsFields d coords word left r → ReadsLine d coords words r
of_fields d coords words word left None e h = ap (λ ws. read_line (table d) ws) e ∙ h
of_fields d coords words word left (Some line) e h = (ap (λ ws. read_line (table d) ws) e ∙ ap all_read h.0, h.1)

-- a line has the words of a text exactly where it has its bytes
pub from_words : {P : Type 0} (d : ℕ) (coords : P → List ℤ) (bytes : List ℕ) (r : Option (Line P)) → ReadsLine d coords (split_words bytes) r
    → MatchOption r ((l : Terms.Line) → IsLineOf d l → spelling l ≢ bytes)
    (λ line. IsLineOf d (line_of coords line) × (spelling (line_of coords line) ≡ bytes) × HasNoThird line)
from_words d coords bytes None h = λ l a e. read_none (table d) (is_table d) (split_words bytes) h (split l) a
    (same_words d l a ∙ sym (split_spelling d l a) ∙ ap split_words e)
from_words d coords bytes (Some line) h =
    let l = line_of coords line in
    let r = read_only (table d) (is_table d) (split_words bytes) (split l) h.0 in
    (r.0, ap (join_with_byte 32) (sym (same_words d l r.0) ∙ r.1) ∙ join-split_words bytes, h.1)

-- and so it is one of the kind of report
pub of_claim : {P : Type 0} (d : ℕ) (coords : P → List ℤ) (bytes : List ℕ) (r : Option (Line P))
    → MatchOption r ((l : Terms.Line) → IsLineOf d l → spelling l ≢ bytes)
    (λ line. IsLineOf d (line_of coords line) × (spelling (line_of coords line) ≡ bytes) × HasNoThird line)
    → ReadsBytes (Terms.spelled d) (λ l. line_of coords l) bytes r
of_claim d coords bytes None h = h
of_claim d coords bytes (Some line) h = (h.0, h.1)

pub read_bytes : {P : Type 0} (d : ℕ) (coords : P → List ℤ) (bytes : List ℕ) (r : Option (Line P)) → ReadsLine d coords (split_words bytes) r
    → ReadsBytes (Terms.spelled d) (λ l. line_of coords l) bytes r
read_bytes d coords bytes r h = of_claim d coords bytes r (from_words d coords bytes r h)

-- whether no word is left
pub ends : (words : List (List ℕ)) (r : Option (Unit {0})) → MatchOption r (words ≢ []) (λ _. words ≡ []) → ReadsEnd words r
ends [] None h = absurd (h refl)
ends (w ∷ ws) None h = λ s. refl
ends words (Some u) h = h
