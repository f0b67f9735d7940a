-- The fields of each kind of line of an edge report are a form, so the kinds are a table, and the laws of tables hold of all lines.
-- A further kind of line is one clause of each function.
use Rattle.std.proofs.Common.{◌≡◌, ◌+◌, ◌≤◌, ◌∙◌, true, Some, length, refl, ap, sym, arith, lit<, lit≤, inl, inr}
use Rattle.std.specs.Prelude.{ℤ, pos, negsuc, codes}
use Rattle.std.specs.Int.{w64}
use Rattle.std.proofs.lemmas.Bool.{eqb-true}
use Rattle.text_terms.specs.Forms.{IsWord, IsForm, ◌⨾◌, signed}
use Rattle.text_terms.specs.Fields.{count, weight}
use Rattle.text_terms.specs.Spellings.{IsSpelled}
use Rattle.text_terms.specs.Tables.{kind_among, is_word, IsTable}
use Rattle.text_terms.proofs.FieldLaws.{count_form, weight_form, point_form}
use Rattle.text_terms.proofs.FormLaws.{one_form, nothing_form, behind_form, both_form, shaped_form}
use Rattle.text_terms.proofs.TableLaws.{literal, spelled_through, split_short}
use Rattle.text_terms.proofs.Words.{natural_form, long_form}
use Rattle.text_terms.proofs.WeightLaws.{why_form}
use Rattle.edge_terms.specs.Corners.{IsSign}
use Rattle.edge_terms.specs.EdgeEvidence.{EdgeEvidence}
use Rattle.edge_terms.specs.Kinds.{sign_word, sign_value, is_sign, sign, standard, Kind, first_word, form_of, table}
use Rattle.edge_terms.specs.Lines.{Line, split, joined, spelled}

-- ---- signs

pub sign_form : IsForm sign
unfolding IsWord
sign_form = one_form IsSign is_sign sign_word sign_value 1 (record { passes = passes; ranges = ranges; guesses = guesses; word = word; few = few })
  where
    passes : (z : ℤ) → IsSign z → is_sign z ≡ true
    passes z (inl e) = ap is_sign e
    passes z (inr e) = ap is_sign e

    ranges : (z : ℤ) → is_sign z ≡ true → IsSign z
    ranges (pos n) e = inl (ap pos (eqb-true n 1 e))
    ranges (negsuc n) e = inr (ap negsuc (eqb-true n 0 e))

    guesses : (z : ℤ) → IsSign z → sign_value (sign_word z) ≡ z
    guesses z (inl e) = ap (λ y. sign_value (sign_word y)) e ∙ sym e
    guesses z (inr e) = ap (λ y. sign_value (sign_word y)) e ∙ sym e

    word : (z : ℤ) → IsSign z → IsWord (sign_word z)
    word (pos n) a = (lit< tt, (lit< tt, tt))
    word (negsuc n) a = (lit< tt, (lit< tt, tt))

    few : (z : ℤ) → IsSign z → length (sign_word z) ≤ 1
    few (pos n) a = omega arith
    few (negsuc n) a = omega arith

pub standard_form : IsForm standard
standard_form = shaped_form _ _ (sign ⨾ sign ⨾ weight ⨾ weight ⨾ signed w64 63) (λ a. refl) (λ b. refl)
    (both_form _ _ sign_form (both_form _ _ sign_form (both_form _ _ weight_form (both_form _ _ weight_form long_form))))

-- ---- the table

-- the first word of a kind is that of no kind before it
again : (k : Kind) → kind_among first_word table.kinds (first_word k) ≡ Some k
again Kind.Edges = refl
again _ = refl

clean : (k : Kind) → is_word (first_word k) ≡ true
clean Kind.Edges = refl
clean _ = refl

fits : (k : Kind) → length (first_word k) + 1 + (form_of k).room ≤ 1024
fits Kind.Edges = omega arith
fits _ = omega arith

forms : (k : Kind) → IsForm (form_of k)
forms Kind.Edges = behind_form (codes "1") (count ⨾ count) (literal (codes "1") refl) (both_form _ _ count_form count_form)
forms Kind.Cycle = both_form _ _ (point_form 2) (both_form _ _ (natural_form 4 (lit≤ tt)) (both_form _ _ count_form count_form))
forms Kind.Arc = both_form _ _ count_form (both_form _ _ count_form standard_form)
forms Kind.Bend = both_form _ _ count_form count_form
forms Kind.Fold = why_form 2
forms Kind.End = nothing_form

pub is_table : IsTable table
is_table = record { again = again; clean = clean; forms = forms }

-- ---- lines

-- no line is longer than 1024 bytes
pub short_line : (l : Line) → spelled.IsLine l → length (spelled.spelling l) ≤ 1024
short_line l a = split_short table is_table (record { fits = fits }) (split l) a

joined_split : (l : Line) → joined (split l).kind (split l).fields ≡ l
joined_split (Line.Edges w h) = refl
joined_split (Line.Cycle c n m) = refl
joined_split (Line.Arc s line) = refl
joined_split (Line.Gap (EdgeEvidence.Bend i j)) = refl
joined_split (Line.Gap (EdgeEvidence.Fold why)) = refl
joined_split Line.End = refl

pub spelled_lines : IsSpelled spelled
spelled_lines = spelled_through table is_table split (λ l m e. sym (joined_split l) ∙ ap (λ s. joined s.kind s.fields) e ∙ joined_split m)
