-- The fields of each kind of line are a form, so the kinds are a table, and the laws of tables hold of all lines.
-- A further kind of line is one clause of `is_form`.
use Rattle.std.proofs.Common.{◌≡◌, ◌+◌, ◌≤◌, ℕ, true, Some, length, refl, arith, lit≤}
use Rattle.text_terms.specs.Forms.{IsForm, name, ◌⨾◌}
use Rattle.text_terms.specs.Tables.{kind_among, is_word, IsTable, IsRoomy}
use Rattle.text_terms.proofs.FieldLaws.{count_form, weight_form, point_form, row_form}
use Rattle.text_terms.proofs.FormLaws.{nothing_form, behind_form, both_form, axes_form}
use Rattle.text_terms.specs.PictureKinds.{kind_word}
use Rattle.text_terms.proofs.PictureKindLaws.{word_kind, kind_short}
use Rattle.text_terms.proofs.WeightLaws.{why_form}
use Rattle.text_terms.proofs.Words.{natural_form, letter_form, long_form, name_form}
use Rattle.report_terms.specs.Kinds.{point, Kind, kinds, first_word, form_of, table}
use Rattle.report_terms.proofs.Words.{number_form, sign_form}

-- ---- kinds, one clause for each

pub is_form : (d : ℕ) (k : Kind) → IsForm (form_of d k)
is_form d Kind.Shape = both_form _ _ (number_form d) (behind_form (kind_word d) (point d ⨾ name) (word_kind d) (both_form _ _ (point_form d) name_form))
is_form d Kind.Parts = both_form _ _ count_form (both_form _ _ count_form count_form)
is_form d Kind.Near = both_form _ _ (point_form d) (both_form _ _ (point_form d) weight_form)
is_form d Kind.Contour = axes_form 2 d _ (both_form _ _ (point_form 2) (both_form _ _ (natural_form 4 (lit≤ tt)) (both_form _ _ count_form count_form)))
is_form d Kind.At = axes_form 2 d _ (point_form 2)
is_form d Kind.Seg = axes_form 2 d _
    (both_form _ _ count_form (both_form _ _ count_form (both_form _ _ (letter_form 2) (both_form _ _ (row_form 2) long_form))))
is_form d Kind.Least = axes_form 2 d _ (both_form _ _ count_form (both_form _ _ count_form (both_form _ _ count_form count_form)))
is_form d Kind.Turn = axes_form 2 d _ (both_form _ _ (letter_form 2) (both_form _ _ count_form count_form))
is_form d Kind.Cut = axes_form 2 d _ (both_form _ _ (letter_form 2) (why_form 2))
is_form d Kind.Face = axes_form 3 d _ (both_form _ _ (letter_form 3) (both_form _ _ sign_form count_form))
is_form d Kind.Patch = axes_form 3 d _ (both_form _ _ count_form (both_form _ _ (row_form 3) long_form))
is_form d Kind.On = axes_form 3 d _ (point_form 3)
is_form d Kind.Off = axes_form 3 d _ (both_form _ _ (point_form 3) (why_form 3))
is_form d Kind.Del = point_form d
is_form d Kind.Tip = point_form d
is_form d Kind.Kept = both_form _ _ count_form (both_form _ _ count_form count_form)
is_form d Kind.End = nothing_form

-- ---- the table

-- the first word of a kind is that of no kind before it
kind_again : (k : Kind) → kind_among first_word kinds (first_word k) ≡ Some k
kind_again Kind.Shape = refl
kind_again _ = refl

first_is_word : (k : Kind) → is_word (first_word k) ≡ true
first_is_word Kind.Shape = refl
first_is_word _ = refl

-- the first word and the fields have room in a line
fits_line : (d : ℕ) (k : Kind) → d ≤ 3 → length (first_word k) + 1 + (form_of d k).room ≤ 1024
fits_line d Kind.Shape h = omega (arith, kind_short d)
fits_line d _ h = omega arith

pub is_table : (d : ℕ) → IsTable (table d)
is_table d = record { again = kind_again; clean = first_is_word; forms = is_form d }

pub is_roomy : (d : ℕ) → d ≤ 3 → IsRoomy (table d)
is_roomy d h = record { fits = λ k. fits_line d k h }
