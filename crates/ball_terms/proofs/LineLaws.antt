-- The fields of each kind of line are a form, so the kinds are a table: the laws of tables hold of the lines of ball reports.
-- A further kind of line is one clause of each function.
use Rattle.std.proofs.Common.{◌≡◌, ◌+◌, ◌≤◌, ◌∙◌, ℕ, true, Some, length, refl, sym, ap, arith}
use Rattle.std.specs.Prelude.{codes}
use Rattle.text_terms.specs.Forms.{IsForm, behind, ◌⨾◌}
use Rattle.text_terms.specs.Fields.{count, point}
use Rattle.text_terms.specs.PictureKinds.{kind_word}
use Rattle.text_terms.specs.Spellings.{IsSpelled}
use Rattle.text_terms.specs.Tables.{kind_among, is_word, IsTable, IsRoomy}
use Rattle.text_terms.proofs.FormLaws.{nothing_form, behind_form, both_form}
use Rattle.text_terms.proofs.FieldLaws.{count_form, weight_form, point_form}
use Rattle.text_terms.proofs.PictureKindLaws.{word_kind, kind_short}
use Rattle.text_terms.proofs.TableLaws.{literal, spelled_through, split_short}
use Rattle.ball_terms.specs.Balls.{ball_by}
use Rattle.ball_terms.specs.Lines.{Kind, first_word, Fields, form_of, table, Line, split, spelled}

again : (d : ℕ) (k : Kind) → kind_among first_word (table d).kinds (first_word k) ≡ Some k
again d Kind.Balls = refl
again d _ = refl

clean : (k : Kind) → is_word (first_word k) ≡ true
clean Kind.Balls = refl
clean _ = refl

forms : (d : ℕ) (k : Kind) → IsForm (form_of d k)
forms d Kind.Balls = behind_form (codes "1") (behind (kind_word d) (point d ⨾ count)) (literal (codes "1") refl)
    (behind_form (kind_word d) (point d ⨾ count) (word_kind d) (both_form _ _ (point_form d) count_form))
forms d Kind.Ball = both_form _ _ (point_form d) (both_form _ _ (point_form d) (both_form _ _ weight_form (point_form d)))
forms d Kind.End = nothing_form

pub is_table : (d : ℕ) → IsTable (table d)
is_table d = record { again = again d; clean = clean; forms = forms d }

-- ---- no line of two or three axes is longer than 1024 bytes

fits : (d : ℕ) → d ≤ 3 → (k : Kind) → length (first_word k) + 1 + (form_of d k).room ≤ 1024
fits d h Kind.Balls = omega (arith, h, kind_short d)
fits d h Kind.Ball = omega (arith, h)
fits d h Kind.End = omega arith

is_roomy : (d : ℕ) → d ≤ 3 → IsRoomy (table d)
is_roomy d h = record { fits = fits d h }

pub short_line : (d : ℕ) → d ≤ 3 → (l : Line) → (spelled d).IsLine l → length ((spelled d).spelling l) ≤ 1024
short_line d h l a = split_short (table d) (is_table d) (is_roomy d h) (split l) a

-- ---- no two lines have one spelling

abbrev joined : (k : Kind) → Fields k → Line
joined Kind.Balls (sides, number) = Line.Balls sides number
joined Kind.Ball (p, (q, (s, w))) = Line.Ball (ball_by p q s w)
joined Kind.End u = Line.End

joined_split : (l : Line) → joined (split l).kind (split l).fields ≡ l
joined_split (Line.Balls sides number) = refl
joined_split (Line.Ball b) = refl
joined_split Line.End = refl

pub one_to_one : (l m : Line) → split l ≡ split m → l ≡ m
one_to_one l m e = sym (joined_split l) ∙ ap (λ s. joined s.kind s.fields) e ∙ joined_split m

pub spelled_balls : (d : ℕ) → IsSpelled (spelled d)
spelled_balls d = spelled_through (table d) (is_table d) split one_to_one
