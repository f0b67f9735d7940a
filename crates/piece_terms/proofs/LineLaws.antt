-- The kinds of lines of a report of pieces are a table, so no two lines have one spelling and none is too long; and no line is good behind the end.
-- A further kind of line is one clause of `forms` and of `only_end`.
use Rattle.std.proofs.Common.{◌≡◌, ◌+◌, ◌≤◌, ◌∙◌, Some, true, length, refl, sym, ap, arith, lit≤}
use Rattle.std.specs.Prelude.{codes}
use Rattle.shape_terms.specs.Covers.{Evidence}
use Rattle.shape_terms.specs.Pictures.{Picture}
use Rattle.text_terms.specs.Forms.{IsForm}
use Rattle.text_terms.specs.Fields.{point}
use Rattle.text_terms.specs.Spellings.{IsSpelled}
use Rattle.text_terms.specs.Reports.{IsReport}
use Rattle.text_terms.specs.Courses.{EndsBy}
use Rattle.text_terms.specs.Tables.{Split, kind_among, is_word, IsTable}
use Rattle.text_terms.proofs.FormLaws.{nothing_form, behind_form, both_form}
use Rattle.text_terms.proofs.FieldLaws.{count_form, point_form, row_form}
use Rattle.text_terms.proofs.Words.{natural_form, letter_form, long_form}
use Rattle.text_terms.proofs.TableLaws.{literal, spelled_through, split_short}
use Rattle.text_terms.proofs.CourseLaws.{course_ends}
use Rattle.text_terms.proofs.WeightLaws.{why_form}
use Rattle.piece_terms.specs.SplitLines.{SplitLine}
use Rattle.piece_terms.specs.Lines.{Kind, first_word, Fields, form_of, table, Line, split, joined, spelled}
use Rattle.piece_terms.specs.PieceReports.{State, step, Claim, HasEnded, course, piece_report}

-- ---- the table

again : (k : Kind) → kind_among first_word table.kinds (first_word k) ≡ Some k
again Kind.Pieces = refl
again _ = refl

clean : (k : Kind) → is_word (first_word k) ≡ true
clean Kind.Pieces = refl
clean _ = refl

forms : (k : Kind) → IsForm (form_of k)
forms Kind.Pieces = behind_form (codes "1") (point 2) (literal (codes "1") refl) (point_form 2)
forms Kind.Chain = both_form _ _ (point_form 2) (both_form _ _ (natural_form 4 (lit≤ tt)) (both_form _ _ count_form count_form))
forms Kind.Piece = both_form _ _ count_form (both_form _ _ count_form (both_form _ _ (letter_form 2) (both_form _ _ (row_form 2) long_form)))
forms Kind.Turn = both_form _ _ (letter_form 2) (both_form _ _ count_form count_form)
forms Kind.Cut = both_form _ _ (letter_form 2) (why_form 2)
forms Kind.End = nothing_form

pub is_table : IsTable table
is_table = record { again = again; clean = clean; forms = forms }

fits : (k : Kind) → length (first_word k) + 1 + (form_of k).room ≤ 1024
fits Kind.Pieces = omega arith
fits _ = omega arith

-- no line is longer than 1024 bytes
pub short_line : (l : Line) → spelled.IsLine l → length (spelled.spelling l) ≤ 1024
short_line l a = split_short table is_table (record { fits = fits }) (split l) a

joined_split : (l : Line) → joined (split l).kind (split l).fields ≡ l
joined_split (Line.Pieces sides) = refl
joined_split (Line.Listed (SplitLine.Chain c n m)) = refl
joined_split (Line.Listed (SplitLine.Piece b e t line)) = refl
joined_split (Line.Listed (SplitLine.Gap t (Evidence.Turned i j))) = refl
joined_split (Line.Listed (SplitLine.Gap t (Evidence.Cut why))) = refl
joined_split Line.End = refl

-- no two lines have one spelling
pub are_spelled : IsSpelled spelled
are_spelled = spelled_through table is_table split (λ l m e. sym (joined_split l) ∙ ap (λ (s : Split Fields). joined s.kind s.fields) e ∙ joined_split m)

-- ---- the end

only_end : (s : State) (l : Line) → HasEnded (step s l) → l ≡ Line.End
only_end s Line.End h = refl
only_end s (Line.Pieces sides) h = absurd h
only_end State.Opening (Line.Listed l) h = absurd h
only_end (State.Listing s) (Line.Listed l) h = absurd h
only_end State.Ended (Line.Listed l) h = absurd h

none_behind : (X : Picture) (s : State) (l : Line) → HasEnded s → Claim X s l → ⊥
none_behind X State.Ended l e h = h
none_behind X State.Opening l e h = e
none_behind X (State.Listing s) l e h = e

pub ends_by : (X : Picture) → EndsBy (course X) Line.End HasEnded
ends_by X = record { late = λ h. h; here = λ s. tt; only = only_end; none = none_behind X }

-- no line is good behind the end
pub is_report : (X : Picture) → IsReport (piece_report X)
is_report X = course_ends (course X) Line.End HasEnded (ends_by X) spelled
