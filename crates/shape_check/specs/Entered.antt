-- Where a row that waits is entered, it stands for the lines.
-- Laws for the ghost members of rows; what a row stands for, `Rows` says.
use Rattle.std.proofs.Common.{◌≡◌, Bool, true, false, List, [], refl, subst, sym}
use Rattle.std.proofs.lemmas.Bool.{both_ways}
use Rattle.report_terms.specs.Subjects.{Subject}
use Rattle.report_terms.specs.Lines.{Line}
use Rattle.report_terms.specs.Sections.{Section, lines_of, HasCome}
use Rattle.shape_check.specs.Rows.{RowFollows, EndFollows}

pub row_entered : (X : Subject) (s t : Section) (is_past : Bool) (Stands : List Line → Type 0) (Waits : Type 0) (Rest : List Line → Type 0) (lines : List Line)
    → is_past ≡ false → Stands [] → Waits → HasCome X s lines → lines_of s lines ≡ [] → RowFollows X s t is_past Stands Waits Rest lines
row_entered X s t false Stands Waits Rest lines f a w h e = (record { come = h; stands = subst Stands (sym e) a }, w)
row_entered X s t true Stands Waits Rest lines f a w h e = absurd (both_ways true f refl)

pub end_entered : (X : Subject) (ended : Bool) (lines : List Line) → ended ≡ false → HasCome X Section.End lines → lines_of Section.End lines ≡ []
    → EndFollows X ended lines
end_entered X false lines f h e = (h, e)
end_entered X true lines f h e = absurd (both_ways true f refl)
