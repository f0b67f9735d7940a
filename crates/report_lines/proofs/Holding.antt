-- A report that holds of a picture is one whose lines come in order.
-- Laws of lines and texts; what the lines tell stands in `Telling`.
use Rattle.std.proofs.Common.{◌≡◌, inl, inr, ℕ, suc, ◌<◌, refl, ap, sym, ◌∙◌, subst, arith, List, [], ◌∷◌, ◌++◌, length, get_or, map, pos, Some, take}
use Rattle.std.specs.Prelude.{All, slice_get, ℤ, nat_abs}
use Rattle.std.proofs.lemmas.Bool.{cases_lt}
use Rattle.std.proofs.lemmas.List.{length-take-le, get_or-take}
use Rattle.std.proofs.lemmas.Option.{slice_get_within, slice_get-get_or}
use Rattle.shape_terms.specs.Points.{AreSides}
use Rattle.text_terms.specs.Reports.{BeginsWith, GoodSoFar}
use Rattle.text_terms.proofs.ListPushes.{take_next}
use Rattle.report_terms.specs.Subjects.{Subject}
use Rattle.report_terms.specs.Lines.{Line, IsLineOf}
use Rattle.report_terms.specs.Sections as Analysis
use Rattle.report_terms.specs.Sections.{Section, rank, section_of, HasCome, GoodAfter}
use Rattle.report_terms.specs.Holds as Analyses
use Rattle.report_terms.proofs.SectionLaws.{rank_most, is_report}
use Rattle.report_lines.specs.Reports.{Space, line_rank, IsHeading, in_order, IsReport, FirstBad}
use Rattle.report_lines.specs.Said.{given_sides}
use Rattle.report_lines.proofs.Order.{only_end}

-- behind no line no section but the heading has come
none_before : (X : Subject) {s : Section} → HasCome X s [] → 0 < rank s → ⊥
none_before X come later = let e = come.complete Section.Heading later in omega (arith, e)

-- a line that is good behind no line is the heading
first_heading : (greatest : ℤ) (X : Subject) (l : Line) → AreSides greatest (map pos X.picture.sides) → GoodAfter X [] l → IsHeading greatest l
first_heading greatest X (Line.Shape h) box g = subst (AreSides greatest) (sym g.claim.1.0) box
first_heading greatest X _ box g = absurd (none_before X g.come (omega arith))

same_sides : (sides : List ℕ) → map nat_abs (map pos sides) ≡ sides
same_sides [] = refl
same_sides (n ∷ sides) = ap (λ t. n ∷ t) (same_sides sides)

-- and it gives the sides of the picture
first_given : (X : Subject) (l : Line) (rest : List Line) → GoodAfter X [] l → given_sides (l ∷ rest) ≡ X.picture.sides
first_given X (Line.Shape h) rest g = ap (map nat_abs) g.claim.1.0 ∙ same_sides X.picture.sides
first_given X _ rest g = absurd (none_before X g.come (omega arith))

pub given_all : (X : Subject) (front : List Line) → Analysis.GoodSoFar X (front ++ Line.End ∷ []) → given_sides (front ++ Line.End ∷ []) ≡ X.picture.sides
given_all X [] good = first_given X Line.End [] (good 0 Line.End refl)
given_all X (l ∷ front) good = first_given X l (front ++ Line.End ∷ []) (good 0 l refl)

-- no line that another one follows is `end`
none_is_end : (X : Subject) (lines : List Line) → Analysis.GoodSoFar X lines → (i : ℕ) → suc i < length lines → slice_get lines i ≡ Some Line.End → ⊥
none_is_end X lines good i h e =
    let next = get_or lines (suc i) Line.End in
    let g = good (suc i) next (slice_get-get_or lines (suc i) Line.End h) in
    (is_report X).ends (take i lines) next (subst (λ ls. GoodAfter X ls next) (sym (take_next lines i Line.End e)) g)

-- good lines come in order
good_in_order : (s : Space) (X : Subject) (lines : List Line) → AreSides s.greatest (map pos X.picture.sides) → Analysis.GoodSoFar X lines
    → GoodSoFar (in_order s) lines
good_in_order s X lines box good k l e =
    let g = good k l e in
    let below = slice_get_within lines k l e in
    record {
      heading = λ z. first_heading s.greatest X l box (subst (λ ls. GoodAfter X ls l) z g);
      order = g.come.order;
      more = λ i d h.
          let n = length-take-le k lines (omega (arith, below)) in
          let m = get_or lines i d in
          let same : get_or (take k lines) i d ≡ m = get_or-take k lines i d (omega (arith, h, n)) in
          let there : slice_get lines i ≡ Some m = slice_get-get_or lines i d (omega (arith, h, n, below)) in
          subst (λ x. line_rank x < rank Section.End) (sym same) (elim (cases_lt (line_rank m) (rank Section.End)) [
            | inl less ↦ less
            | inr more ↦
                let last : m ≡ Line.End = only_end m (omega (arith, more, rank_most (section_of m))) in
                absurd (none_is_end X lines good i (omega (arith, h, n, below)) (there ∙ ap (λ x. Some x) last))
          ]);
    }

-- good lines with `end` last are a report in order
pub lines_in_order : (s : Space) (X : Subject) (text : List ℕ) (front : List Line) → Analyses.BeginsWith X text (front ++ Line.End ∷ []) []
    → length X.picture.sides ≡ s.axes → AreSides s.greatest (map pos X.picture.sides)
    → IsReport s text (front ++ Line.End ∷ [])
lines_in_order s X text front b axes box = record {
  whole = record {
    split = b.split;
    fields = subst (λ d. All (IsLineOf d) (front ++ Line.End ∷ [])) axes b.fields;
    short = b.short;
    good = good_in_order s X (front ++ Line.End ∷ []) box b.good;
  };
  ends = record { front = front; is = refl };
}

pub holding_in_order : (s : Space) (X : Subject) (text : List ℕ) → Analyses.Holds X text → length X.picture.sides ≡ s.axes
    → AreSides s.greatest (map pos X.picture.sides) → (lines : List Line) × IsReport s text lines
holding_in_order s X text (front, b) axes box = (front ++ Line.End ∷ [], lines_in_order s X text front b axes box)

-- a report has no first bad line
pub never_both : (s : Space) (text : List ℕ) (lines : List Line) (k : ℕ) → IsReport s text lines → FirstBad s text k → ⊥
never_both s text lines k report bad = bad.fails (report.ends.front, subst (λ ls. BeginsWith (in_order s) text ls []) report.ends.is report.whole)
