-- Lines in order: what comes first, one line more, and which line stands last.
-- Laws of lines; no text and no program stands here.
use Rattle.std.proofs.Common.{◌≡◌, ◌≢◌, ℕ, ◌≤◌, ◌<◌, refl, ap, subst, arith, lit≤, List, [], ◌∷◌, ◌++◌, length, length-append}
use Rattle.std.specs.Prelude.{ℤ, All}
use Rattle.std.proofs.lemmas.List.Elements.{All-nil, All-cons, All-push}
use Rattle.report_terms.specs.Lines.{Line}
use Rattle.report_terms.specs.Sections.{Section, rank, section_of}
use Rattle.report_lines.specs.Reports.{line_rank, IsHeading, ComesInOrder}
use Rattle.report_lines.specs.Standing.{HasRisenTo}
use Rattle.report_lines.specs.Ended.{last_has}

pub only_end : (l : Line) → line_rank l ≡ rank Section.End → l ≡ Line.End
only_end Line.End h = refl
only_end _ h = absurd (omega (arith, h))

-- a heading comes first
pub comes_first : (greatest : ℤ) (l : Line) → IsHeading greatest l → ComesInOrder greatest [] l
comes_first greatest l h = record { heading = λ e. h; order = All-nil (λ e. line_rank e ≤ line_rank l); more = All-nil (λ e. line_rank e < rank Section.End) }

-- behind a heading alone no line is of a later section
pub risen_first : (greatest : ℤ) (l : Line) → IsHeading greatest l → HasRisenTo 0 (l ∷ [])
risen_first greatest (Line.Shape h) i = record {
  all = All-cons (λ m. line_rank m ≤ 0) (Line.Shape h) [] (omega arith) (All-nil (λ m. line_rank m ≤ 0));
  front = [];
  last = Line.Shape h;
  is = refl;
  highest = refl;
}
risen_first greatest _ i = absurd i

rank_most : (s : Section) → rank s ≤ rank Section.End
rank_most Section.Heading = lit≤ tt
rank_most Section.Counted = lit≤ tt
rank_most Section.Nearest = lit≤ tt
rank_most Section.Contours = lit≤ tt
rank_most Section.Faces = lit≤ tt
rank_most Section.Thinned = lit≤ tt
rank_most Section.End = lit≤ tt

module _ (r : ℕ) (lines : List Line) (h : HasRisenTo r lines) where
  -- one more line
  pub risen_more : (l : Line) → r ≤ line_rank l → HasRisenTo (line_rank l) (lines ++ l ∷ [])
  risen_more l o = record {
    all = All-push (λ e. line_rank e ≤ line_rank l) lines l (λ k d i. let a = h.all k d i in omega (arith, a, o)) (omega arith);
    front = lines;
    last = l;
    is = refl;
    highest = refl;
  }

  -- a line of an earlier section comes in no order
  pub too_early : (greatest : ℤ) (l : Line) → line_rank l < r → ComesInOrder greatest lines l → ⊥
  too_early greatest l o c =
      let a = last_has (λ e. line_rank e ≤ line_rank l) h.front h.last (subst (All (λ e. line_rank e ≤ line_rank l)) h.is c.order) in
      omega (arith, a, h.highest, o)

  -- behind `end` none does
  pub behind_end : (greatest : ℤ) (l : Line) → r ≡ rank Section.End → ComesInOrder greatest lines l → ⊥
  behind_end greatest l e c =
      let a = last_has (λ m. line_rank m < rank Section.End) h.front h.last (subst (All (λ m. line_rank m < rank Section.End)) h.is c.more) in
      omega (arith, a, h.highest, e)

  -- and any other does
  pub comes_next : (greatest : ℤ) (l : Line) → r ≤ line_rank l → r ≢ rank Section.End → ComesInOrder greatest lines l
  comes_next greatest l o n = record {
    heading = λ e. absurd (omega (arith, ap length e, ap length h.is, length-append h.front (h.last ∷ [])));
    order = λ k d i. let a = h.all k d i in omega (arith, a, o);
    more = λ k d i. let a = h.all k d i in omega (arith, a, h.highest, rank_most (section_of h.last), n);
  }
