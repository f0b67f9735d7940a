-- The heading of good lines is their first line, so their text begins with it.
-- A law of lines and texts; what a heading claims stands in `Sections`.
use Rattle.std.proofs.Common.{◌≡◌, inl, inr, ℕ, ◌<◌, refl, sym, ap, ◌∙◌, arith, List, [], ◌∷◌, length}
use Rattle.std.specs.Prelude.{◌==◌}
use Rattle.std.proofs.lemmas.Bool.{cond-true, eq-eqb, cases_lt}
use Rattle.report_terms.specs.Subjects.{Subject}
use Rattle.report_terms.specs.Lines.{Line, Heading, text_of}
use Rattle.report_terms.specs.Sections.{Section, rank, section_of, lines_of, GoodAfter, GoodSoFar}
use Rattle.report_terms.specs.Holds.{GivesRule}
use Rattle.report_terms.proofs.SectionLaws.{rank_same, claim_at}

pub heading_first : (X : Subject) (lines : List Line) (h : Line) → GoodSoFar X lines → lines_of Section.Heading lines ≡ h ∷ []
    → (rest : List Line) × (lines ≡ h ∷ rest)
heading_first X [] h good e = cc
heading_first X (l ∷ ls) h good e = elim (cases_lt 0 (rank (section_of l))) [
  | inl late ↦
      let first : GoodAfter X [] l = good 0 l refl in
      let none = first.come.complete Section.Heading late in
      absurd (omega arith)
  | inr early ↦
      let here = cond-true (rank (section_of l) == 0) (l ∷ lines_of Section.Heading ls) (lines_of Section.Heading ls)
      (eq-eqb (rank (section_of l)) 0 (omega arith)) in
      let both : l ∷ lines_of Section.Heading ls ≡ h ∷ [] = sym here ∙ e in
      let same : l ≡ h = cc in
      (ls, ap (λ x. x ∷ ls) same)
]

-- and no line behind it is another
pub past_heading : (X : Subject) (lines : List Line) (l h : Line) → lines_of Section.Heading lines ≡ h ∷ [] → GoodAfter X lines l → 0 < rank (section_of l)
past_heading X lines l h e good = elim (cases_lt 0 (rank (section_of l))) [
  | inl late ↦ late
  | inr early ↦
      let none : lines_of Section.Heading lines ≡ [] =
      (claim_at X Section.Heading lines l (rank_same (section_of l) Section.Heading (omega (arith, early))) good).0 in
      let n = ap length (sym e ∙ none) in
      absurd (omega arith)
]

-- the text of good lines names the rule of their heading
pub gives_rule : (X : Subject) (lines : List Line) (text : List ℕ) (h : Heading) (name : List ℕ) → GoodSoFar X lines
    → lines_of Section.Heading lines ≡ Line.Shape h ∷ [] → h.rule ≡ name → text ≡ text_of lines → GivesRule text name
gives_rule X lines text h name good e named is =
    let r = heading_first X lines (Line.Shape h) good e in
    record { heading = h; rest = text_of r.0; is = is ∙ ap text_of r.1; named = named }
