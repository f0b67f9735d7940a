-- The laws of sections, by their ranks: no law has a clause for a kind of line or a section.
-- What a section's lines claim is no matter here.
use Rattle.std.proofs.Common.{◌≡◌, inl, inr, ℕ, suc, ◌≤◌, ◌<◌, false, Option, Some, None, refl, ap, sym, ◌∙◌, subst, arith, List, [], ◌∷◌, ◌++◌, length, take}
use Rattle.std.proofs.Common.{drop, get_or}
use Rattle.std.specs.Prelude.{All, ◌==◌, filter_map, slice_get}
use Rattle.std.proofs.lemmas.Bool.{cond-true, cond-false, eqb-true, eq-eqb, ne_eqb, cases_Bool, cases_lt}
use Rattle.std.specs.List.{cons_option}
use Rattle.std.proofs.lemmas.List.{append-nil, length-append, take-append-drop}
use Rattle.std.proofs.lemmas.List.Elements.{All-nil, All-push, All-head, All-tail, filter-append}
use Rattle.text_terms.specs.Reports.{IsReport}
use Rattle.report_terms.specs.Subjects.{Subject}
use Rattle.report_terms.specs.Lines.{Line}
use Rattle.report_terms.proofs.SectionLines.{stood}
use Rattle.report_terms.specs.Sections.{Section, sections, rank, section_of, lines_of, SectionClaim, SectionComplete, IsComplete, HasCome, GoodAfter, GoodSoFar}
use Rattle.report_terms.specs.Sections.{analysis}

-- ---- ranks

-- the section of a rank
named : ℕ → Section
named k = get_or sections k Section.End

named_rank : (s : Section) → named (rank s) ≡ s
unfolding named
named_rank Section.Heading = refl
named_rank _ = refl

-- a section is known from its rank
pub rank_same : (s t : Section) → rank s ≡ rank t → s ≡ t
rank_same s t e = sym (named_rank s) ∙ ap named e ∙ named_rank t

pub rank_most : (s : Section) → rank s ≤ rank Section.End
rank_most Section.Heading = omega arith
rank_most _ = omega arith

-- ---- the lines of a section, when one more line comes

pub lines_push : (s : Section) (lines : List Line) (l : Line) → section_of l ≡ s → lines_of s (lines ++ l ∷ []) ≡ lines_of s lines ++ l ∷ []
lines_push s lines l e =
    filter-append (λ m. rank (section_of m) == rank s) lines (l ∷ [])
    ∙ ap (λ ls. lines_of s lines ++ ls) (cond-true (rank (section_of l) == rank s) (l ∷ []) [] (eq-eqb _ _ (ap rank e)))

pub lines_skip : (s : Section) (lines : List Line) (l : Line) → rank s < rank (section_of l) → lines_of s (lines ++ l ∷ []) ≡ lines_of s lines
lines_skip s lines l h =
    filter-append (λ m. rank (section_of m) == rank s) lines (l ∷ [])
    ∙ ap (λ ls. lines_of s lines ++ ls) (cond-false (rank (section_of l) == rank s) (l ∷ []) [] (ne_eqb _ _ (λ e. omega (arith, h, e))))
    ∙ append-nil (lines_of s lines)

-- an earlier section stays as it is
pub complete_kept : (X : Subject) (lines : List Line) (l : Line) (s : Section) → rank s < rank (section_of l) → IsComplete X s lines
    → IsComplete X s (lines ++ l ∷ [])
complete_kept X lines l s h c = subst (SectionComplete X s) (sym (lines_skip s lines l h)) c

-- ---- how far the lines have come

pub come_none : (X : Subject) → HasCome X Section.Heading []
come_none X = record { order = All-nil (λ e. rank (section_of e) ≤ 0); complete = λ t h. absurd (omega (arith, h)) }

-- one more line of the section
pub come_more : (X : Subject) (s : Section) (lines : List Line) (l : Line) → HasCome X s lines → section_of l ≡ s → HasCome X s (lines ++ l ∷ [])
come_more X s lines l h e =
    let r : rank (section_of l) ≡ rank s = ap rank e in
    record {
      order = All-push (λ m. rank (section_of m) ≤ rank s) lines l h.order (omega (arith, r));
      complete = λ t m. complete_kept X lines l t (omega (arith, r, m)) (h.complete t m);
    }

-- the section is complete, so the next one may come
pub come_past : (X : Subject) (s t : Section) (lines : List Line) → rank t ≡ suc (rank s) → HasCome X s lines → IsComplete X s lines → HasCome X t lines
come_past X s t lines e h c = record {
  order = λ i d m. let o = h.order i d m in omega (arith, o, e);
  complete = λ u m. elim (cases_lt (rank u) (rank s))
      [ inl l ↦ h.complete u l | inr l ↦ subst (λ v. IsComplete X v lines) (rank_same s u (omega (arith, l, m, e))) c ];
}

-- a line of the section that the lines have come to is good where its claim is true
pub good_at : (X : Subject) (s : Section) (lines : List Line) (l : Line) → HasCome X s lines → section_of l ≡ s
    → SectionClaim X (lines_of Section.Heading lines) s (lines_of s lines) l → GoodAfter X lines l
good_at X s lines l h e c =
    record {
      come = subst (λ t. HasCome X t lines) (sym e) h;
      claim = subst (λ t. SectionClaim X (lines_of Section.Heading lines) t (lines_of t lines) l)
          (sym e) c;
    }

-- and its claim is true where it is good
pub claim_at : (X : Subject) (s : Section) (lines : List Line) (l : Line) → section_of l ≡ s → GoodAfter X lines l
    → SectionClaim X (lines_of Section.Heading lines) s (lines_of s lines) l
claim_at X s lines l e g = subst (λ t. SectionClaim X (lines_of Section.Heading lines) t (lines_of t lines) l) e g.claim

-- ---- the last line

-- the last of some lines is of no later section than the lines have come to
pub order_last : (s : Section) (lines : List Line) (l : Line) → All (λ e. rank (section_of e) ≤ rank s) (lines ++ l ∷ []) → rank (section_of l) ≤ rank s
order_last s [] l a = All-head (λ e. rank (section_of e) ≤ rank s) l [] a
order_last s (m ∷ lines) l a = order_last s lines l (All-tail (λ e. rank (section_of e) ≤ rank s) m (lines ++ l ∷ []) a)

-- no line is good after `end`
none_after_end : (X : Subject) (lines : List Line) (l : Line) → GoodAfter X (lines ++ Line.End ∷ []) l → ⊥
none_after_end X lines l g =
    let o : rank Section.End ≤ rank (section_of l) = order_last (section_of l) lines Line.End g.come.order in
    let e : section_of l ≡ Section.End = rank_same (section_of l) Section.End (omega (arith, o, rank_most (section_of l))) in
    let c : lines_of Section.End (lines ++ Line.End ∷ []) ≡ [] = claim_at X Section.End (lines ++ Line.End ∷ []) l e g in
    let n = ap length (sym (lines_push Section.End lines Line.End refl) ∙ c) in
    omega (arith, n, length-append (lines_of Section.End lines) (Line.End ∷ []))

-- so the analysis is a report
pub is_report : (X : Subject) → IsReport (analysis X)
is_report X = record { ends = none_after_end X }

-- ---- facts

-- what is read off lines is read off the lines of its section
pub facts_of_section : {F : Type 0} (s : Section) (f : Line → Option F) → ((l : Line) → (rank (section_of l) == rank s) ≡ false → f l ≡ None)
    → (lines : List Line) → filter_map f lines ≡ filter_map f (lines_of s lines)
facts_of_section s f h [] = refl
facts_of_section s f h (l ∷ lines) = elim (cases_Bool (rank (section_of l) == rank s)) [
  | inl t ↦ step f l lines (lines_of s lines) (facts_of_section s f h lines)
      ∙ ap (filter_map f) (sym (cond-true (rank (section_of l) == rank s) (l ∷ lines_of s lines) (lines_of s lines) t))
  | inr e ↦ skip f l lines (h l e) ∙ facts_of_section s f h lines
      ∙ ap (filter_map f) (sym (cond-false (rank (section_of l) == rank s) (l ∷ lines_of s lines) (lines_of s lines) e))
]
  where
    step : {F : Type 0} (f : Line → Option F) (l : Line) (xs ys : List Line) → filter_map f xs ≡ filter_map f ys → filter_map f (l ∷ xs) ≡ filter_map f (l ∷ ys)
    step f l xs ys e = ap (cons_option (f l)) e

    skip : {F : Type 0} (f : Line → Option F) (l : Line) (xs : List Line) → f l ≡ None → filter_map f (l ∷ xs) ≡ filter_map f xs
    skip f l xs e = ap (λ o. cons_option o (filter_map f xs)) e

-- one line of a section alone stands at the front
front_alone : (s : Section) (lines : List Line) (k : ℕ) → length (lines_of s (take k lines)) ≡ 1 → length (lines_of s lines) ≡ 1
    → lines_of s (take k lines) ≡ lines_of s lines
front_alone s lines k e f =
    let parts : lines_of s lines ≡ lines_of s (take k lines) ++ lines_of s (drop k lines) = ap (lines_of s) (sym (take-append-drop k lines))
    ∙ filter-append (λ m. rank (section_of m) == rank s) (take k lines) (drop k lines) in
    let none = empty (lines_of s (drop k lines)) (omega (arith, e, f, ap length parts, length-append (lines_of s (take k lines)) (lines_of s (drop k lines))))
    in
    sym (append-nil (lines_of s (take k lines))) ∙ ap (λ ls. lines_of s (take k lines) ++ ls) (sym none) ∙ sym parts
  where
    empty : (ls : List Line) → length ls ≡ 0 → ls ≡ []
    empty [] h = refl
    empty (l ∷ ls) h = absurd (omega arith)

-- each line of a section makes the section's claim after the heading and those of the section before it
pub claims_of_section : (X : Subject) (s : Section) (lines : List Line) → 0 < rank s → GoodSoFar X lines → IsComplete X Section.Heading lines
    → (j : ℕ) (l : Line) → slice_get (lines_of s lines) j ≡ Some l
    → SectionClaim X (lines_of Section.Heading lines) s (take j (lines_of s lines)) l
claims_of_section X s lines past good one j l e =
    let p = stood (λ m. rank (section_of m) == rank s) lines j l e in
    let same = rank_same (section_of l) s (eqb-true _ _ p.passes) in
    let g = good p.place l p.there in
    let first = g.come.complete Section.Heading (omega (arith, past, ap rank same)) in
    subst (λ ls. SectionClaim X (lines_of Section.Heading lines) s ls l) p.before
    (subst (λ h. SectionClaim X h s (lines_of s (take p.place lines)) l) (front_alone Section.Heading lines p.place first one)
    (claim_at X s (take p.place lines) l same g))

-- no line of a section past s stands among lines that have come to s
pub none_past : (s t : Section) (lines : List Line) → rank s < rank t → All (λ e. rank (section_of e) ≤ rank s) lines → lines_of t lines ≡ []
none_past s t [] h a = refl
none_past s t (l ∷ lines) h a =
    let o = All-head (λ e. rank (section_of e) ≤ rank s) l lines a in
    cond-false (rank (section_of l) == rank t) (l ∷ lines_of t lines) (lines_of t lines) (ne_eqb _ _ (λ e. omega (arith, o, h, e)))
    ∙ none_past s t lines h (All-tail (λ e. rank (section_of e) ≤ rank s) l lines a)
