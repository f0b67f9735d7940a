-- A row takes its next line: where its first section is past, where the line is of it, and where the line is of another one.
-- Laws over what the judges stand for and answer; which sections these are is no matter here.
use Rattle.std.proofs.Common.{◌≡◌, ◌≢◌, inl, inr, suc, arith, subst, sym, Bool, true, false, List, [], ◌∷◌, ◌++◌, Result, Ok, Err}
use Rattle.std.specs.Prelude.{◌↔◌, IsTrue, IfOk}
use Rattle.std.specs.Bool.{OnTrue}
use Rattle.std.proofs.lemmas.Bool.{OnTrue_at, OnTrue_from, cases_lt}
use Rattle.std.proofs.lemmas.Result.{IfOk-weaker}
use Rattle.report_terms.specs.Subjects.{Subject}
use Rattle.report_terms.specs.Lines.{Line}
use Rattle.report_terms.specs.Sections.{Section, rank, section_of, lines_of, SectionClaim, SectionComplete, HasCome, GoodAfter}
use Rattle.report_terms.proofs.SectionLaws.{rank_same, order_last, come_more, come_past, none_past, lines_push, good_at, claim_at}
use Rattle.shape_check.specs.Rows.{MayCome, HasReached, IsAt, RowFollows}

-- what a row stands for, by whether its first section is past
pub row_past : (X : Subject) (s t : Section) (is_past : Bool) (Stands : List Line → Type 0) (Waits : Type 0) (Rest : List Line → Type 0) (lines : List Line)
    → is_past ≡ true → RowFollows X s t is_past Stands Waits Rest lines → HasReached X t lines × Rest lines
row_past X s t is_past Stands Waits Rest lines e f = subst (λ b. RowFollows X s t b Stands Waits Rest lines) e f

pub row_first : (X : Subject) (s t : Section) (is_past : Bool) (Stands : List Line → Type 0) (Waits : Type 0) (Rest : List Line → Type 0) (lines : List Line)
    → is_past ≡ false → RowFollows X s t is_past Stands Waits Rest lines → IsAt X s Stands lines × Waits
row_first X s t is_past Stands Waits Rest lines e f = subst (λ b. RowFollows X s t b Stands Waits Rest lines) e f

-- both facts of an answer, where it is true
both : {E : Type 0} (A B C : Type 0) (r : Result Bool E) → IfOk r (λ b. IsTrue b ↔ A) → IfOk r (λ b. OnTrue b B) → (A → C) → IfOk r (λ b. OnTrue b (C × B))
both A B C (Ok b) a f g = OnTrue_from b (C × B) (λ e. (g (a.0 e), OnTrue_at e f))
both A B C (Err e) a f g = tt

-- a fact that holds in any case is one more of an answer that is true
pub also : {E : Type 0} (A B : Type 0) (r : Result Bool E) → A → IfOk r (λ b. OnTrue b B) → IfOk r (λ b. OnTrue b (A × B))
also A B r a f = IfOk-weaker r _ _ (λ b h. OnTrue_from b (A × B) (λ e. (a, OnTrue_at e h))) f

module _ {E : Type 0} (X : Subject) (s : Section) (lines : List Line) (l : Line) (answer : Result Bool E) where
  module _ (may : MayCome X s lines l) where
    -- what is good after a line of the section or a later one is so too
    reached : GoodAfter X lines l → HasReached X s (lines ++ l ∷ [])
    reached g = record { next = λ k h. omega (arith, order_last (section_of k) lines l h.come.order, may g) }

    -- the rest of the row stands for the line, where it is good
    pub rest_follows : (New : List Line → Type 0) → IfOk answer (λ b. IsTrue b ↔ GoodAfter X lines l) → IfOk answer (λ b. OnTrue b (New (lines ++ l ∷ [])))
        → IfOk answer (λ b. OnTrue b (HasReached X s (lines ++ l ∷ []) × New (lines ++ l ∷ [])))
    rest_follows New a f = both _ _ _ answer a f reached

  -- the line is of the section that the lines have come to
  module _ (Stands : List Line → Type 0) (at : IsAt X s Stands lines) (e : section_of l ≡ s) where
    pub first_answer : IfOk answer (λ b. IsTrue b ↔ SectionClaim X (lines_of Section.Heading lines) s (lines_of s lines) l)
        → IfOk answer (λ b. IsTrue b ↔ GoodAfter X lines l)
    first_answer a = IfOk-weaker answer _ _ (λ b h. (λ t. good_at X s lines l at.come e (h.0 t), λ g. h.1 (claim_at X s lines l e g))) a

    pub first_follows : (New : List Line → Type 0) (Waits : Type 0) → Waits → IfOk answer (λ b. OnTrue b (New (lines_of s lines ++ l ∷ [])))
        → IfOk answer (λ b. OnTrue b (IsAt X s New (lines ++ l ∷ []) × Waits))
    first_follows New Waits w f = IfOk-weaker answer _ _ (λ b h. OnTrue_from b (IsAt X s New (lines ++ l ∷ []) × Waits) (λ t. (
      record {
        come = come_more X s lines l at.come e;
        stands = subst New (sym (lines_push s lines l e)) (OnTrue_at t h);
      },
      w,
    ))) f

module _ (X : Subject) (s t : Section) (lines : List Line) (l : Line) (Stands Rest : List Line → Type 0) (next : rank t ≡ suc (rank s))
    (at : IsAt X s Stands lines) (m : MayCome X s lines l) (n : section_of l ≢ s) (done : SectionComplete X s (lines_of s lines)) where
  -- the lines have come to the next section, and it has none yet
  pub entered_with : (HasCome X t lines → lines_of t lines ≡ [] → Rest lines) → Rest lines
  entered_with enter = enter (come_past X s t lines next at.come done) (none_past s t lines (omega (arith, next)) at.come.order)

  -- a good line of another section is of the next one or later
  pub may_follow : MayCome X t lines l
  may_follow = λ g. elim (cases_lt (rank s) (rank (section_of l)))
      [ inl h ↦ omega (arith, next, h) | inr h ↦ absurd (n (rank_same (section_of l) s (omega (arith, h, m g)))) ]
