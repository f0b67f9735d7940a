-- Gathering marks: what is owed at one more line, from the heading on.
-- Laws of lines, states and texts; the program stands in none.
use Rattle.std.proofs.Common.{◌≡◌, ℕ, refl, ap, sym, subst, ◌∙◌, Bool, true, false, List, [], ◌∷◌, ◌++◌, Option, Some, None}
use Rattle.std.specs.Prelude.{◌↔◌, IsTrue, filter_map}
use Rattle.std.specs.Option.{option_to_list}
use Rattle.std.proofs.lemmas.List.Elements.{filter_map-append}
use Rattle.shape_desk.specs.Line.{IfTold}
use Rattle.shape_terms.specs.Points.{Point}
use Rattle.text_terms.specs.Reports.{EndsWith, FirstBad}
use Rattle.text_terms.specs.Courses.{reached}
use Rattle.text_terms.specs.Going.{IsTextOf}
use Rattle.text_terms.proofs.CourseLaws.{reached_push, ended_exactly}
use Rattle.text_terms.proofs.Checking.{begins_none, begins_next}
use Rattle.report_text.specs.Checks.{HasCome}
use Rattle.report_text.proofs.Told.{if_told}
use Rattle.draw_report.specs.Parts.{Mark, Part, Standing, LineKind, mark_in, marks_of, step, Claim, course, in_order}
use Rattle.draw_report.specs.Ends.{HasEnded, none_behind, ends_by}
use Rattle.draw_report.specs.Headings.{TakesHeading}
use Rattle.draw_report.specs.Seen.{all_marks}
use Rattle.draw_report.specs.Standing.{StandsFor, standing_of}
use Rattle.draw_report.specs.Answers.{FirstBehind}
use Rattle.draw_report.specs.declared.gatherer.Gatherer.{Gatherer}

-- ---- one more line

marks_push : (K : LineKind) (lines : List K.Line) (l : K.Line) → marks_of K (lines ++ l ∷ []) ≡ marks_of K lines ++ option_to_list (mark_in (K.part l))
marks_push K lines l = filter_map-append (λ m. mark_in (K.part m)) lines (l ∷ []) ∙ ap (λ t. marks_of K lines ++ t) (one (mark_in (K.part l)))
  where
    one : (o : Option Mark) → filter_map (λ (x : Option Mark). x) (o ∷ []) ≡ option_to_list o
    one (Some m) = refl
    one None = refl

module _ (K : LineKind) (sides : Point) (lines : List K.Line) (l : K.Line) where
  -- whether it comes in order, from what it gives
  pub comes_so : (ended : Bool) (p : Part) (b : Bool) → reached (course K sides) lines ≡ standing_of ended → p ≡ K.part l
      → IsTrue b ↔ Claim sides (standing_of ended) p → IsTrue b ↔ (in_order K sides).GoodAfter lines l
  comes_so ended p b s e h = subst (λ q. IsTrue b ↔ Claim sides (reached (course K sides) lines) q) e (subst (λ t. IsTrue b ↔ Claim sides t p) (sym s) h)

  -- what was gathered with it
  pub stands_more : (old new : Gatherer) (p : Part) → StandsFor K sides old lines → p ≡ K.part l → standing_of new.ended ≡ step (standing_of old.ended) p
      → all_marks new.marks.items ≡ all_marks old.marks.items ++ option_to_list (mark_in p) → StandsFor K sides new (lines ++ l ∷ [])
  stands_more old new p h e s m = record {
    standing = reached_push (course K sides) lines l ∙ (λ i. step (h.standing i) (sym e i)) ∙ sym s;
    marks = m ∙ (λ i. h.marks i ++ option_to_list (mark_in (e i))) ∙ sym (marks_push K lines l);
  }

-- where a line may come, the end has not
pub still_runs : (sides : Point) (ended : Bool) (p : Part) → Claim sides (standing_of ended) p → ended ≡ false
still_runs sides true p h = absurd (none_behind sides Standing.Ended p tt h)
still_runs sides false p h = refl

-- the program's own end is that of the lines
ended_seen : (b : Bool) → IsTrue b ↔ HasEnded (standing_of b)
ended_seen true = (λ t. tt, λ h. refl)
ended_seen false = (λ t. absurd (let e : false ≡ true = t in cc), λ h. absurd h)

pub has_ended : (K : LineKind) → K.part K.last ≡ Part.End → ((l : K.Line) → K.part l ≡ Part.End → l ≡ K.last)
    → (sides : Point) (g : Gatherer) (lines : List K.Line) → StandsFor K sides g lines → IsTrue g.ended ↔ EndsWith K.last lines
has_ended K ends only sides g lines h =
    let e = ended_exactly (course K sides) K.last HasEnded (ends_by K ends only sides) (standing_of g.ended) lines (sym h.standing) in
    let s = ended_seen g.ended in
    (λ t. e.0 (s.0 t), λ w. s.1 (e.1 w))

-- ---- the heading

module _ (K : LineKind) (sides : Point) where
  heading_good : (l : K.Line) → K.part l ≡ Part.Heading sides → (in_order K sides).GoodAfter [] l
  heading_good l e = subst (Claim sides Standing.Opening) (sym e) refl

  -- the heading was taken, and nothing gathered
  pub begun : (text left : Option (List ℕ)) (g : Gatherer) → IfTold text (TakesHeading K sides left) → g.marks.items ≡ [] → g.ended ≡ false
      → HasCome (in_order K sides) (StandsFor K sides g) text left 2
  begun None left g t none running = tt
  begun (Some text) left g t none running = record {
    lines = t.line ∷ [];
    bytes = t.takes.rest;
    told = t.takes.left;
    front = begins_next (in_order K sides) text [] text t.line t.takes.rest (begins_none (in_order K sides) text) t.takes.starts
        (heading_good t.line t.heading);
    follows = record {
      standing = ap (step Standing.Opening) t.heading ∙ ap standing_of (sym running);
      marks = ap all_marks none ∙ sym (marks_push K [] t.line ∙ ap (λ p. option_to_list (mark_in p)) t.heading);
    };
    number = refl;
  }

  -- a bad line is behind it
  pub bad_behind : (text left : Option (List ℕ)) (n : ℕ) → IfTold text (TakesHeading K sides left) → IfTold text (λ t. FirstBad (in_order K sides) t n)
      → IfTold text (λ t. FirstBehind K sides t n)
  bad_behind None left n t bad = tt
  bad_behind (Some text) left n t bad = (
    bad,
    λ e. bad.bad (
      t.line ∷ [],
      t.takes.rest,
      sym e,
      begins_next (in_order K sides) text [] text t.line t.takes.rest
          (begins_none (in_order K sides) text) t.takes.starts (heading_good t.line t.heading),
    ),
  )

  -- all that was gathered
  pub gathered : (text : Option (List ℕ)) (g : Gatherer) → IfTold text (IsTextOf (in_order K sides) (StandsFor K sides g))
      → IfTold text (IsTextOf (in_order K sides) (λ lines. all_marks g.marks.items ≡ marks_of K lines))
  gathered text g h = if_told text (λ t k. record { front = k.front; whole = k.whole; follows = k.follows.marks }) h
