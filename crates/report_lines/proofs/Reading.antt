-- From the heading of a report to the lines behind it, for a sketch of them.
-- Laws over texts and lines; a sketch is only what it is said to be.
use Rattle.std.proofs.Common.{◌≡◌, ℕ, refl, sym, subst, List, [], ◌∷◌, Option, None, Some}
use Rattle.shape_desk.specs.Line.{IfTold}
use Rattle.text_terms.specs.Going.{IsTextOf}
use Rattle.text_terms.proofs.Checking.{begins_none, begins_next}
use Rattle.report_text.specs.Checks.{HasCome}
use Rattle.report_terms.specs.Lines.{Line}
use Rattle.report_lines.specs.Reports.{Space, in_order}
use Rattle.report_lines.specs.Standing.{HasRisenTo, StandsFor}
use Rattle.report_lines.specs.Headings.{TakesHeading}
use Rattle.report_lines.proofs.Order.{comes_first, risen_first}

module _ {S : Type 0} (IsOf : List Line → S → Type 0) (s : Space) where
  -- the heading was taken, and a sketch begins with it
  pub begun : (text left : Option (List ℕ)) (heading : Line) (r : ℕ) (sketch : S) → IfTold text (λ bytes. TakesHeading s bytes left heading)
      → IsOf (heading ∷ []) sketch → r ≡ 0
      → HasCome (in_order s) (StandsFor IsOf r sketch) text left 2
  begun None left heading r sketch t k z = tt
  begun (Some text) left heading r sketch t k z = record {
    lines = heading ∷ [];
    bytes = t.takes.rest;
    told = t.takes.left;
    front = begins_next (in_order s) text [] text heading t.takes.rest (begins_none (in_order s) text) t.takes.starts
        (comes_first s.greatest heading t.heading);
    follows = record { come = subst (λ n. HasRisenTo n (heading ∷ [])) (sym z) (risen_first s.greatest heading t.heading); sketch_is = k };
    number = refl;
  }

  -- what stands for all lines is their sketch
  pub of_lines : (text : Option (List ℕ)) (r : ℕ) (sketch : S) → IfTold text (IsTextOf (in_order s) (StandsFor IsOf r sketch))
      → IfTold text (IsTextOf (in_order s) (λ lines. IsOf lines sketch))
  of_lines None r sketch h = tt
  of_lines (Some text) r sketch h = record { front = h.front; whole = h.whole; follows = h.follows.sketch_is }
