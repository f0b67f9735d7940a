-- A report of pieces that holds shows for each contour of the picture a split with the fewest pieces.
-- What good lines list stands in `Listed`; here they are read off a report.
use Rattle.std.proofs.Common.{◌≡◌, ℕ, suc, List, [], ◌∷◌, ◌++◌, take, refl, ap, ◌∙◌, subst, append-nil, map, pos}
use Rattle.std.specs.Prelude.{slice_get, filter_map, flat_map, Option, Some, None, All}
use Rattle.std.specs.List.{AllZip}
use Rattle.shape_terms.specs.Points.{Point}
use Rattle.shape_terms.specs.Pictures.{Picture}
use Rattle.shape_terms.specs.Traces.{Contour, AreContours}
use Rattle.shape_terms.proofs.ContourLists.{contours_same}
use Rattle.text_terms.specs.Courses.{Course, after}
use Rattle.text_terms.specs.Spellings.{text_of}
use Rattle.text_terms.specs.Reports.{Holds}
use Rattle.piece_terms.specs.SplitLines.{SplitLine, Standing, at_start, after_line}
use Rattle.piece_terms.specs.Lines.{Line, spelled}
use Rattle.piece_terms.specs.PieceReports.{State, ListClaim, Claim, course, piece_report}
use Rattle.piece_terms.specs.Shown.{SplitFact, split_lines, piece_lines, SplitShows, PiecesShow}
use Rattle.piece_terms.proofs.Listed.{GoodFrom, facts_of, all_shown}
use Rattle.piece_terms.proofs.ListedLines.{all_told}

-- each line is good in the state that the lines before it led to
abbrev pub GoodSteps : {L S : Type 0} → Course L S → S → List L → Type 0
GoodSteps c s [] = Unit {0}
GoodSteps c s (l ∷ lines) = c.Claim s l × GoodSteps c (c.next s l) lines

steps_from : {L S : Type 0} (c : Course L S) (s : S) (lines : List L)
    → ((k : ℕ) (l : L) → slice_get lines k ≡ Some l → c.Claim (after c.next s (take k lines)) l) → GoodSteps c s lines
steps_from c s [] h = tt
steps_from c s (l ∷ lines) h = (h 0 l refl, steps_from c (c.next s l) lines (λ k m e. h (suc k) m e))

-- the line that a line of a report lists
abbrev listed : Line → Option SplitLine
listed (Line.Listed l) = Some l
listed _ = None

-- the lines behind a heading that list these
abbrev up_to_end : List SplitLine → List Line
up_to_end ls = map (λ l. Line.Listed l) ls ++ Line.End ∷ []

-- good lines that tell facts of each contour of the picture
record AreTold (X : Picture) (lines : List Line) : Type 0 where
  contours : List Contour
  contours_are : AreContours X contours
  facts : List SplitFact
  each : AllZip SplitShows contours facts
  are : lines ≡ piece_lines (map pos X.sides) facts

module _ (X : Picture) (contours : List Contour) (are : AreContours X contours) where
  -- what a line behind the heading claims of the contours of the picture
  claimed : (s : Standing) (l : Line) → Claim X (State.Listing s) l → ListClaim contours s l
  claimed s l h = subst (λ cs. ListClaim cs s l) (contours_same X h.0 contours h.1 are) h.2

  -- good lines behind the heading, up to the end, list the pieces of all contours
  list_all : (s : Standing) (lines : List Line) → GoodSteps (course X) (State.Listing s) (lines ++ Line.End ∷ [])
      → GoodFrom contours s (filter_map listed (lines ++ Line.End ∷ []))
  list_all s [] g = claimed s Line.End g.0
  list_all s (Line.Listed l ∷ lines) g = (claimed s (Line.Listed l) g.0, list_all (after_line s l) lines g.1)
  list_all s (Line.Pieces sides ∷ lines) g = absurd (claimed s (Line.Pieces sides) g.0)
  list_all s (Line.End ∷ []) g = absurd g.1.0
  list_all s (Line.End ∷ (l ∷ lines)) g = absurd g.1.0

  -- and there is no other line among them
  only_listed : (s : Standing) (lines : List Line) → GoodSteps (course X) (State.Listing s) (lines ++ Line.End ∷ [])
      → lines ++ Line.End ∷ [] ≡ up_to_end (filter_map listed (lines ++ Line.End ∷ []))
  only_listed s [] g = refl
  only_listed s (Line.Listed l ∷ lines) g = ap (λ ls. Line.Listed l ∷ ls) (only_listed (after_line s l) lines g.1)
  only_listed s (Line.Pieces sides ∷ lines) g = absurd (claimed s (Line.Pieces sides) g.0)
  only_listed s (Line.End ∷ []) g = absurd g.1.0
  only_listed s (Line.End ∷ (l ∷ lines)) g = absurd g.1.0

  -- so they tell facts of all contours
  told_behind : (sides : Point) → sides ≡ map pos X.sides → (lines : List Line) → GoodSteps (course X) (State.Listing at_start) (lines ++ Line.End ∷ [])
      → AreTold X (Line.Pieces sides ∷ (lines ++ Line.End ∷ []))
  told_behind sides e lines g =
      let ls = filter_map listed (lines ++ Line.End ∷ []) in
      let good = list_all at_start lines g in
      let told : ls ≡ flat_map split_lines (facts_of ls) = all_told contours ls good in
      record {
        contours = contours;
        contours_are = are;
        facts = facts_of ls;
        each = all_shown contours at_start ls good;
        are = ap (λ p. Line.Pieces p ∷ (lines ++ Line.End ∷ [])) e
            ∙ ap (λ m. Line.Pieces (map pos X.sides) ∷ m) (only_listed at_start lines g ∙ ap up_to_end told);
      }

module _ (X : Picture) where
  some_contours : (s : Standing) (lines : List Line) → GoodSteps (course X) (State.Listing s) (lines ++ Line.End ∷ [])
      → (contours : List Contour) × AreContours X contours
  some_contours s [] g = (g.0.0, g.0.1)
  some_contours s (l ∷ lines) g = (g.0.0, g.0.1)

  good_told : (lines : List Line) → GoodSteps (course X) State.Opening (lines ++ Line.End ∷ []) → AreTold X (lines ++ Line.End ∷ [])
  good_told [] g = absurd g.0
  good_told (Line.Listed l ∷ lines) g = absurd g.0
  good_told (Line.End ∷ lines) g = absurd g.0
  good_told (Line.Pieces sides ∷ lines) g = let c = some_contours at_start lines g.1 in told_behind X c.0 c.1 sides g.0 lines g.1

pub holds_shows : (X : Picture) (text : List ℕ) → Holds (piece_report X) text → PiecesShow X text
holds_shows X text (lines, b) =
    let t = good_told X lines (steps_from (course X) State.Opening (lines ++ Line.End ∷ []) b.good) in
    record {
      contours = t.contours;
      are = t.contours_are;
      facts = t.facts;
      each = t.each;
      fields = subst (All spelled.IsLine) t.are b.fields;
      text_is = b.split ∙ append-nil _ ∙ ap (text_of spelled) t.are;
    }
