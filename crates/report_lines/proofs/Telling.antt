-- What the lines of a report that holds tell of the picture.
-- The laws of its parts stand in `Holding`, `ObjectTold` and `LeftTold`.
use Rattle.std.proofs.Common.{◌≡◌, ℕ, ap, sym, ◌∙◌, subst, List, [], ◌∷◌, ◌++◌, length}
use Rattle.std.specs.Prelude.{IsTrue, not, ◌&&◌}
use Rattle.std.proofs.lemmas.List.{append-nil}
use Rattle.std.proofs.lemmas.List.Elements.{recursion_from_All}
use Rattle.shape_terms.specs.Points.{in_box}
use Rattle.shape_terms.specs.Thinning.{opening_stage}
use Rattle.report_terms.specs.Subjects.{Subject}
use Rattle.report_terms.specs.Lines.{Line, IsLineOf, text_of}
use Rattle.report_terms.specs.ThinningLines.{events_of}
use Rattle.report_terms.specs.Sections.{Section, lines_of, NamesRule}
use Rattle.report_terms.specs.Holds.{Holds}
use Rattle.report_terms.specs.Shows.{Shows, content_of}
use Rattle.report_terms.proofs.HoldsShows.{holds_shows}
use Rattle.report_lines.specs.Reports.{Space}
use Rattle.report_lines.specs.Said.{said_in, is_near, is_left, picture_of}
use Rattle.report_lines.specs.Tells.{StandsIn, Tells, AreSquares}
use Rattle.report_lines.proofs.BoxValues.{picture_is}
use Rattle.report_lines.proofs.TextLines.{one_list}
use Rattle.report_lines.proofs.Holding.{given_all, lines_in_order}
use Rattle.report_lines.proofs.ObjectTold.{near_is_object, squares_told}
use Rattle.report_lines.proofs.LeftTold.{deleted_is_gone, leaves}

pub holding_tells : (s : Space) (X : Subject) (text : List ℕ) → Holds X text → StandsIn s X.picture → Tells s X text
holding_tells s X text (front, b) stands =
    let all = front ++ Line.End ∷ [] in
    let t = holds_shows X text (front, b) in
    let d = length X.picture.sides in
    let same : t.lines ≡ all = one_list d t.lines all (recursion_from_All (IsLineOf d) t.lines t.fields) (recursion_from_All (IsLineOf d) all b.fields)
    (sym t.text_is ∙ b.split ∙ append-nil (text_of all)) in
    let shows = subst (λ ls. Shows X.picture t.rule (content_of ls)) same t.shows in
    let given = given_all X front b.good in
    let near = near_is_object X.picture all shows.nears in
    let stage = shows.thinning.stage in
    let left = leaves t.rule X.picture (events_of all) (opening_stage t.rule X.picture) stage shows.thinning.thinning.0 stands.picture.filled in
    record {
      lines = all;
      report = lines_in_order s X text front b stands.picture.axes stands.box;
      object = ap (λ n. picture_of n (is_near all)) given ∙ picture_is X.picture (is_near all) stands.picture.filled near;
      squares = subst (λ n. AreSquares X.picture n) (ap (λ n. (said_in n all).squares) (sym given)) (squares_told X.picture all shows.nears);
      rule = t.rule;
      names = subst (λ ls. NamesRule X.shelf (lines_of Section.Heading ls) t.rule) same t.names;
      stage = stage;
      thinning = shows.thinning.thinning;
      left = ap (λ n. picture_of n (is_left all)) (given ∙ sym left.sides)
          ∙ picture_is stage.left (is_left all) left.filled (λ p i.
          (λ j. near p (subst (λ n. IsTrue (in_box n p)) left.sides i) j && not (deleted_is_gone all p j)) ∙ sym (left.value p));
    }
