-- The borders that the lines of a report tell begin where the contours do that they say, and where least lines are shown, they have the lengths of these.
-- Laws of lists of lines; what the contours of a report that holds show stands in `report_terms`.
use Rattle.std.proofs.Common.{◌≡◌, true, false, List, [], ◌∷◌, length, map, refl, ap, sym, ◌∙◌, subst}
use Rattle.std.specs.Prelude.{ℕ, not, filter_map, take_while, Option, All}
use Rattle.std.proofs.lemmas.List.Elements.{All-head, All-tail}
use Rattle.std.proofs.lemmas.Bool.{cond-true, cond-false}
use Rattle.std.proofs.lemmas.List.Sums.{take_while-cons}
use Rattle.std.specs.List.{cons_option}
use Rattle.shape_terms.specs.Pictures.{Picture}
use Rattle.report_terms.specs.Lines.{Line}
use Rattle.report_terms.specs.Subjects.{Subject}
use Rattle.report_terms.specs.Sections.{Section, lines_of, number_of}
use Rattle.shape_terms.specs.Traces.{Contour}
use Rattle.report_terms.specs.ContourFacts.{ContourFact, ContourShows, ContoursShow}
use Rattle.report_terms.specs.ContourLines.{is_contour, contour_groups, point_of, segment_of}
use Rattle.report_terms.specs.Shows.{start_of, contour_fact, content_of, TextShows}
use Rattle.report_terms.proofs.ContourPoints.{IsInside}
use Rattle.report_terms.proofs.LeastShown.{facts_inside}
use Rattle.measure_terms.specs.Runs.{run_of, run, fair}
use Rattle.measure_terms.specs.Lengths.{contour_length}
use Rattle.measure_terms.specs.Borders.{Border, borders}
use Rattle.measure_terms.specs.Shown.{IsFlat, border_shown, HaveLengths, BordersShow}
use Rattle.measure_terms.proofs.FairSegments.{run_of_segment, runs_fair}

-- the lines up to the next contour
rest : List Line → List Line
rest lines = take_while (λ l. not (is_contour l)) lines

-- the lines of the section
own : List Line → List Line
own lines = lines_of Section.Contours lines

-- another line is one of them
rest_goes : (l : Line) (lines : List Line) → is_contour l ≡ false → rest (l ∷ lines) ≡ l ∷ rest lines
unfolding rest
rest_goes l lines e = take_while-cons (λ x. not (is_contour x)) l lines ∙ cond-true (not (is_contour l)) (l ∷ take_while (λ x. not (is_contour x)) lines) []
    (ap not e)

-- the first line of the next contour is none
rest_stops : (l : Line) (lines : List Line) → is_contour l ≡ true → rest (l ∷ lines) ≡ []
unfolding rest
rest_stops l lines e = take_while-cons (λ x. not (is_contour x)) l lines ∙ cond-false (not (is_contour l)) (l ∷ take_while (λ x. not (is_contour x)) lines) []
    (ap not e)

given : {A : Type 0} (f : Line → Option A) (l : Line) (lines : List Line) → is_contour l ≡ false
    → filter_map f (rest (l ∷ lines)) ≡ cons_option (f l) (filter_map f (rest lines))
given f l lines e = ap (filter_map f) (rest_goes l lines e)

-- lines of other sections give no point
same_points : (lines : List Line) → filter_map point_of (rest lines) ≡ filter_map point_of (rest (own lines))
unfolding own
same_points [] = refl
same_points (Line.Contour p side n m ∷ lines) =
    let l = Line.Contour p side n m in
    ap (filter_map point_of) (rest_stops l lines refl ∙ sym (rest_stops l (own lines) refl))
same_points (Line.At p ∷ lines) = given point_of (Line.At p) lines refl ∙ ap (λ ps. p ∷ ps) (same_points lines)
    ∙ sym (given point_of (Line.At p) (own lines) refl)
same_points (Line.Seg b e t a mu ∷ lines) = let l = Line.Seg b e t a mu in given point_of l lines refl ∙ same_points lines
    ∙ sym (given point_of l (own lines) refl)
same_points (Line.Least pairs ∷ lines) = let l = Line.Least pairs in given point_of l lines refl ∙ same_points lines ∙ sym (given point_of l (own lines) refl)
same_points (Line.Gap t evidence ∷ lines) = let l = Line.Gap t evidence in given point_of l lines refl ∙ same_points lines
    ∙ sym (given point_of l (own lines) refl)
same_points (l ∷ lines) = given point_of l lines refl ∙ same_points lines

-- and no run
same_runs : (lines : List Line) → filter_map run_of (rest lines) ≡ filter_map run_of_segment (filter_map segment_of (rest (own lines)))
unfolding own rest
same_runs [] = refl
same_runs (Line.Contour p side n m ∷ lines) =
    let l = Line.Contour p side n m in
    ap (filter_map run_of) (rest_stops l lines refl) ∙ sym (ap (λ ls. filter_map run_of_segment (filter_map segment_of ls)) (rest_stops l (own lines) refl))
same_runs (Line.Seg b e t a mu ∷ lines) =
    let l = Line.Seg b e t a mu in
    given run_of l lines refl ∙ ap (cons_option (fair (run b e a))) (same_runs lines)
    ∙ sym (ap (filter_map run_of_segment) (given segment_of l (own lines) refl))
same_runs (Line.At p ∷ lines) = let l = Line.At p in given run_of l lines refl ∙ same_runs lines
    ∙ sym (ap (filter_map run_of_segment) (given segment_of l (own lines) refl))
same_runs (Line.Least pairs ∷ lines) = let l = Line.Least pairs in given run_of l lines refl ∙ same_runs lines
    ∙ sym (ap (filter_map run_of_segment) (given segment_of l (own lines) refl))
same_runs (Line.Gap t evidence ∷ lines) = let l = Line.Gap t evidence in given run_of l lines refl ∙ same_runs lines
    ∙ sym (ap (filter_map run_of_segment) (given segment_of l (own lines) refl))
same_runs (l ∷ lines) = given run_of l lines refl ∙ same_runs lines

-- the border of a contour as lines tell it: along the runs that are within the limits
border_told : ContourFact → Border
border_told f = record { start = f.outline.start; length = contour_length f.outline.points (filter_map run_of_segment f.segments) }

-- the borders that lines tell are those of the contours that the lines of the section say
borders_are : (lines : List Line) → borders lines ≡ map (λ g. border_told (contour_fact g)) (contour_groups (own lines))
unfolding rest own border_told
borders_are [] = refl
borders_are (Line.Contour p side n m ∷ lines) =
    let ps = same_points lines in
    let rs = same_runs lines in
    let more = borders_are lines in
    λ i. (record { start = record { pixel = p; side = side }; length = contour_length (ps i) (rs i) }) ∷ more i
borders_are (_ ∷ lines) = borders_are lines

-- so they begin where these do
starts_are : (groups : List (List Line)) → map (λ (b : Border). b.start) (map (λ g. border_told (contour_fact g)) groups) ≡ map (λ (c : Contour). c.start)
    (map (λ (f : ContourFact). f.outline) (map contour_fact groups))
unfolding border_told
starts_are [] = refl
starts_are (g ∷ groups) = ap (λ cs. start_of g ∷ cs) (starts_are groups)

-- where the runs of segments are within the limits, borders are measured along all
border_whole : (X : Picture) (f : ContourFact) → IsFlat X → ContourShows 2 f → All (IsInside X) f.outline.points → border_told f ≡ border_shown f
unfolding border_told
border_whole X f flat shows inside = ap (λ rs. record { start = f.outline.start; length = contour_length f.outline.points rs })
    (runs_fair X f flat shows inside)

facts_whole : (X : Picture) (facts : List ContourFact) → IsFlat X → All (ContourShows 2) facts
    → All (λ (f : ContourFact). All (IsInside X) f.outline.points) facts → map border_told facts ≡ map border_shown facts
facts_whole X [] flat shows inside = refl
facts_whole X (f ∷ facts) flat shows inside =
    let e = border_whole X f flat (All-head (ContourShows 2) f facts shows) (All-head (λ (f : ContourFact). All (IsInside X) f.outline.points) f facts inside)
    in
    let more = facts_whole X facts flat (All-tail (ContourShows 2) f facts shows)
    (All-tail (λ (f : ContourFact). All (IsInside X) f.outline.points) f facts inside) in
    λ i. e i ∷ more i

facts_told : (groups : List (List Line)) → map (λ g. border_told (contour_fact g)) groups ≡ map border_told (map contour_fact groups)
facts_told [] = refl
facts_told (g ∷ groups) = ap (λ bs. border_told (contour_fact g) ∷ bs) (facts_told groups)

lengths_shown : (X : Picture) (lines : List Line) → IsFlat X → ContoursShow 2 X (content_of lines).contours → HaveLengths X (borders lines)
unfolding own
lengths_shown X lines flat c =
    let facts = (content_of lines).contours in
    record {
      facts = facts;
      contours = c;
      are = borders_are lines ∙ facts_told (contour_groups (own lines))
          ∙ facts_whole X facts flat c.each (facts_inside 2 X facts c);
    }

-- where the contours are shown, so are the borders
pub borders_shown : (number : ℕ) (X : Picture) (lines : List Line) → ContoursShow number X (content_of lines).contours → BordersShow number X (borders lines)
unfolding own
borders_shown number X lines c = record {
  begin = record {
    contours = map (λ (f : ContourFact). f.outline) (content_of lines).contours;
    are = c.outlines;
    starts = ap (map (λ (b : Border). b.start)) (borders_are lines) ∙ starts_are (contour_groups (own lines));
  };
  lengths = λ e flat. lengths_shown X lines flat (subst (λ n. ContoursShow n X (content_of lines).contours) e c);
}

-- the number of a text that shows what it says is that of its first line, and so are its borders
pub text_borders : (X : Subject) (text : List ℕ) → length X.picture.sides ≡ 2 → (t : TextShows X text)
    → BordersShow (number_of t.lines) X.picture (borders t.lines)
text_borders X text flat t =
    let number : (content_of t.lines).number ≡ number_of t.lines = sym (ap number_of t.begins.first ∙ t.begins.number_is) in
    subst (λ n. BordersShow n X.picture (borders t.lines)) number (borders_shown (content_of t.lines).number X.picture t.lines (t.shows.contours flat))
