-- A report grows by the good lines of contours.
-- One law for each kind of line that is added.
use Rattle.std.proofs.Common.{◌≡◌, ◌+◌, ◌-◌, ◌*◌, ◌/◌, ◌<◌, ◌≤◌, ℕ, List, [], ◌∷◌, ◌++◌, length, map, refl, sym, ap, ◌∙◌, subst, arith, Some}
use Rattle.std.specs.Prelude.{All, Contains, None, flat_map, slice_get, slice_index_or}
use Rattle.std.proofs.lemmas.List.Elements.{All-nil, All-cons, All-head, All-tail, Contains-append_right}
use Rattle.std.proofs.lemmas.Option.{get_or_from_slice_get}
use Rattle.shape_terms.specs.Points.{Point, coordinate}
use Rattle.shape_terms.specs.Pictures.{Picture, object_points}
use Rattle.shape_terms.specs.Contours.{Crack, IsCrack, IsCycle}
use Rattle.shape_terms.specs.Traces.{Contour, AreContours, contour_of}
use Rattle.shape_terms.specs.Naive.{Naive}
use Rattle.shape_terms.specs.Covers.{Stretch, Evidence, IsEvidence, IsSegment, arc, gap_run}
use Rattle.shape_terms.specs.Least.{Pairs, ShowsLeast}
use Rattle.report_terms.specs.Forms.{last_number}
use Rattle.report_terms.specs.ContourFacts.{Segment}
use Rattle.report_terms.specs.Lines.{Line, IsLineOf}
use Rattle.report_terms.specs.ContourLines.{Standing, standing, no_contour, open_contour, IsFull, OutlineClaim}
use Rattle.report_terms.specs.Sections.{Section, section_of, lines_of, number_of}
use Rattle.report_terms.proofs.SectionLaws.{none_past, come_more, come_past, good_at, lines_push}
use Rattle.report_terms.proofs.ContourGroups.{standing_begun, standing_point, standing_segment, standing_least, standing_gap}
use Rattle.shape_analyse.specs.Growing.{IsGrowing, IsOutlined, IsSurveyed, Aim, HasOutlined, at_contour}
use Rattle.shape_analyse.proofs.Growth.{good_more}

-- no contour was begun yet
pub outlined_none : (X : Aim) (n : ℕ) (lines : List Line) (contours : List Contour) → IsGrowing X n lines → n ≡ length (object_points X.subject.picture)
    → length X.subject.picture.sides ≡ 2 → AreContours X.subject.picture contours → HasOutlined X contours 0 lines
outlined_none X n lines contours h all flat are = record {
  stand = record { begun = 0; points = 0; declared = 0; stretches = []; last = None; gaps = 0 };
  begun = refl;
  full = λ l. absurd (omega arith);
  outlined = record {
    flat = flat;
    are = are;
    lines_good = h.lines_good;
    come = come_past X.subject Section.Nearest Section.Contours lines refl h.come (h.nears ∙ all);
    stands = ap standing (none_past Section.Nearest Section.Contours lines (omega arith) h.come.order);
  };
}

-- ---- one more line of a contour

outlined_more : (X : Aim) (contours : List Contour) (s s2 : Standing) (lines : List Line) (l : Line) → IsOutlined X contours s lines
    → section_of l ≡ Section.Contours → OutlineClaim 2 contours s l → IsLineOf 2 l → standing (lines_of Section.Contours lines ++ l ∷ []) ≡ s2
    → IsOutlined X contours s2 (lines ++ l ∷ [])
outlined_more X contours s s2 lines l o k claim fields next =
    let number : number_of (lines_of Section.Heading lines) ≡ 2 = ap number_of o.lines_good.named.first ∙ ap last_number o.flat in
    let stood = subst (λ n. OutlineClaim n contours (standing (lines_of Section.Contours lines)) l) (sym number)
    (subst (λ w. OutlineClaim 2 contours w l) (sym o.stands) claim) in
    let good = good_at X.subject Section.Contours lines l o.come k (o.flat, (contours, o.are, stood)) in
    record {
      flat = o.flat;
      are = o.are;
      lines_good = good_more X lines l o.lines_good (omega (arith, o.flat)) (subst (λ d. IsLineOf d l) (sym o.flat) fields) good;
      come = come_more X.subject Section.Contours lines l o.come k;
      stands = ap standing (lines_push Section.Contours lines l k) ∙ next;
    }

-- the next contour is begun
pub outlined_begun : (X : Aim) (contours : List Contour) (k : ℕ) (lines : List Line) (c : Contour) (p : Point) (side n m : ℕ) → HasOutlined X contours k lines
    → slice_get contours k ≡ Some c → record { pixel = p; side = side } ≡ c.start → n ≡ length c.points → 1 ≤ m → m ≤ n
    → IsLineOf 2 (Line.Contour p side n m) → IsOutlined X contours (at_contour k 0 m [] 0) (lines ++ Line.Contour p side n m ∷ [])
outlined_begun X contours k lines c p side n m h next start count some few fields =
    let same : c ≡ record { start = record { pixel = p; side = side }; points = c.points } = λ i. record { start = sym start i; points = c.points } in
    outlined_more X contours h.stand _ lines (Line.Contour p side n m) h.outlined refl (record {
      full = h.full;
      points = c.points;
      next = ap (slice_get contours) h.begun ∙ next ∙ ap Some same;
      count = count;
      segments = (some, few);
    }) fields (standing_begun (lines_of Section.Contours lines) p side n m
    ∙ ap (λ b. record { begun = b + 1; points = 0; declared = m; stretches = []; last = None; gaps = 0 })
    (ap (λ (s : Standing). s.begun) h.outlined.stands ∙ h.begun))

-- the contour that was begun last
last_begun : (contours : List Contour) (s : Standing) (k : ℕ) (c : Contour) → s.begun ≡ k + 1 → slice_get contours k ≡ Some c → open_contour contours s ≡ c
last_begun contours s k c b there =
    let e : s.begun - 1 ≡ k = omega (arith, b) in
    ap (λ j. slice_index_or contours j no_contour) e ∙ get_or_from_slice_get contours k c no_contour there

-- where some contour was begun, the lines have a `contour` line
some_begun : (X : Aim) (contours : List Contour) (s : Standing) (lines : List Line) (k : ℕ) → IsOutlined X contours s lines → s.begun ≡ k + 1
    → 0 < (standing (lines_of Section.Contours lines)).begun
some_begun X contours s lines k o b = let e = ap (λ (w : Standing). w.begun) o.stands in omega (arith, e, b)

-- it is given its next point
pub outlined_point : (X : Aim) (contours : List Contour) (k i m : ℕ) (lines : List Line) (c : Contour) (p : Point)
    → IsOutlined X contours (at_contour k i m [] 0) lines → slice_get contours k ≡ Some c → slice_get c.points i ≡ Some p → IsLineOf 2 (Line.At p)
    → IsOutlined X contours (at_contour k (i + 1) m [] 0) (lines ++ Line.At p ∷ [])
outlined_point X contours k i m lines c p o there next fields =
    let s : Standing = at_contour k i m [] 0 in
    let last = last_begun contours s k c refl there in
    outlined_more X contours s _ lines (Line.At p) o refl (record {
      some = omega arith;
      early = refl;
      next = ap (λ (d : Contour). slice_get d.points i) last ∙ next;
    }) fields (standing_point (lines_of Section.Contours lines) p (some_begun X contours s lines k o refl)
    ∙ ap (λ (w : Standing). record w { points = w.points + 1; last = None }) o.stands)

-- its next segment
pub outlined_segment : (X : Aim) (contours : List Contour) (k m : ℕ) (before : List Stretch) (lines : List Line) (c : Contour) (b e t : ℕ) (line : Naive)
    → IsOutlined X contours (at_contour k (length c.points) m before 0) lines → slice_get contours k ≡ Some c
    → length before < m → IsSegment c.points m before b e t line → IsLineOf 2 (Line.Seg b e t line.a line.mu)
    → IsOutlined X contours
    (record (at_contour k (length c.points) m (before ++ record { first = b; last = e } ∷ []) 0)
    { last = Some (record { stretch = record { first = b; last = e }; axis = t; line = line }) }) (lines ++ Line.Seg b e t line.a line.mu ∷ [])
outlined_segment X contours k m before lines c b e t line o there more segment fields =
    let s : Standing = at_contour k (length c.points) m before 0 in
    let last = last_begun contours s k c refl there in
    outlined_more X contours s _ lines (Line.Seg b e t line.a line.mu) o refl (record {
      points = ap (λ (d : Contour). length d.points) (sym last);
      more = more;
      shown = λ _. refl;
      early = refl;
      segment = subst (λ (d : Contour). IsSegment d.points m before b e t line) (sym last) segment;
    }) fields (standing_segment (lines_of Section.Contours lines) b e t line.a line.mu (some_begun X contours s lines k o refl)
    ∙ ap (λ (w : Standing). record w {
      stretches = w.stretches ++ record { first = b; last = e } ∷ [];
      last =
          Some (record { stretch = record { first = b; last = e }; axis = t; line = line });
    }) o.stands)

-- the `least` line of this segment
pub outlined_least : (X : Aim) (contours : List Contour) (k m : ℕ) (stretches : List Stretch) (segment : Segment) (lines : List Line) (c : Contour)
    (pairs : Pairs) → IsOutlined X contours (record (at_contour k (length c.points) m stretches 0) { last = Some segment }) lines
    → slice_get contours k ≡ Some c
    → ShowsLeast segment.axis (arc c.points segment.stretch.first segment.stretch.last) (coordinate segment.line.a segment.axis) pairs
    → IsLineOf 2 (Line.Least pairs) → IsOutlined X contours (at_contour k (length c.points) m stretches 0) (lines ++ Line.Least pairs ∷ [])
outlined_least X contours k m stretches segment lines c pairs o there shows fields =
    let s : Standing = record (at_contour k (length c.points) m stretches 0) { last = Some segment } in
    let last = last_begun contours s k c refl there in
    outlined_more X contours s _ lines (Line.Least pairs) o refl (record {
      second = refl;
      segment = segment;
      before = refl;
      shows = subst (λ (d : Contour). ShowsLeast segment.axis (arc d.points segment.stretch.first segment.stretch.last) (coordinate segment.line.a segment.axis)
          pairs) (sym last) shows;
    }) fields (standing_least (lines_of Section.Contours lines) pairs (some_begun X contours s lines k o refl)
    ∙ ap (λ (w : Standing). record w { last = None }) o.stands)

-- and its next gap line
pub outlined_gap : (X : Aim) (contours : List Contour) (k : ℕ) (stretches : List Stretch) (g j t : ℕ) (lines : List Line) (c : Contour) (v : Evidence)
    → IsOutlined X contours (at_contour k (length c.points) (length stretches) stretches g) lines → slice_get contours k ≡ Some c
    → g ≡ 2 * j + t → j < length stretches → t < 2 → IsEvidence t (gap_run c.points stretches j) v → IsLineOf 2 (Line.Gap t v)
    → IsOutlined X contours (at_contour k (length c.points) (length stretches) stretches (g + 1)) (lines ++ Line.Gap t v ∷ [])
outlined_gap X contours k stretches g j t lines c v o there count place two good fields =
    let s : Standing = at_contour k (length c.points) (length stretches) stretches g in
    let last = last_begun contours s k c refl there in
    let half : j ≡ g / 2 = omega (arith, count, two) in
    outlined_more X contours s _ lines (Line.Gap t v) o refl (record {
      points = ap (λ (d : Contour). length d.points) (sym last);
      segments = refl;
      shown = λ _. refl;
      more = omega (arith, count, two, place);
      axis = omega (arith, count, two);
      good = subst (λ (d : Contour). IsEvidence t (gap_run d.points stretches (g / 2)) v) (sym last)
          (subst (λ q. IsEvidence t (gap_run c.points stretches q) v) half good);
    }) fields (standing_gap (lines_of Section.Contours lines) t v (some_begun X contours s lines k o refl)
    ∙ ap (λ (w : Standing). record w { last = None; gaps = w.gaps + 1 }) o.stands)

-- it has all its lines
pub outlined_full : (X : Aim) (contours : List Contour) (k m : ℕ) (stretches : List Stretch) (lines : List Line) (c : Contour) → slice_get contours k ≡ Some c
    → length stretches ≡ m → IsOutlined X contours (at_contour k (length c.points) m stretches (2 * m)) lines → HasOutlined X contours (k + 1) lines
outlined_full X contours k m stretches lines c there all o = record {
  stand = at_contour k (length c.points) m stretches (2 * m);
  begun = refl;
  full = λ l. record {
    points = ap (λ (d : Contour). length d.points) (sym (last_begun contours (at_contour k (length c.points) m stretches (2 * m)) k c refl there));
    segments = all;
    gaps = refl;
  };
  outlined = o;
}

-- ---- the section is complete

pub outlined_done : (X : Aim) (contours : List Contour) (lines : List Line) → HasOutlined X contours (length contours) lines → IsSurveyed 2 X lines
outlined_done X contours lines h =
    let o = h.outlined in
    let come = come_past X.subject Section.Contours Section.Faces lines refl o.come (record {
      flat = λ flat. (contours, o.are, subst (IsFull contours) (sym o.stands) h.full, ap (λ (s : Standing). s.begun) o.stands ∙ h.begun);
      other = λ other. absurd (other o.flat);
    }) in
    record {
      axes = o.flat;
      few = omega arith;
      lines_good = o.lines_good;
      come = come_past X.subject Section.Faces Section.Thinned lines refl come (record {
        solid = λ solid. absurd (omega (arith, o.flat, solid));
        other = λ _. none_past Section.Contours Section.Faces lines (omega arith) o.come.order;
      });
      none = none_past Section.Contours Section.Thinned lines (omega arith) o.come.order;
    }

-- ---- the first cracks of contours

-- each contour begins with a crack of the picture
pub contour_starts : (X : Picture) (contours : List Contour) → AreContours X contours → All (λ c. c.start.side < 4) contours
contour_starts X contours are = subst (All (λ c. c.start.side < 4)) (sym are.contours_are) (starts are.cycles are.are.cycle (λ c i. (are.are.each c).1 i))
  where
    starts : (cycles : List (List Crack)) → All (IsCycle X) cycles → ((c : Crack) → Contains (flat_map (λ x. x) cycles) c → IsCrack X c)
        → All (λ c. c.start.side < 4) (map (contour_of X) cycles)
    starts [] a each = All-nil (λ c. c.start.side < 4)
    starts ([] ∷ cycles) a each = absurd (All-head (IsCycle X) [] cycles a)
    starts ((c ∷ cracks) ∷ cycles) a each =
        All-cons (λ c. c.start.side < 4) (contour_of X (c ∷ cracks)) (map (contour_of X) cycles)
        (each c (0, omega arith, refl)).side
        (starts cycles (All-tail (IsCycle X) (c ∷ cracks) cycles a) (λ d i. each d (Contains-append_right (c ∷ cracks) (flat_map (λ x. x) cycles) d i)))
