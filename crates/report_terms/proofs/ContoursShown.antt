-- What good lines of contours say, one after another: the first contours of the picture with their covers, and what was given of the last one.
-- Laws of the lines of this section alone; what the lines of one contour say stands in `ContourSaid`.
use Rattle.std.proofs.Common.{◌≡◌, ℕ, ◌+◌, ◌-◌, ◌*◌, ◌<◌, false, List, [], ◌∷◌, ◌++◌, length, take, map, Some, refl, ap, sym, ◌∙◌, subst, arith}
use Rattle.std.specs.Prelude.{◌/◌, ◌%◌, All, None, filter_map, slice_get, slice_index_or}
use Rattle.std.proofs.lemmas.List.{length-append, map-append, take_all, nil_from_length}
use Rattle.std.proofs.lemmas.List.Elements.{All-nil, All-push, All-map}
use Rattle.std.proofs.lemmas.Option.{get_or_from_slice_get}
use Rattle.shape_terms.specs.Pictures.{Picture}
use Rattle.shape_terms.specs.Points.{coordinate}
use Rattle.shape_terms.specs.Traces.{Contour, AreContours}
use Rattle.shape_terms.specs.Covers.{IsSegment, Evidence, IsEvidence, arc, gap_run}
use Rattle.shape_terms.specs.Least.{ShowsLeast}
use Rattle.report_terms.specs.ContourFacts.{Segment, ContourFact, stretches_of, GapFact, ContourShows, ContoursShow}
use Rattle.report_terms.specs.Lines.{Line, IsLineOf}
use Rattle.report_terms.specs.ContourLines.{last_segment, WantsNone, is_contour, contour_groups, open_group, point_of, segment_of, gap_of, declared_of}
use Rattle.report_terms.specs.ContourLines.{standing, no_contour, open_contour, IsFull, IsNextGap, OutlineClaim, ContourClaim, ContoursComplete}
use Rattle.report_terms.specs.Shows.{outline_of, contour_fact}
use Rattle.shape_terms.proofs.ContourLists.{contours_same}
use Rattle.text_terms.proofs.ListPushes.{take_more, by_fronts}
use Rattle.report_terms.proofs.CoverTaken.{refused_by}
use Rattle.report_terms.proofs.ContourGroups.{group_begun, group_more, open_is, declared_begun}
use Rattle.report_terms.proofs.ContourSaid.{SaysContour, said_head, said_point, said_segment, said_least, said_refusal, said_whole}

module _ (number : ℕ) where
  -- the lines show the contours before the last one that was begun, and say something of that one
  pub record SaysLast (contours : List Contour) (lines : List Line) (front : List (List Line)) (g : List Line) : Type 0 where
    pub groups_are : contour_groups lines ≡ front ++ g ∷ []
    pub before : map outline_of front ≡ take (length front) contours
    pub shown : All (λ h. ContourShows number (contour_fact h)) front
    pub contour : Contour
    pub there : slice_get contours (length front) ≡ Some contour
    pub said : SaysContour number contour g

  -- no contour was begun, or one was begun last
  pub data Says (contours : List Contour) (lines : List Line) : Type 0 where
    SaysNone : contour_groups lines ≡ [] → Says contours lines
    SaysSome : (front : List (List Line)) (g : List Line) → SaysLast contours lines front g → Says contours lines

  -- how the lines stand
  standing_is : (contours : List Contour) (lines : List Line) (front : List (List Line)) (g : List Line) (w : SaysLast contours lines front g)
      → ((standing lines).begun ≡ length front + 1) × (open_group lines ≡ g) × (open_contour contours (standing lines) ≡ w.contour)
  standing_is contours lines front g w =
      let n : length (contour_groups lines) ≡ length front + 1 = ap length w.groups_are ∙ length-append front (g ∷ []) in
      let k : length (contour_groups lines) - 1 ≡ length front = omega (arith, n) in (
        n,
        open_is lines front g w.groups_are,
        ap (λ i. slice_index_or contours i no_contour) k
            ∙ get_or_from_slice_get contours (length front) w.contour no_contour w.there,
      )

  -- a contour that has all its lines is said, and its cover is shown
  whole : (contours : List Contour) (lines : List Line) (front : List (List Line)) (g : List Line) (w : SaysLast contours lines front g)
      → IsFull contours (standing lines) → (outline_of g ≡ w.contour) × ContourShows number (contour_fact g)
  whole contours lines front g w full =
      let s = standing_is contours lines front g w in
      let h = full (omega (arith, s.0)) in
      said_whole number w.contour g w.said (ap (λ l. length (filter_map point_of l)) (sym s.1) ∙ h.points ∙ ap (λ (c : Contour). length c.points) s.2)
      (ap (λ l. length (stretches_of (filter_map segment_of l))) (sym s.1) ∙ h.segments ∙ ap declared_of s.1)
      (ap (λ l. length (filter_map gap_of l)) (sym s.1) ∙ h.gaps ∙ ap (λ l. 2 * declared_of l) s.1)

  -- a line of the contour that was begun last
  same_contour : (contours : List Contour) (lines : List Line) (l : Line) (front : List (List Line)) (g : List Line) (w : SaysLast contours lines front g)
      → is_contour l ≡ false → SaysContour number w.contour (g ++ l ∷ []) → Says contours (lines ++ l ∷ [])
  same_contour contours lines l front g w t s =
      SaysSome front (g ++ l ∷ []) (record {
        groups_are = group_more is_contour lines l front g t w.groups_are;
        before = w.before;
        shown = w.shown;
        contour = w.contour;
        there = w.there;
        said = s;
      })

  -- no line of a contour but its first is good where none was begun
  none_begun : (lines : List Line) → contour_groups lines ≡ [] → 0 < (standing lines).begun → ⊥
  none_begun lines e h = let n : length (contour_groups lines) ≡ 0 = ap length e in omega arith

  -- where no `least` line is wanted, the last line gives no segment
  wanted : (contours : List Contour) (lines : List Line) (front : List (List Line)) (g : List Line) (w : SaysLast contours lines front g)
      → WantsNone number (standing lines) → number ≡ 2 → last_segment g ≡ None
  wanted contours lines front g w h e = ap last_segment (sym (standing_is contours lines front g w).1) ∙ h e

  -- what the claim of a gap line says of the contour that was begun last
  gap_claim : (contours : List Contour) (lines : List Line) (front : List (List Line)) (g : List Line) (w : SaysLast contours lines front g) (t : ℕ)
      (evidence : Evidence) → IsNextGap number contours (standing lines) t evidence
      → (t ≡ length (filter_map gap_of g) % 2)
      × IsEvidence t (gap_run w.contour.points (stretches_of (filter_map segment_of g)) (length (filter_map gap_of g) / 2)) evidence
  gap_claim contours lines front g w t evidence c =
      let s = standing_is contours lines front g w in (
        c.axis ∙ ap (λ l. length (filter_map gap_of l) % 2) s.1,
        subst (λ l. IsEvidence t (gap_run w.contour.points (stretches_of (filter_map segment_of l)) (length (filter_map gap_of l) / 2)) evidence) s.1
            (subst (λ (k : Contour). IsEvidence t (gap_run k.points (standing lines).stretches ((standing lines).gaps / 2)) evidence) s.2 c.good),
      )

  -- one more good line
  pub says_more : (d : ℕ) (contours : List Contour) (lines : List Line) (l : Line) → Says contours lines → IsLineOf d l
      → OutlineClaim number contours (standing lines) l → Says contours (lines ++ l ∷ [])
  says_more d contours lines (Line.Contour p side n m) (SaysNone e) a c =
      let l = Line.Contour p side n m in
      let next : slice_get contours 0 ≡ Some _ = ap (λ k. slice_get contours k) (sym (ap length e)) ∙ c.next in
      let k : Contour = record { start = record { pixel = p; side = side }; points = c.points } in
      SaysSome [] (l ∷ []) (record {
        groups_are = group_begun is_contour lines l refl ∙ ap (λ g. g ++ (l ∷ []) ∷ []) e;
        before = refl;
        shown = All-nil (λ h. ContourShows number (contour_fact h));
        contour = k;
        there = next;
        said = said_head number k p side n m refl c.segments.0;
      })
  says_more d contours lines (Line.Contour p side n m) (SaysSome front g w) a c =
      let l = Line.Contour p side n m in
      let s = standing_is contours lines front g w in
      let f = whole contours lines front g w c.full in
      let fact = f.0 in
      let j : length (front ++ g ∷ []) ≡ length front + 1 = length-append front (g ∷ []) in
      let k : Contour = record { start = record { pixel = p; side = side }; points = c.points } in
      SaysSome (front ++ g ∷ []) (l ∷ []) (record {
        groups_are = group_begun is_contour lines l refl ∙ ap (λ h. h ++ (l ∷ []) ∷ []) w.groups_are;
        before = map-append outline_of front (g ∷ []) ∙ (λ i. w.before i ++ fact i ∷ []) ∙ take_more contours (length front) w.contour w.there
            ∙ ap (λ i. take i contours) (sym j);
        shown = All-push (λ h. ContourShows number (contour_fact h)) front g w.shown f.1;
        contour = k;
        there = ap (slice_get contours) (j ∙ sym s.0) ∙ c.next;
        said = said_head number k p side n m refl c.segments.0;
      })
  says_more d contours lines (Line.At p) (SaysNone e) a c = absurd (none_begun lines e c.some)
  says_more d contours lines (Line.At p) (SaysSome front g w) a c =
      let s = standing_is contours lines front g w in
      let there : slice_get w.contour.points (length (filter_map point_of g)) ≡ Some p =
      (λ i. slice_get ((sym s.2) i).points (length (filter_map point_of ((sym s.1) i)))) ∙ c.next in
      let early : filter_map segment_of g ≡ [] = unmapped (filter_map segment_of g) (ap (λ l. stretches_of (filter_map segment_of l)) (sym s.1) ∙ c.early) in
      same_contour contours lines (Line.At p) front g w refl (said_point number w.contour g w.said p early there)
    where
      unmapped : (xs : List Segment) → stretches_of xs ≡ [] → xs ≡ []
      unmapped [] h = refl
      unmapped (x ∷ xs) h = cc
  says_more d contours lines (Line.Seg b e t row mu) (SaysNone n) a c = absurd (none_begun lines n (declared_begun lines (let m = c.more in omega arith)))
  says_more d contours lines (Line.Seg b e t row mu) (SaysSome front g w) a c =
      let s = standing_is contours lines front g w in
      let none : filter_map gap_of g ≡ [] = empty (filter_map gap_of g) (ap (λ l. length (filter_map gap_of l)) (sym s.1) ∙ c.early) in
      let good : IsSegment w.contour.points (declared_of g) (stretches_of (filter_map segment_of g)) b e t (record { a = row; mu = mu }) =
      subst (λ l. IsSegment w.contour.points (declared_of l) (stretches_of (filter_map segment_of l)) b e t (record { a = row; mu = mu })) s.1
      (subst (λ (k : Contour). IsSegment k.points (standing lines).declared (standing lines).stretches b e t (record { a = row; mu = mu })) s.2 c.segment) in
      same_contour contours lines (Line.Seg b e t row mu) front g w refl
      (said_segment number w.contour g w.said b e t row mu none (wanted contours lines front g w c.shown) (record { axis = a.1.1.1.0; good = good }))
    where
      empty : (xs : List GapFact) → length xs ≡ 0 → xs ≡ []
      empty [] h = refl
      empty (x ∷ xs) h = absurd (omega arith)
  says_more d contours lines (Line.Least pairs) (SaysNone e) a c =
      absurd (let f : open_group lines ≡ [] = ap (λ gs. slice_index_or gs (length gs - 1) []) e in let b : last_segment [] ≡ Some c.segment =
      ap last_segment (sym f) ∙ c.before in cc)
  says_more d contours lines (Line.Least pairs) (SaysSome front g w) a c =
      let s = standing_is contours lines front g w in
      let before : last_segment g ≡ Some c.segment = ap last_segment (sym s.1) ∙ c.before in
      let shows = subst (λ (k : Contour). ShowsLeast c.segment.axis (arc k.points c.segment.stretch.first c.segment.stretch.last)
      (coordinate c.segment.line.a c.segment.axis) pairs) s.2 c.shows in
      same_contour contours lines (Line.Least pairs) front g w refl (said_least number w.contour g w.said c.segment pairs c.second before shows)
  says_more d contours lines (Line.Gap t evidence) (SaysNone e) a c = absurd (none_begun lines e (declared_begun lines (let m = c.more in omega arith)))
  says_more d contours lines (Line.Gap t evidence) (SaysSome front g w) a c =
      let h = gap_claim contours lines front g w t evidence c in
      same_contour contours lines (Line.Gap t evidence) front g w refl
      (said_refusal number w.contour g w.said t evidence (wanted contours lines front g w c.shown)
      (refused_by w.contour.points (stretches_of (filter_map segment_of g)) (length (filter_map gap_of g)) t evidence h.0 h.1))
  says_more d contours lines l s a c = absurd c

  -- good lines of contours, each good after those before it
  pub says : (d : ℕ) (contours : List Contour) (lines : List Line)
      → ((k : ℕ) (l : Line) → slice_get lines k ≡ Some l → IsLineOf d l × OutlineClaim number contours (standing (take k lines)) l) → Says contours lines
  says d contours lines good =
      by_fronts (Says contours) lines (SaysNone refl) (λ k l e s. let g = good k l e in says_more d contours (take k lines) l s g.0 g.1)

  -- where the section is complete, the lines say all contours, and show the cover of each
  pub says_all : (contours : List Contour) (lines : List Line) → Says contours lines → IsFull contours (standing lines)
      → (standing lines).begun ≡ length contours
      → (map outline_of (contour_groups lines) ≡ contours) × All (λ h. ContourShows number (contour_fact h)) (contour_groups lines)
  says_all contours lines (SaysNone e) full all = (
    ap (map outline_of) e ∙ sym (nil_from_length contours (sym all ∙ ap length e)),
    subst (All (λ h. ContourShows number (contour_fact h))) (sym e)
        (All-nil (λ h. ContourShows number (contour_fact h))),
  )
  says_all contours lines (SaysSome front g w) full all =
      let s = standing_is contours lines front g w in
      let f = whole contours lines front g w full in
      let fact = f.0 in (
        ap (map outline_of) w.groups_are ∙ map-append outline_of front (g ∷ []) ∙ (λ i. w.before i ++ fact i ∷ [])
            ∙ take_more contours (length front) w.contour w.there ∙ take_all (length front + 1) contours (omega (arith, s.0, all)),
        subst (All (λ h. ContourShows number (contour_fact h))) (sym w.groups_are) (All-push (λ h. ContourShows number (contour_fact h)) front g w.shown f.1),
      )

  outlines_are : (groups : List (List Line)) → map outline_of groups ≡ map (λ (f : ContourFact). f.outline) (map contour_fact groups)
  outlines_are [] = refl
  outlines_are (g ∷ groups) = ap (λ l. outline_of g ∷ l) (outlines_are groups)

  -- good lines of contours that are complete show the contours of the picture and their covers
  pub lines_contours : (X : Picture) (d : ℕ) (lines : List Line)
      → ((k : ℕ) (l : Line) → slice_get lines k ≡ Some l → IsLineOf d l × ContourClaim number X (take k lines) l) → ContoursComplete X lines
      → ContoursShow number X (map contour_fact (contour_groups lines))
  lines_contours X d lines good (contours, are, full, all) =
      let mine : (k : ℕ) (l : Line) → slice_get lines k ≡ Some l → IsLineOf d l × OutlineClaim number contours (standing (take k lines)) l =
      λ k l e. (let g = good k l e in
      (g.0, subst (λ cs. OutlineClaim number cs (standing (take k lines)) l) (contours_same X g.1.0 contours g.1.1 are) g.1.2)) in
      let s = says_all contours lines (says d contours lines mine) full all in
      record {
        outlines = subst (AreContours X) (sym s.0 ∙ outlines_are (contour_groups lines)) are;
        each = All-map (ContourShows number) contour_fact (contour_groups lines) s.1;
      }
