-- The lengths of borders along the least lines of tangential covers depend on the picture alone.
-- Put together from the laws of contours, covers and least lines.
use Rattle.std.proofs.Common.{◌≡◌, ℕ, suc, ◌<◌, refl, ap, sym, ◌∙◌, subst, arith, List, [], ◌∷◌, ◌++◌, length, get_or, map}
use Rattle.std.specs.Prelude.{All, sum, flat_map}
use Rattle.std.specs.List.{AllZip, range_with_len}
use Rattle.std.proofs.lemmas.List.Elements.{All-head, All-tail}
use Rattle.shape_terms.specs.Points.{Point}
use Rattle.shape_terms.specs.Pictures.{Picture}
use Rattle.shape_terms.specs.Traces.{Contour}
use Rattle.shape_terms.specs.Covers.{Stretch, arc}
use Rattle.shape_terms.proofs.ArcRuns.{length-arc}
use Rattle.shape_terms.proofs.ContourLists.{contours_same}
use Rattle.report_terms.specs.ContourFacts.{Segment, stretches_of, SegmentShows, SegmentIsLeast, ContourFact, ContourShows, ContoursShow}
use Rattle.report_terms.proofs.ContourPoints.{IsInside}
use Rattle.report_terms.proofs.LeastShown.{facts_inside, segment_begins, arc_flat}
use Rattle.report_terms.proofs.LeastOfAxes.{AreParallel, one_direction}
use Rattle.measure_terms.specs.Lengths.{shares_at, mean, contour_length}
use Rattle.measure_terms.specs.Borders.{Border}
use Rattle.measure_terms.specs.Begins.{BeginAsContours}
use Rattle.measure_terms.specs.Shown.{run_shown, border_shown, HaveLengths}
use Rattle.measure_terms.proofs.SameShares.{HaveOneDirection, AreAlike, same_shares}
use Rattle.measure_terms.proofs.CoverOnce.{cover_once}

-- ---- two segments of one stretch

-- what is known of a segment of a contour
record IsLeastSegment (X : Picture) (points : List Point) (s : Segment) : Type 0 where
  begins : s.stretch.first < length points
  line : SegmentShows points s
  least : SegmentIsLeast points s

directed : (s u : Segment) → AreParallel s.line.a u.line.a → HaveOneDirection (run_shown s) (run_shown u)
directed s u (AreParallel.Equal e f) = HaveOneDirection.Equal e f
directed s u (AreParallel.Opposite e f) = HaveOneDirection.Opposite e f

alike : (X : Picture) → length X.sides ≡ 2 → (points : List Point) → All (IsInside X) points → (s u : Segment) → s.stretch ≡ u.stretch
    → IsLeastSegment X points s → IsLeastSegment X points u → AreAlike (run_shown s) (run_shown u)
alike X flat points inside s u e h k =
    let run = arc points s.stretch.first s.stretch.last in
    let line = subst (λ (z : Stretch). SegmentShows points (record u { stretch = z })) (sym e) k.line in
    let least = subst (λ (z : Stretch). SegmentIsLeast points (record u { stretch = z })) (sym e) k.least in
    record {
      first = ap (λ (z : Stretch). z.first) e;
      last = ap (λ (z : Stretch). z.last) e;
      direction = λ l. directed s u
          (one_direction run (arc_flat X flat points s.stretch.first s.stretch.last inside h.begins) s.axis u.axis h.line.axis line.axis h.line.sense line.sense
          s.line u.line h.least least
          (let n = length-arc points s.stretch.first s.stretch.last in omega arith));
    }

-- ---- two lists of segments with the same stretches

AreAllAlike : List Segment → List Segment → Type 0
AreAllAlike ss us = AllZip (λ s u. AreAlike (run_shown s) (run_shown u)) ss us

all_alike : (X : Picture) → length X.sides ≡ 2 → (points : List Point) → All (IsInside X) points → (ss us : List Segment) → stretches_of ss ≡ stretches_of us
    → ((k : ℕ) (d : Segment) → k < length ss → IsLeastSegment X points (get_or ss k d))
    → ((k : ℕ) (d : Segment) → k < length us → IsLeastSegment X points (get_or us k d)) → AreAllAlike ss us
unfolding AreAllAlike
all_alike X flat points inside [] [] e h k = tt
all_alike X flat points inside [] (u ∷ us) e h k = cc
all_alike X flat points inside (s ∷ ss) [] e h k = cc
all_alike X flat points inside (s ∷ ss) (u ∷ us) e h k =
    let first : s.stretch ≡ u.stretch = cc in
    let rest : stretches_of ss ≡ stretches_of us = cc in (
      alike X flat points inside s u first (h 0 s (omega arith)) (k 0 u (omega arith)),
      all_alike X flat points inside ss us rest (λ j d l. h (suc j) d (omega arith)) (λ j d l. k (suc j) d (omega arith)),
    )

all_shares : (points : List Point) (i : ℕ) (ss us : List Segment) → AreAllAlike ss us
    → flat_map (shares_at points i) (map run_shown ss) ≡ flat_map (shares_at points i) (map run_shown us)
unfolding AreAllAlike
all_shares points i [] [] h = refl
all_shares points i [] (u ∷ us) h = absurd h
all_shares points i (s ∷ ss) [] h = absurd h
all_shares points i (s ∷ ss) (u ∷ us) h =
    let a = same_shares points (run_shown s) (run_shown u) i h.0 in
    let b = all_shares points i ss us h.1 in
    λ k. a k ++ b k

same_length : (points : List Point) (ss us : List Segment) → AreAllAlike ss us
    → contour_length points (map run_shown ss) ≡ contour_length points (map run_shown us)
same_length points ss us h = λ k. sum (map (λ i. mean (all_shares points i ss us h k)) (range_with_len 0 (length points)))

-- ---- two facts of one contour

least_segments : (X : Picture) (f : ContourFact) → ContourShows 2 f → (k : ℕ) (d : Segment) → k < length f.segments
    → IsLeastSegment X f.outline.points (get_or f.segments k d)
least_segments X f shows k d l = record { begins = segment_begins 2 f shows k d l; line = shows.lines k d l; least = shows.least refl k d l }

same_border : (X : Picture) → length X.sides ≡ 2 → (f g : ContourFact) → f.outline ≡ g.outline → All (IsInside X) f.outline.points → ContourShows 2 f
    → ContourShows 2 g → border_shown f ≡ border_shown g
same_border X flat f g e inside shows others =
    let g' : ContourFact = record g { outline = f.outline } in
    let mine = subst (λ (o : Contour). ContourShows 2 (record g { outline = o })) (sym e) others in
    let stretches = cover_once f.outline.points (stretches_of f.segments) (stretches_of g.segments) shows.cover mine.cover in
    let a = all_alike X flat f.outline.points inside f.segments g.segments stretches (least_segments X f shows) (least_segments X g' mine) in
    let n = same_length f.outline.points f.segments g.segments a in
    (λ k. record { start = f.outline.start; length = n k })
    ∙ ap (λ (o : Contour). record { start = o.start; length = contour_length o.points (map run_shown g.segments) }) e

same_borders : (X : Picture) → length X.sides ≡ 2 → (fs gs : List ContourFact)
    → map (λ (f : ContourFact). f.outline) fs ≡ map (λ (f : ContourFact). f.outline) gs → All (λ (f : ContourFact). All (IsInside X) f.outline.points) fs
    → All (ContourShows 2) fs → All (ContourShows 2) gs → map border_shown fs ≡ map border_shown gs
same_borders X flat [] [] e inside shows others = refl
same_borders X flat [] (g ∷ gs) e inside shows others = cc
same_borders X flat (f ∷ fs) [] e inside shows others = cc
same_borders X flat (f ∷ fs) (g ∷ gs) e inside shows others =
    let P : ContourFact → Type 0 = λ f. All (IsInside X) f.outline.points in
    let first : f.outline ≡ g.outline = cc in
    let rest : map (λ (f : ContourFact). f.outline) fs ≡ map (λ (f : ContourFact). f.outline) gs = cc in
    let a = same_border X flat f g first (All-head P f fs inside) (All-head (ContourShows 2) f fs shows) (All-head (ContourShows 2) g gs others) in
    let b = same_borders X flat fs gs rest (All-tail P f fs inside) (All-tail (ContourShows 2) f fs shows) (All-tail (ContourShows 2) g gs others) in
    λ k. a k ∷ b k

-- two lists of facts that are shown by least lines give the same borders
pub facts_once : (X : Picture) (facts others : List ContourFact) → length X.sides ≡ 2 → ContoursShow 2 X facts → ContoursShow 2 X others
    → map border_shown facts ≡ map border_shown others
facts_once X facts others flat c d =
    same_borders X flat facts others
    (contours_same X (map (λ (f : ContourFact). f.outline) facts) (map (λ (f : ContourFact). f.outline) others) c.outlines d.outlines)
    (facts_inside 2 X facts c) c.each d.each

pub borders_once : (X : Picture) (bs cs : List Border) → length X.sides ≡ 2 → HaveLengths X bs → HaveLengths X cs → bs ≡ cs
borders_once X bs cs flat h k = h.are ∙ facts_once X h.facts k.facts flat h.contours k.contours ∙ sym k.are

-- where borders begin depends on the picture, whatever their lengths are
pub starts_once : (X : Picture) (bs cs : List Border) → BeginAsContours X bs → BeginAsContours X cs
    → map (λ (b : Border). b.start) bs ≡ map (λ (b : Border). b.start) cs
starts_once X bs cs h k = h.starts ∙ ap (map (λ (c : Contour). c.start)) (contours_same X h.contours k.contours h.are k.are) ∙ sym k.starts
