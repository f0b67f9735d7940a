-- What the good lines of one contour say of it, one after another: its start, so many of its points, and its cover so far.
-- Laws of one group of lines; how the groups follow each other stands in `ContoursShown`.
use Rattle.std.proofs.Common.{◌≡◌, ℕ, suc, ◌*◌, ◌≤◌, List, [], ◌∷◌, ◌++◌, length, take, Some, refl, ap, sym, ◌∙◌, subst, arith}
use Rattle.std.specs.Prelude.{ℤ, None, filter_map, slice_get}
use Rattle.std.proofs.lemmas.List.{length-append, length-map, take_all}
use Rattle.shape_terms.specs.Points.{Point}
use Rattle.shape_terms.specs.Traces.{Contour}
use Rattle.shape_terms.specs.Covers.{Evidence}
use Rattle.shape_terms.specs.Least.{Pairs}
use Rattle.report_terms.specs.Lines.{Line}
use Rattle.report_terms.specs.ContourFacts.{Segment, stretches_of, GapFact, kind_of, in_pairs, SegmentHasEvidence, ContourShows}
use Rattle.report_terms.specs.ContourLines.{point_of, segment_of, pairs_of, gap_of, last_segment, declared_of}
use Rattle.report_terms.specs.Shows.{start_of, outline_of, contour_fact}
use Rattle.text_terms.proofs.ListPushes.{filter_map-same, filter_map-push, take_next}
use Rattle.report_terms.proofs.CoverTaken.{CoverSoFar, IsListed, IsRefused, same_cover, cover_none, cover_early, cover_segment, cover_least, cover_refusal}
use Rattle.report_terms.proofs.CoverShown.{cover_shows}
use Rattle.report_terms.proofs.ContourGroups.{declared_stays, last_push}

-- the lines of the group say this of the contour, in a report with this number
pub record SaysContour (number : ℕ) (contour : Contour) (g : List Line) : Type 0 where
  pub start : start_of g ≡ contour.start
  pub points : filter_map point_of g ≡ take (length (filter_map point_of g)) contour.points
  pub some : 1 ≤ declared_of g
  pub cover : CoverSoFar number contour.points (declared_of g) (filter_map segment_of g) (filter_map pairs_of g) (last_segment g) (filter_map gap_of g)

-- the first line of a group says the start
start_stays : (g : List Line) (l : Line) → 1 ≤ declared_of g → start_of (g ++ l ∷ []) ≡ start_of g
start_stays [] l h = absurd (omega arith)
start_stays (Line.Contour p s n m ∷ g) l h = refl
start_stays (x ∷ g) l h = refl

-- a `contour` line
pub said_head : (number : ℕ) (contour : Contour) (p : Point) (side n m : ℕ) → contour.start ≡ record { pixel = p; side = side } → 1 ≤ m
    → SaysContour number contour (Line.Contour p side n m ∷ [])
said_head number contour p side n m e h = record { start = sym e; points = refl; some = h; cover = cover_none number contour.points m }

module _ (number : ℕ) (contour : Contour) (g : List Line) (w : SaysContour number contour g) where
  -- the next point, before any segment
  pub said_point : (p : Point) → filter_map segment_of g ≡ [] → slice_get contour.points (length (filter_map point_of g)) ≡ Some p
      → SaysContour number contour (g ++ Line.At p ∷ [])
  said_point p early there =
      let l = Line.At p in
      let ps = filter_map point_of g in
      let points : filter_map point_of (g ++ l ∷ []) ≡ ps ++ p ∷ [] = filter_map-push point_of g l p refl in
      let n : length (filter_map point_of (g ++ l ∷ [])) ≡ suc (length ps) = omega (arith, ap length points, length-append ps (p ∷ [])) in
      let d = declared_stays g l refl in
      let none : filter_map segment_of (g ++ l ∷ []) ≡ [] = filter_map-same segment_of g l refl ∙ early in
      let here = cover_early number contour.points (declared_of g) (filter_map pairs_of g) (last_segment g) (filter_map gap_of g)
      (same_cover number contour.points refl early refl refl refl w.cover) in
      record {
        start = start_stays g l w.some ∙ w.start;
        points = points ∙ ap (λ q. q ++ p ∷ []) w.points ∙ take_next contour.points (length ps) p there ∙ ap (λ j. take j contour.points) (sym n);
        some = omega (arith, d, w.some);
        cover = same_cover number contour.points (sym d) (sym none) (sym (filter_map-same pairs_of g l refl)) (sym (last_push g l))
            (sym (filter_map-same gap_of g l refl)) here;
      }

  -- a line of the contour that gives no point
  no_point : (l : Line) → declared_of (l ∷ []) ≡ 0 → filter_map point_of (l ∷ []) ≡ []
      → CoverSoFar number contour.points (declared_of g) (filter_map segment_of (g ++ l ∷ [])) (filter_map pairs_of (g ++ l ∷ [])) (last_segment (g ++ l ∷ []))
      (filter_map gap_of (g ++ l ∷ [])) → SaysContour number contour (g ++ l ∷ [])
  no_point l k p cover =
      let points = filter_map-same point_of g l p in
      let d = declared_stays g l k in
      record {
        start = start_stays g l w.some ∙ w.start;
        points = points ∙ w.points ∙ ap (λ (ps : List Point). take (length ps) contour.points) (sym points);
        some = omega (arith, d, w.some);
        cover = same_cover number contour.points (sym d) refl refl refl refl cover;
      }

  -- the next segment, before any gap line
  pub said_segment : (b e t : ℕ) (row : List ℤ) (mu : ℤ) → filter_map gap_of g ≡ [] → (number ≡ 2 → last_segment g ≡ None)
      → IsListed contour.points (declared_of g) (filter_map segment_of g)
      (record { stretch = record { first = b; last = e }; axis = t; line = record { a = row; mu = mu } })
      → SaysContour number contour (g ++ Line.Seg b e t row mu ∷ [])
  said_segment b e t row mu none shown h =
      let l = Line.Seg b e t row mu in
      let x : Segment = record { stretch = record { first = b; last = e }; axis = t; line = record { a = row; mu = mu } } in
      let f : filter_map gap_of (g ++ l ∷ []) ≡ [] = filter_map-same gap_of g l refl ∙ none in
      let p : filter_map pairs_of (g ++ l ∷ []) ≡ filter_map pairs_of g = filter_map-same pairs_of g l refl in
      let cover = cover_segment number contour.points (declared_of g) (filter_map segment_of g) (filter_map pairs_of g) (last_segment g) x
      (same_cover number contour.points refl refl refl refl none w.cover) shown h in
      no_point l refl refl (same_cover number contour.points refl (sym (filter_map-push segment_of g l x refl)) (sym p) (sym (last_push g l)) (sym f) cover)

  -- its `least` line
  pub said_least : (s : Segment) (pairs : Pairs) → number ≡ 2 → last_segment g ≡ Some s → SegmentHasEvidence contour.points s pairs
      → SaysContour number contour (g ++ Line.Least pairs ∷ [])
  said_least s pairs second before shows =
      let l = Line.Least pairs in
      let cover = cover_least number contour.points (declared_of g) (filter_map segment_of g) (filter_map pairs_of g) s (filter_map gap_of g) pairs
      (same_cover number contour.points refl refl refl before refl w.cover) second shows in
      let p = filter_map-push pairs_of g l pairs refl in
      no_point l refl refl (same_cover number contour.points refl (sym (filter_map-same segment_of g l refl)) (sym p) (sym (last_push g l))
      (sym (filter_map-same gap_of g l refl)) cover)

  -- the next refusal
  pub said_refusal : (t : ℕ) (evidence : Evidence) → (number ≡ 2 → last_segment g ≡ None)
      → IsRefused contour.points (stretches_of (filter_map segment_of g)) (length (filter_map gap_of g)) (record { axis = t; kind = kind_of evidence })
      → SaysContour number contour (g ++ Line.Gap t evidence ∷ [])
  said_refusal t evidence shown h =
      let l = Line.Gap t evidence in
      let x : GapFact = record { axis = t; kind = kind_of evidence } in
      let p = filter_map-same pairs_of g l refl in
      let cover = cover_refusal number contour.points (declared_of g) (filter_map segment_of g) (filter_map pairs_of g) (last_segment g) (filter_map gap_of g) x
      w.cover shown h in
      no_point l refl refl (same_cover number contour.points refl (sym (filter_map-same segment_of g l refl)) (sym p) (sym (last_push g l))
      (sym (filter_map-push gap_of g l x refl)) cover)

  -- a contour with all its lines is said, and its cover is shown
  pub said_whole : length (filter_map point_of g) ≡ length contour.points → length (stretches_of (filter_map segment_of g)) ≡ declared_of g
      → length (filter_map gap_of g) ≡ 2 * declared_of g → (outline_of g ≡ contour) × ContourShows number (contour_fact g)
  said_whole n m k =
      let p : filter_map point_of g ≡ contour.points = w.points ∙ take_all (length (filter_map point_of g)) contour.points (omega (arith, n)) in
      let a = w.start in
      let s = cover_shows number contour.points (declared_of g) (filter_map segment_of g) (filter_map pairs_of g) (last_segment g) (filter_map gap_of g) w.cover
      w.some (sym (length-map (filter_map segment_of g) (λ (x : Segment). x.stretch)) ∙ m) k (start_of g) in (
        (λ i. record { start = a i; points = p i }),
        subst (λ ps. ContourShows number
            (record {
              outline = record { start = start_of g; points = ps };
              segments = filter_map segment_of g;
              evidence = filter_map pairs_of g;
              gaps =
                  in_pairs (filter_map gap_of g);
            })) (sym p) s,
      )
