-- All the segments of a contour, with two good refusals for each gap, show its cover.
-- Lists of segments and refusals alone; how the lines of a report give them stands in `ContourSaid`.
use Rattle.std.proofs.Common.{◌≡◌, ℕ, zero, suc, ◌+◌, ◌-◌, ◌*◌, ◌<◌, ◌≤◌, refl, ap, sym, ◌∙◌, subst, arith, List, [], ◌∷◌, ◌++◌, length, take, get_or, Some}
use Rattle.std.specs.Prelude.{◌/◌, ◌%◌, pos, slice_get, IfSome, Option, None, option_map}
use Rattle.std.specs.List.{AllZip}
use Rattle.std.proofs.lemmas.List.{length-map, length-take-le, take-map, take_all, take_more, get_or_default}
use Rattle.std.proofs.lemmas.List.Elements.{All-from_get_or}
use Rattle.std.proofs.lemmas.Option.{slice_get-map, slice_get-get_or, get_or_from_slice_get}
use Rattle.shape_terms.specs.Points.{Point}
use Rattle.shape_terms.specs.Naive.{Naive}
use Rattle.shape_terms.specs.Straight.{IsStraightFor}
use Rattle.shape_terms.specs.Contours.{Crack}
use Rattle.shape_terms.specs.Covers.{Stretch, IsSegment, Evidence, IsEvidence, arc, gap_run}
use Rattle.shape_terms.specs.GapCover.{stretch_at, AreGapped}
use Rattle.report_terms.specs.ContourFacts.{Segment, stretches_of, GapKind, GapFact, in_pairs, SegmentShows, SegmentIsLeast, SegmentHasEvidence, RefusalShows}
use Rattle.report_terms.specs.ContourFacts.{ContourShows}
use Rattle.shape_terms.specs.Least.{Pairs}
use Rattle.shape_terms.proofs.LeastLines.{shows_least}
use Rattle.shape_terms.proofs.ArcRuns.{length-arc}
use Rattle.shape_terms.proofs.Senses.{sense_no_turn, straight_for}
use Rattle.shape_terms.proofs.Members.{slice_get-taken}
use Rattle.shape_terms.proofs.ContourCovers.{covers}
use Rattle.report_terms.proofs.Zips.{zip_at}
use Rattle.report_terms.proofs.CoverTaken.{CoverSoFar, IsListed, HaveEvidence}

-- ---- straight segments

arc_straight : (points : List Point) (m : ℕ) (before : List Stretch) (b e t : ℕ) (line : Naive) → IsSegment points m before b e t line
    → IsStraightFor t (arc points b e)
arc_straight points m before b e t line s = record {
  some = let r = s.rises in omega (arith, length-arc points b e);
  no_turn = sense_no_turn t (arc points b e) s.sense;
  line = (line, s.naive);
}

-- ---- the gaps in pairs

halves : (k : ℕ) → ((2 * k) % 2 ≡ 0) × ((2 * k) / 2 ≡ k) × ((2 * k + 1) % 2 ≡ 1) × ((2 * k + 1) / 2 ≡ k)
halves k = (omega arith, omega arith, omega arith, omega arith)

pairs_get : (gaps : List GapFact) (k : ℕ) (g : GapFact × GapFact) → slice_get (in_pairs gaps) k ≡ Some g
    → (slice_get gaps (2 * k) ≡ Some g.0) × (slice_get gaps (2 * k + 1) ≡ Some g.1)
pairs_get [] k g e = cc
pairs_get (a ∷ []) k g e = cc
pairs_get (a ∷ b ∷ gaps) zero g e = (cc, cc)
pairs_get (a ∷ b ∷ gaps) (suc k) g e =
    let r = pairs_get gaps k g e in
    let p : 2 * suc k ≡ suc (suc (2 * k)) = omega arith in
    let q : 2 * suc k + 1 ≡ suc (suc (2 * k + 1)) = omega arith in
    (ap (slice_get (a ∷ b ∷ gaps)) p ∙ r.0, ap (slice_get (a ∷ b ∷ gaps)) q ∙ r.1)

pairs_length : (gaps : List GapFact) (m : ℕ) → length gaps ≡ 2 * m → length (in_pairs gaps) ≡ m
pairs_length [] m e = omega arith
pairs_length (a ∷ []) m e = absurd (omega arith)
pairs_length (a ∷ b ∷ gaps) zero e = absurd (omega arith)
pairs_length (a ∷ b ∷ gaps) (suc m) e = ap suc (pairs_length gaps m (omega arith))

-- ---- all segments, and two refusals for each

no_segment : Segment
no_segment = record { stretch = record { first = 0; last = 0 }; axis = 0; line = record { a = []; mu = pos 0 } }

module _ (number : ℕ) (points : List Point) (m : ℕ) (segments : List Segment) (shown : List Pairs) (last : Option Segment) (gaps : List GapFact)
    (c : CoverSoFar number points m segments shown last gaps) (some : 1 ≤ m) (many : length segments ≡ m) (all : length gaps ≡ 2 * m) where
  length-stretches : length (stretches_of segments) ≡ m
  length-stretches = length-map segments (λ (s : Segment). s.stretch) ∙ many

  -- the k-th segment
  record Nth (k : ℕ) : Type 0 where
    pub segment : Segment
    pub there : slice_get segments k ≡ Some segment
    pub stretch : slice_get (stretches_of segments) k ≡ Some segment.stretch
    pub at : stretch_at (stretches_of segments) k ≡ segment.stretch
    pub listed : IsListed points m (take k segments) segment

  nth : (k : ℕ) → k < m → Nth k
  nth k h =
      let e = slice_get-get_or segments k no_segment (omega (arith, many)) in
      let s = get_or segments k no_segment in
      let f : slice_get (stretches_of segments) k ≡ Some s.stretch = slice_get-map (λ (s : Segment). s.stretch) segments k
      ∙ ap (option_map (λ (s : Segment). s.stretch)) e in
      record {
        segment = s;
        there = e;
        stretch = f;
        at = get_or_from_slice_get (stretches_of segments) k s.stretch (record { first = 0; last = 0 }) f;
        listed = c.listed k s e;
      }

  -- the stretches before the k-th
  before_is : (k : ℕ) → k ≤ m → (stretches_of (take k segments) ≡ take k (stretches_of segments)) × (length (stretches_of (take k segments)) ≡ k)
  before_is k h = (
    sym (take-map (λ (s : Segment). s.stretch) k segments),
    length-map (take k segments) (λ (s : Segment). s.stretch)
        ∙ length-take-le k segments (omega (arith, many)),
  )

  -- the places rise from one segment to the next
  rises : (k : ℕ) → k + 1 < m → ((stretch_at (stretches_of segments) k).first < (stretch_at (stretches_of segments) (k + 1)).first)
      × ((stretch_at (stretches_of segments) k).last < (stretch_at (stretches_of segments) (k + 1)).last)
  rises k h =
      let s = nth k (omega arith) in
      let u = nth (k + 1) h in
      let b = before_is (k + 1) (omega arith) in
      let n : length (stretches_of (take (k + 1) segments)) - 1 ≡ k = omega (arith, b.1) in
      let q : k + 1 ≡ suc k = omega arith in
      let e : slice_get (stretches_of (take (k + 1) segments)) (length (stretches_of (take (k + 1) segments)) - 1) ≡ Some s.segment.stretch =
      (λ i. slice_get (b.0 i) (n i)) ∙ ap (λ j. slice_get (take j (stretches_of segments)) k) q ∙ slice_get-taken (stretches_of segments) k ∙ s.stretch in
      let a : (s.segment.stretch.first < u.segment.stretch.first) × (s.segment.stretch.last < u.segment.stretch.last) =
      subst (λ o. IfSome o (λ x. (x.first < u.segment.stretch.first) × (x.last < u.segment.stretch.last))) e u.listed.good.after in
      rw (s.at, u.at) a

  -- the last stretch ends before the first one does one round on
  closes : (stretch_at (stretches_of segments) (length (stretches_of segments) - 1)).last < (stretch_at (stretches_of segments) 0).last + length points
  closes =
      let k = m - 1 in
      let s = nth k (omega arith) in
      let b = before_is k (omega arith) in
      let x = s.segment.stretch in
      let h = s.listed.good.closes (omega (arith, b.1)) in
      let e : stretches_of (take k segments) ++ x ∷ [] ≡ stretches_of segments =
      ap (λ l. l ++ x ∷ []) b.0 ∙ ap (λ z. take k (stretches_of segments) ++ z ∷ []) (sym s.at)
      ∙ sym (take_more (stretches_of segments) k (record { first = 0; last = 0 }) (omega (arith, length-stretches)))
      ∙ take_all (k + 1) (stretches_of segments) (omega (arith, length-stretches)) in
      let f : get_or (stretches_of (take k segments) ++ x ∷ []) 0 x ≡ stretch_at (stretches_of segments) 0 =
      ap (λ l. get_or l 0 x) e ∙ get_or_default (stretches_of segments) 0 x (record { first = 0; last = 0 }) (omega (arith, length-stretches)) in
      let g : stretch_at (stretches_of segments) (length (stretches_of segments) - 1) ≡ x =
      ap (stretch_at (stretches_of segments)) (let q : length (stretches_of segments) - 1 ≡ k = omega (arith, length-stretches) in q) ∙ s.at in
      let p = ap (λ (z : Stretch). z.last) f in
      let r = ap (λ (z : Stretch). z.last) g in
      omega arith

  -- the refusals of gap k
  refused_at : (j k t : ℕ) → j % 2 ≡ t → j / 2 ≡ k → (f : GapFact) → slice_get gaps j ≡ Some f
      → (f.axis ≡ t) × RefusalShows (gap_run points (stretches_of segments) k) f × ((e : Evidence) × IsEvidence t (gap_run points (stretches_of segments) k) e)
  refused_at j k t p q f there =
      let r = c.refused j f there in
      let a : f.axis ≡ t = r.axis ∙ p in (
        a,
        subst (λ i. RefusalShows (gap_run points (stretches_of segments) i) f) q r.shows,
        (
          r.evidence,
          subst (λ i. IsEvidence t (gap_run points (stretches_of segments) i) r.evidence) q
              (subst (λ i. IsEvidence i (gap_run points (stretches_of segments) (j / 2)) r.evidence) a r.good),
        ),
      )

  evidence_at : (j k t : ℕ) → j % 2 ≡ t → j / 2 ≡ k → j < 2 * m → (e : Evidence) × IsEvidence t (gap_run points (stretches_of segments) k) e
  evidence_at j k t p q h = let d : GapFact = record { axis = 0; kind = GapKind.ByTurn } in
      (refused_at j k t p q (get_or gaps j d) (slice_get-get_or gaps j d (omega (arith, all)))).2

  gapped : AreGapped points (stretches_of segments)
  gapped = record {
    some = omega (arith, length-stretches);
    begins = λ k h. (let s = nth k (omega (arith, length-stretches)) in rw s.at s.listed.good.begins);
    first_rises = λ k h. (rises k (omega (arith, length-stretches))).0;
    last_rises = λ k h. (rises k (omega (arith, length-stretches))).1;
    closes = closes;
    straight = λ k h.
        let s = nth k (omega (arith, length-stretches)) in
        let g = s.listed.good in
        rw s.at (straight_for s.segment.axis (arc points s.segment.stretch.first s.segment.stretch.last) s.listed.axis
        (arc_straight points m (stretches_of (take k segments)) s.segment.stretch.first s.segment.stretch.last s.segment.axis s.segment.line g));
    evidence_x = λ k h. (let a = halves k in evidence_at (2 * k) k 0 a.0 a.1 (omega (arith, length-stretches)));
    evidence_y = λ k h. (let a = halves k in evidence_at (2 * k + 1) k 1 a.2 a.3 (omega (arith, length-stretches)));
  }

  segment_shows : (k : ℕ) → k < length segments → SegmentShows points (get_or segments k no_segment)
  segment_shows k h =
      let s = c.listed k (get_or segments k no_segment) (slice_get-get_or segments k no_segment h) in
      let g = s.good in
      record { axis = s.axis; line = g.naive; sense = g.sense }

  -- behind the gap lines no `least` line is wanted
  all_shown : last ≡ None
  all_shown = closed last c.early
    where
      closed : (o : Option Segment) → ((s : Segment) → o ≡ Some s → gaps ≡ []) → o ≡ None
      closed None h = refl
      closed (Some s) h = absurd (let e = ap length (h s refl) in omega (arith, all, some, e))

  -- so each segment has its evidence
  all_evidence : number ≡ 2 → AllZip (SegmentHasEvidence points) segments shown
  all_evidence e = subst (HaveEvidence points segments shown) all_shown (c.evidence e)

  -- and its line is least
  segment_least : number ≡ 2 → (k : ℕ) → k < length segments → SegmentIsLeast points (get_or segments k no_segment)
  segment_least e k h =
      let s = get_or segments k no_segment in
      let pairs = zip_at (SegmentHasEvidence points) segments shown k no_segment (all_evidence e) h in
      shows_least s.axis (arc points s.stretch.first s.stretch.last) s.line pairs.0 (segment_shows k h).line pairs.1

  -- the contour is shown
  pub cover_shows : (start : Crack)
      → ContourShows number (record { outline = record { start = start; points = points }; segments = segments; evidence = shown; gaps = in_pairs gaps })
  cover_shows start = record {
    cover = covers points (stretches_of segments) gapped;
    lines = All-from_get_or (SegmentShows points) segments no_segment segment_shows;
    least = λ e. All-from_get_or (SegmentIsLeast points) segments no_segment (segment_least e);
    evidence = all_evidence;
    all_gaps = pairs_length gaps m all ∙ sym many;
    gaps = λ k g e.
        let p = pairs_get gaps k g e in
        let a = halves k in
        let x = refused_at (2 * k) k 0 a.0 a.1 g.0 p.0 in
        let y = refused_at (2 * k + 1) k 1 a.2 a.3 g.1 p.1 in
        record { axis_x = x.0; axis_y = y.0; refused_x = x.1; refused_y = y.1 };
  }
