-- The lines that are made of what is found of a contour: their fields are in range, and each segment stands in its place.
-- Laws over what was found; the program stands in none.
use Rattle.std.proofs.Common.{◌≡◌, ◌+◌, ◌<◌, ◌^◌, ℕ, zero, suc, ℤ, pos, negsuc, List, [], ◌∷◌, ◌++◌, length, take, refl, sym, ap, ◌∙◌, subst, arith}
use Rattle.std.specs.Prelude.{◌*◌, ◌≤◌, All, FitsSigned, Some, nat_abs, slice_get, slice_index_or}
use Rattle.std.specs.Int.{w64}
use Rattle.std.proofs.lemmas.List.{length-map, length-take-le}
use Rattle.shape_terms.specs.Limits.{plane_weight}
use Rattle.shape_terms.specs.Points.{Point, coordinate}
use Rattle.shape_terms.specs.Least.{Pairs, ShowsLeast}
use Rattle.report_terms.specs.ContourFacts.{Segment}
use Rattle.shape_terms.specs.Traces.{Contour}
use Rattle.shape_terms.specs.Naive.{Naive}
use Rattle.shape_terms.specs.Refutations.{Share, Step, StepShare, Refutation, IsStepOf, Refutes}
use Rattle.shape_terms.specs.Covers.{Evidence, IsEvidence, gap_run}
use Rattle.text_terms.specs.Forms.{counted}
use Rattle.text_terms.specs.Weights.{IsStepIn, share, step_share, why}
use Rattle.report_terms.specs.Lines.{Line, IsLineOf}
use Rattle.shape_plane.specs.Pairs.{AreSmallWeights}
use Rattle.shape_line.specs.Found.{Found, stretches_of, found_at, IsShownBy, IsCoverOf, IsShortLine, AreShortShares, IsShortEvidence}
use Rattle.shape_analyse.specs.Growing.{Aim, IsOutlined, at_contour, covered}
use Rattle.shape_analyse.proofs.ContourGrowth.{outlined_segment, outlined_least, outlined_gap}

fits : (z : ℤ) → nat_abs z < 2 ^ 63 → FitsSigned w64 z
fits (pos n) h = record { sfits = omega arith }
fits (negsuc n) h = record { sfits = omega arith }

-- a segment's line, with places of 32 bits
pub segment_fits : (b e t : ℕ) (line : Naive) → b < 2 ^ 32 → e < 2 ^ 32 → t < 2 → IsShortLine line → IsLineOf 2 (Line.Seg b e t line.a line.mu)
segment_fits b e t line hb he ht s = (refl, (hb, (he, (ht, (record { axes = s.two; fits = λ i d l. fits _ (s.coefficients i d l) }, fits line.mu s.mu)))))

step_in : (d t : ℕ) (s : StepShare) → IsStepOf d t s.step → IsStepIn d s.step
step_in d t s h = step_cases t s.step h
  where
    step_cases : (t : ℕ) (s : Step) → IsStepOf d t s → IsStepIn d s
    step_cases t Step.Up h = tt
    step_cases t (Step.Plus u) h = h.0
    step_cases t (Step.Minus u) h = h.0

shares_fit : (shares : List Share) → AreShortShares shares → (counted 4 share).InRange shares
shares_fit shares h = (h.few, λ i d l. (h.weights i d l, h.places i d l))

-- a gap line of an axis of the plane
pub gap_fits : (t : ℕ) (run : List Point) (v : Evidence) → t < 2 → IsEvidence t run v → IsShortEvidence v → IsLineOf 2 (Line.Gap t v)
gap_fits t run (Evidence.Turned i j) ht h s = (refl, (ht, (s.0, s.1)))
gap_fits t run (Evidence.Cut why) ht h s =
    let steps : (counted 4 (step_share 2)).InRange why.steps =
    (s.few_steps, λ i d l. (s.steps i d l, step_in 2 t (slice_index_or why.steps i d) (h.1.steps_of_axis i d l))) in
    (refl, (ht, (shares_fit why.low s.low, (shares_fit why.high s.high, steps))))

-- small weights that refute points of which there are few
pub weights_fit : (d t : ℕ) (run : List Point) (r : Refutation) → length run ≤ 2 ^ 32 → Refutes d t run r → AreSmallWeights r → (why d).InRange r
weights_fit d t run r few h small = (
  shares r.low small.few_low small.low h.low_places,
  (
    shares r.high small.few_high small.high h.high_places,
    (small.few_steps, λ i e l. (below i e l, step_in d t (slice_index_or r.steps i e) (h.steps_of_axis i e l))),
  ),
)
  where
    shares : (ss : List Share) → length ss ≤ 4 → All (λ s. s.weight < plane_weight) ss → All (λ s. s.place < length run) ss → (counted 4 share).InRange ss
    shares ss n a b = (n, λ i e l. let w = a i e l in let p = b i e l in (omega (arith, w), omega (arith, p, few)))

    below : (i : ℕ) (e : StepShare) → i < length r.steps → (slice_index_or r.steps i e).weight < 2 ^ 63
    below i e l = let w = small.steps i e l in omega (arith, w)

-- the stretches up to one more
pub stretches_more : (found : List Found) (j : ℕ) → j < length found
    → take j (stretches_of found) ++ (found_at found j).stretch ∷ [] ≡ take (j + 1) (stretches_of found)
stretches_more found j l = more found j l ∙ ap (λ k. take k (stretches_of found)) (let e : suc j ≡ j + 1 = omega arith in e)
  where
    more : (found : List Found) (j : ℕ) → j < length found → take j (stretches_of found) ++ (found_at found j).stretch ∷ [] ≡ take (suc j) (stretches_of found)
    more [] j l = absurd (omega arith)
    more (f ∷ found) zero l = refl
    more (f ∷ found) (suc j) l = ap (λ s. f.stretch ∷ s) (more found j (omega arith))

-- ---- lines that are added

-- the segment that was found in the place j
abbrev pub segment_at : List Found → ℕ → Segment
segment_at found j = record { stretch = (found_at found j).stretch; axis = (found_at found j).axis; line = (found_at found j).line }

abbrev pub segment_line : Segment → Line
segment_line s = Line.Seg s.stretch.first s.stretch.last s.axis s.line.a s.line.mu

-- the line of the next segment
pub found_segment : (X : Aim) (contours : List Contour) (k : ℕ) (c : Contour) (found : List Found) (j : ℕ) (lines : List Line)
    → IsOutlined X contours (at_contour k (length c.points) (length found) (take j (stretches_of found)) 0) lines → slice_get contours k ≡ Some c
    → IsCoverOf c.points found → j < length found
    → IsLineOf 2 (segment_line (segment_at found j))
    → IsOutlined X contours (record (at_contour k (length c.points) (length found) (take (j + 1) (stretches_of found)) 0) { last = Some (segment_at found j) })
    (lines ++ segment_line (segment_at found j) ∷ [])
found_segment X contours k c found j lines o there cover l fields =
    let f = found_at found j in
    let before = take j (stretches_of found) in
    let more : length before < length found =
    omega (arith, length-take-le j (stretches_of found) (omega (arith, length-map found (λ (f : Found). f.stretch))), l) in
    let next = outlined_segment X contours k (length found) before lines c f.stretch.first f.stretch.last f.axis f.line o there more (cover.segment j l) fields
    in
    subst (λ ss. IsOutlined X contours (record (at_contour k (length c.points) (length found) ss 0) { last = Some (segment_at found j) })
    (lines ++ segment_line (segment_at found j) ∷ [])) (stretches_more found j l) next

-- the `least` line behind it
pub found_least : (X : Aim) (contours : List Contour) (k : ℕ) (c : Contour) (found : List Found) (j : ℕ) (pairs : Pairs) (lines : List Line)
    → IsOutlined X contours (record (at_contour k (length c.points) (length found) (take (j + 1) (stretches_of found)) 0) { last = Some (segment_at found j) })
    lines → slice_get contours k ≡ Some c
    → IsCoverOf c.points found → j < length found → IsShownBy (found_at found j) pairs → IsLineOf 2 (Line.Least pairs)
    → IsOutlined X contours (at_contour k (length c.points) (length found) (take (j + 1) (stretches_of found)) 0) (lines ++ Line.Least pairs ∷ [])
found_least X contours k c found j pairs lines o there cover l shown fields =
    let f = found_at found j in
    outlined_least X contours k (length found) (take (j + 1) (stretches_of found)) (segment_at found j) lines c pairs o there
    (subst (λ run. ShowsLeast f.axis run (coordinate f.line.a f.axis) pairs) (cover.grown j l) shown) fields

-- the two lines of the next gap
pub found_gap : (X : Aim) (contours : List Contour) (k : ℕ) (c : Contour) (found : List Found) (j t : ℕ) (v : Evidence) (lines : List Line)
    → IsOutlined X contours (covered k c found (2 * j + t)) lines → slice_get contours k ≡ Some c → j < length found → t < 2
    → IsEvidence t (gap_run c.points (stretches_of found) j) v → IsLineOf 2 (Line.Gap t v)
    → IsOutlined X contours (covered k c found (2 * j + t + 1)) (lines ++ Line.Gap t v ∷ [])
found_gap X contours k c found j t v lines o there l two good fields =
    let n : length found ≡ length (stretches_of found) = sym (length-map found (λ (f : Found). f.stretch)) in
    let here = subst (λ m. IsOutlined X contours (at_contour k (length c.points) m (stretches_of found) (2 * j + t)) lines) n o in
    let next = outlined_gap X contours k (stretches_of found) (2 * j + t) j t lines c v here there refl (omega (arith, l, n)) two good fields in
    subst (λ m. IsOutlined X contours (at_contour k (length c.points) m (stretches_of found) (2 * j + t + 1)) (lines ++ Line.Gap t v ∷ [])) (sym n) next
