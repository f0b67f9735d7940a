-- Segments and refusals of their gaps, taken one after another, each good after those before it.
-- Lists of segments and refusals alone; that all of them show the cover stands in `CoverShown`.
use Rattle.std.proofs.Common.{◌≡◌, inl, inr, ℕ, ◌<◌, refl, sym, subst, List, [], ◌∷◌, ◌++◌, length, take, Some}
use Rattle.std.specs.Prelude.{◌/◌, ◌%◌, Option, None, slice_get}
use Rattle.std.specs.List.{AllZip}
use Rattle.shape_terms.specs.Points.{Point}
use Rattle.shape_terms.specs.Naive.{Naive, IsNaiveFor}
use Rattle.shape_terms.specs.Covers.{Stretch, IsSegment, Evidence, IsEvidence, gap_run}
use Rattle.shape_terms.specs.Least.{Pairs}
use Rattle.report_terms.specs.ContourFacts.{Segment, stretches_of, GapKind, GapFact, kind_of, SegmentHasEvidence, RefusalShows}
use Rattle.shape_terms.proofs.Exclusion.{excludes}
use Rattle.shape_terms.proofs.Evidences.{evidence_shows}
use Rattle.text_terms.proofs.ListPushes.{get_push}
use Rattle.report_terms.proofs.Zips.{zip_push}

-- the segment is good after those before it, among m of the contour
pub record IsListed (points : List Point) (m : ℕ) (before : List Segment) (s : Segment) : Type 0 where
  pub axis : s.axis < 2
  pub good : IsSegment points m (stretches_of before) s.stretch.first s.stretch.last s.axis s.line

-- the k-th refusal is of the axis x or y in turn, two for each gap, and good for its run
pub record IsRefused (points : List Point) (stretches : List Stretch) (k : ℕ) (f : GapFact) : Type 0 where
  pub axis : f.axis ≡ k % 2
  pub evidence : Evidence
  pub good : IsEvidence f.axis (gap_run points stretches (k / 2)) evidence
  pub shows : RefusalShows (gap_run points stretches (k / 2)) f

-- each segment has evidence that its line is least, but the last one where its `least` line did not come yet
abbrev pub HaveEvidence : List Point → List Segment → List Pairs → (last : Option Segment) → Type 0
HaveEvidence points segments shown None = AllZip (SegmentHasEvidence points) segments shown
HaveEvidence points segments shown (Some s) = (front : List Segment) × (segments ≡ front ++ s ∷ []) × AllZip (SegmentHasEvidence points) front shown

-- the segments, their evidence and the refusals so far, where the contour has these points and m segments, in a report with this number
pub record CoverSoFar (number : ℕ) (points : List Point) (m : ℕ) (segments : List Segment) (shown : List Pairs) (last : Option Segment) (gaps : List GapFact) :
    Type 0 where
  pub listed : (k : ℕ) (s : Segment) → slice_get segments k ≡ Some s → IsListed points m (take k segments) s
  pub refused : (k : ℕ) (f : GapFact) → slice_get gaps k ≡ Some f → IsRefused points (stretches_of segments) k f
  pub evidence : number ≡ 2 → HaveEvidence points segments shown last
  pub early : (s : Segment) → last ≡ Some s → gaps ≡ []

-- the same of what is the same
pub same_cover : (number : ℕ) (points : List Point) {m n : ℕ} {segments others : List Segment} {shown theirs : List Pairs} {last now : Option Segment}
    {gaps facts : List GapFact} → m ≡ n → segments ≡ others → shown ≡ theirs → last ≡ now → gaps ≡ facts
    → CoverSoFar number points m segments shown last gaps → CoverSoFar number points n others theirs now facts
same_cover number points {m} {n} {segments} {others} {shown} {theirs} {last} {now} {gaps} {facts} a b c d e h =
    subst (λ k. CoverSoFar number points k others theirs now facts) a (subst (λ k. CoverSoFar number points m k theirs now facts) b
    (subst (λ k. CoverSoFar number points m segments k now facts) c
    (subst (λ k. CoverSoFar number points m segments shown k facts) d (subst (CoverSoFar number points m segments shown last) e h))))

-- ---- one more

pub cover_none : (number : ℕ) (points : List Point) (m : ℕ) → CoverSoFar number points m [] [] None []
cover_none number points m = record { listed = λ k s e. cc; refused = λ k f e. cc; evidence = λ e. tt; early = λ s e. refl }

no_evidence : (points : List Point) (shown : List Pairs) (last : Option Segment) → HaveEvidence points [] shown last → HaveEvidence points [] shown None
no_evidence points shown None h = h
no_evidence points shown (Some s) ([], e, h) = cc
no_evidence points shown (Some s) (x ∷ front, e, h) = cc

-- before any segment the last line gives none
pub cover_early : (number : ℕ) (points : List Point) (m : ℕ) (shown : List Pairs) (last : Option Segment) (gaps : List GapFact)
    → CoverSoFar number points m [] shown last gaps → CoverSoFar number points m [] shown None gaps
cover_early number points m shown last gaps c =
    record { listed = c.listed; refused = c.refused; evidence = λ e. no_evidence points shown last (c.evidence e); early = λ s e. cc }

pub cover_segment : (number : ℕ) (points : List Point) (m : ℕ) (segments : List Segment) (shown : List Pairs) (last : Option Segment) (s : Segment)
    → CoverSoFar number points m segments shown last [] → (number ≡ 2 → last ≡ None) → IsListed points m segments s
    → CoverSoFar number points m (segments ++ s ∷ []) shown (Some s) []
cover_segment number points m segments shown last s c none h = record {
  listed = λ k x e. elim (get_push segments s k x e) [
    | inl p ↦ subst (λ b. IsListed points m b x) (sym p.1) (c.listed k x p.0)
    | inr p ↦ subst (λ b. IsListed points m b x) (sym p.1) (subst (IsListed points m segments) p.0 h)
  ];
  refused = λ k f e. cc;
  evidence = λ e. (segments, refl, subst (HaveEvidence points segments shown) (none e) (c.evidence e));
  early = λ x e. refl;
}

-- a `least` line after the last segment
pub cover_least : (number : ℕ) (points : List Point) (m : ℕ) (segments : List Segment) (shown : List Pairs) (s : Segment) (gaps : List GapFact) (pairs : Pairs)
    → CoverSoFar number points m segments shown (Some s) gaps → number ≡ 2
    → SegmentHasEvidence points s pairs → CoverSoFar number points m segments (shown ++ pairs ∷ []) None gaps
cover_least number points m segments shown s gaps pairs c e h =
    let before = c.evidence e in
    record {
      listed = c.listed;
      refused = c.refused;
      evidence = λ _. subst (λ ss. AllZip (SegmentHasEvidence points) ss (shown ++ pairs ∷ [])) (sym before.1)
          (zip_push (SegmentHasEvidence points) before.0 shown s pairs before.2 h);
      early = λ x z. cc;
    }

pub cover_refusal : (number : ℕ) (points : List Point) (m : ℕ) (segments : List Segment) (shown : List Pairs) (last : Option Segment) (gaps : List GapFact)
    (f : GapFact) → CoverSoFar number points m segments shown last gaps → (number ≡ 2 → last ≡ None)
    → IsRefused points (stretches_of segments) (length gaps) f → CoverSoFar number points m segments shown None (gaps ++ f ∷ [])
cover_refusal number points m segments shown last gaps f c none h = record {
  listed = c.listed;
  refused = λ k x e. elim (get_push gaps f k x e) [
    | inl p ↦ c.refused k x p.0
    | inr p ↦ subst (λ j. IsRefused points (stretches_of segments) j x) (sym p.2) (subst (IsRefused points (stretches_of segments) (length gaps)) p.0 h)
  ];
  evidence = λ e. subst (HaveEvidence points segments shown) (none e) (c.evidence e);
  early = λ s e. cc;
}

-- ---- what evidence shows

-- where weights refuse a run, no line holds it
no_line : (t : ℕ) (run : List Point) (evidence : Evidence) → IsEvidence t run evidence → kind_of evidence ≡ GapKind.ByCut → (n : Naive) → IsNaiveFor t run n → ⊥
no_line t run (Evidence.Turned i j) h e n is = cc
no_line t run (Evidence.Cut why) h e n is = excludes 2 t run why h.1 n is

pub refused_by : (points : List Point) (stretches : List Stretch) (k t : ℕ) (evidence : Evidence) → t ≡ k % 2
    → IsEvidence t (gap_run points stretches (k / 2)) evidence → IsRefused points stretches k (record { axis = t; kind = kind_of evidence })
refused_by points stretches k t evidence e h = record {
  axis = e;
  evidence = evidence;
  good = h;
  shows = record {
    not_straight = evidence_shows t (gap_run points stretches (k / 2)) evidence h;
    no_line =
        no_line t (gap_run points stretches (k / 2)) evidence h;
  };
}
