-- Each of the stretches of a path, after those before it: where it stands among them, and that they rise where each stands so.
-- Which evidence there is for the gaps does not matter here.
use Rattle.std.proofs.Common.{◌≡◌, ℕ, zero, suc, ◌+◌, ◌-◌, ◌<◌, ◌≤◌, List, [], ◌∷◌, ◌++◌, length, get_or, take, ap, sym, subst, ◌∙◌, arith}
use Rattle.std.specs.Prelude.{slice_get, Some, IfSome}
use Rattle.std.proofs.lemmas.List.{get_or_default, get_or_append_left, get_or-take, length-take-le, take_all, take_more}
use Rattle.std.proofs.lemmas.Option.{slice_get-get_or}
use Rattle.shape_terms.specs.Points.{Point}
use Rattle.shape_terms.specs.Covers.{Stretch}
use Rattle.shape_terms.specs.GapCover.{stretch_at}
use Rattle.shape_terms.proofs.Members.{slice_get-taken}
use Rattle.shape_terms.specs.RunCovers.{AreRunsWithGaps}
use Rattle.shape_terms.proofs.RunArcs.{IsStraightness, run_arcs}

-- a stretch from place b to place e after the stretches before it, among m of a path: the places rise
pub record IsPlaced (path : List Point) (m : ℕ) (before : List Stretch) (s : Stretch) : Type 0 where
  pub begins : s.first < length path
  pub rises : s.first ≤ s.last
  pub after : IfSome (slice_get before (length before - 1)) (λ r. (r.first < s.first) × (r.last < s.last))
  pub closes : length before + 1 ≡ m → s.last < (get_or (before ++ s ∷ []) 0 s).last + length path

module _ (S : List Point → Type 0) (is : IsStraightness S) (path : List Point) (stretches : List Stretch) (g : AreRunsWithGaps S path stretches) where
  after : (k : ℕ) → k < length stretches
      → IfSome (slice_get (take k stretches) (length (take k stretches) - 1))
      (λ r. (r.first < (stretch_at stretches k).first) × (r.last < (stretch_at stretches k).last))
  after zero l = tt
  after (suc k) l =
      let n : length (take (suc k) stretches) ≡ suc k = length-take-le (suc k) stretches (omega arith) in
      let q : length (take (suc k) stretches) - 1 ≡ k = omega arith in
      let o : slice_get (take (suc k) stretches) (length (take (suc k) stretches) - 1) ≡ Some (stretch_at stretches k) =
      ap (slice_get (take (suc k) stretches)) q
      ∙ (slice_get-get_or (take (suc k) stretches) k _ (omega arith) ∙ ap Some (get_or-take (suc k) stretches k _ (omega arith))) in
      let next : k + 1 ≡ suc k = omega arith in
      let b = g.first_rises k (omega arith) in
      let e = g.last_rises k (omega arith) in
      let b' = ap (λ j. (stretch_at stretches j).first) next in
      let e' = ap (λ j. (stretch_at stretches j).last) next in
      let h : ((stretch_at stretches k).first < (stretch_at stretches (suc k)).first) × ((stretch_at stretches k).last < (stretch_at stretches (suc k)).last) =
      (omega arith, omega arith) in
      rw o h

  closes : (k : ℕ) (s : Stretch) → k < length stretches → s ≡ stretch_at stretches k → length (take k stretches) + 1 ≡ length stretches
      → s.last < (get_or (take k stretches ++ s ∷ []) 0 s).last + length path
  closes zero s l e h = let b = g.begins 0 l in omega arith
  closes (suc k) s l e h =
      let n : length (take (suc k) stretches) ≡ suc k = length-take-le (suc k) stretches (omega arith) in
      let first : get_or (take (suc k) stretches ++ s ∷ []) 0 s ≡ stretch_at stretches 0 =
      get_or_append_left (take (suc k) stretches) (s ∷ []) s 0 (omega arith)
      ∙ (get_or-take (suc k) stretches 0 s (omega arith) ∙ get_or_default stretches 0 s _ (omega arith)) in
      let q : length stretches - 1 ≡ suc k = omega arith in
      let a = ap (λ (s : Stretch). s.last) first in
      let b = ap (λ j. (stretch_at stretches j).last) q in
      let c = ap (λ (s : Stretch). s.last) e in
      let d = g.closes in
      omega arith

  pub placed : (k : ℕ) → k < length stretches → IsPlaced path (length stretches) (take k stretches) (stretch_at stretches k)
  placed k l = record {
    begins = g.begins k l;
    rises = (run_arcs S is path).ordered _ _ (g.straight k l);
    after = after k l;
    closes = closes k (stretch_at stretches k) l (λ i. stretch_at stretches k);
  }

  -- first places rise, so the stretches are no more than the places of the path
  at_least : (k : ℕ) → k < length stretches → k ≤ (stretch_at stretches k).first
  at_least zero l = omega arith
  at_least (suc k) l =
      let next : k + 1 ≡ suc k = omega arith in
      let h = at_least k (omega arith) in
      let r = g.first_rises k (omega arith) in
      let q = ap (λ j. (stretch_at stretches j).first) next in
      omega arith

  pub few : length stretches ≤ length path
  few =
      let s = g.some in
      let l : length stretches - 1 < length stretches = omega arith in
      let a = at_least (length stretches - 1) l in
      let b = g.begins (length stretches - 1) l in
      omega arith

module _ (path : List Point) (stretches : List Stretch) (some : 1 ≤ length stretches)
    (each : (k : ℕ) → k < length stretches → IsPlaced path (length stretches) (take k stretches) (stretch_at stretches k)) where
  pub placed_rise : (k : ℕ) → k + 1 < length stretches → ((stretch_at stretches k).first < (stretch_at stretches (k + 1)).first)
      × ((stretch_at stretches k).last < (stretch_at stretches (k + 1)).last)
  placed_rise k h =
      let s = stretch_at stretches k in
      let u = stretch_at stretches (k + 1) in
      let n : length (take (k + 1) stretches) - 1 ≡ k = omega (arith, length-take-le (k + 1) stretches (omega arith)) in
      let q : k + 1 ≡ suc k = omega arith in
      let e : slice_get (take (k + 1) stretches) (length (take (k + 1) stretches) - 1) ≡ Some s =
      ap (slice_get (take (k + 1) stretches)) n
      ∙ (ap (λ j. slice_get (take j stretches) k) q ∙ (slice_get-taken stretches k ∙ slice_get-get_or stretches k _ (omega arith))) in
      subst (λ o. IfSome o (λ x. (x.first < u.first) × (x.last < u.last))) e (each (k + 1) h).after

  pub placed_close : (stretch_at stretches (length stretches - 1)).last < (stretch_at stretches 0).last + length path
  placed_close =
      let k = length stretches - 1 in
      let l : k < length stretches = omega arith in
      let x = stretch_at stretches k in
      let n = length-take-le k stretches (omega arith) in
      let h = (each k l).closes (omega arith) in
      let e : take k stretches ++ x ∷ [] ≡ stretches = sym (take_more stretches k _ l) ∙ take_all (k + 1) stretches (omega arith) in
      let f : get_or (take k stretches ++ x ∷ []) 0 x ≡ stretch_at stretches 0 = ap (λ l. get_or l 0 x) e ∙ get_or_default stretches 0 x _ some in
      let p = ap (λ (z : Stretch). z.last) f in
      omega arith
