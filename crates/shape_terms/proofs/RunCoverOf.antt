-- Stretches whose gaps are neither empty nor straight are the cover of the path, for any notion of straight that a part of a run keeps.
-- The first stretch stands one round on after the last; the argument itself stands in `Gaps` of the terms.
use Rattle.std.proofs.Common.{◌≡◌, ℕ, zero, suc, pred, ◌+◌, ◌-◌, ◌<◌, ◌≤◌, List, length, get_or, ap, sym, subst, ◌∙◌, arith}
use Rattle.std.specs.Prelude.{Contains}
use Rattle.std.proofs.lemmas.List.{get_or_default, get_or_past}
use Rattle.std.proofs.lemmas.Option.{slice_get-get_or, slice_get_past}
use native.Mathlib.Decide.{dec_lt, ℕ_discrete}
use Rattle.shape_terms.specs.Points.{Point}
use Rattle.shape_terms.specs.Covers.{Stretch, arc, gap_run, next_first}
use Rattle.shape_terms.specs.GapCover.{stretch_at}
use Rattle.shape_terms.proofs.Stretches.{Gapped, Maximal}
use Rattle.shape_terms.proofs.Gaps.{exactly, each_maximal}
use Rattle.shape_terms.proofs.ArcRuns.{length-arc}
use Rattle.shape_terms.specs.RunCovers.{IsMaximalRun, IsRunCover, AreRunsWithGaps}
use Rattle.shape_terms.proofs.RunArcs.{IsStraightness, Straight, run_arcs, maximal_from, maximal_to}

-- the stretches, and then for all places one that begins where the first does, one round on
module _ (path : List Point) (stretches : List Stretch) (onward : Stretch) (some : 1 ≤ length stretches)
    (comes : onward.first ≡ (get_or stretches 0 onward).first + length path) where
  pub next_is : (k : ℕ) → k < length stretches → next_first path stretches k ≡ (get_or stretches (suc k) onward).first
  next_is k h = elim (dec_lt (k + 1) (length stretches)) [
    | yes l ↦ rw (slice_get-get_or stretches (k + 1) onward l) (ap (λ i. (get_or stretches i onward).first) (let q : k + 1 ≡ suc k = omega arith in q))
    | no l ↦ rw (slice_get_past stretches (k + 1) (omega arith), slice_get-get_or stretches 0 onward some)
        (sym comes ∙ sym (ap (λ (s : Stretch). s.first) (get_or_past stretches (suc k) onward (omega arith))))
  ]

  -- a gap goes from the place before the next stretch to the place after its own
  pub gap_is : (k : ℕ) → k < length stretches → arc path ((get_or stretches (suc k) onward).first - 1) ((get_or stretches k onward).last + 1)
      ≡ gap_run path stretches k
  gap_is k h =
      let b = sym (next_is k h) in
      let e = ap (λ (s : Stretch). s.last) (get_or_default stretches k onward (record { first = 0; last = 0 }) h) in
      λ i. arc path (b i - 1) (e i + 1)

module _ (S : List Point → Type 0) (is : IsStraightness S) (path : List Point) (stretches : List Stretch) (g : AreRunsWithGaps S path stretches) where
  -- the first stretch, one round on
  abbrev onward : Stretch
  onward = record { first = (stretch_at stretches 0).first + length path; last = (stretch_at stretches 0).last + length path }

  abbrev begin : ℕ → ℕ
  begin k = (get_or stretches k onward).first

  abbrev finish : ℕ → ℕ
  finish k = (get_or stretches k onward).last

  at_is : (k : ℕ) → k < length stretches → get_or stretches k onward ≡ stretch_at stretches k
  at_is k h = get_or_default stretches k onward (record { first = 0; last = 0 }) h

  at_end : get_or stretches (length stretches) onward ≡ onward
  at_end = get_or_past stretches (length stretches) onward (omega arith)

  comes : onward.first ≡ begin 0 + length path
  comes = ap (λ (s : Stretch). s.first + length path) (sym (at_is 0 g.some))

  bent : (k : ℕ) → k < length stretches → Straight S is path (pred (begin (suc k))) (suc (finish k)) → ⊥
  bent k h s =
      let b : pred (begin (suc k)) ≡ begin (suc k) - 1 = omega arith in
      let e : suc (finish k) ≡ finish k + 1 = omega arith in
      g.gap_bent k h (subst S ((λ i. arc path (b i) (e i)) ∙ gap_is path stretches onward g.some comes k h) s)

  wide : (k : ℕ) → k < length stretches → begin (suc k) ≤ finish k + 2
  wide k h =
      let l = g.gap_some k h in
      let a = ap length (gap_is path stretches onward g.some comes k h) in
      let n = length-arc path (begin (suc k) - 1) (finish k + 1) in
      omega arith

  -- what rises from each stretch to the next, and from the last to the first, one round on
  rises_on : (v : Stretch → ℕ) → ((k : ℕ) → k + 1 < length stretches → v (stretch_at stretches k) < v (stretch_at stretches (k + 1)))
      → v (stretch_at stretches (length stretches - 1)) < v onward → (k : ℕ) → k < length stretches
      → v (get_or stretches k onward) < v (get_or stretches (suc k) onward)
  rises_on v r c k h = elim (dec_lt (suc k) (length stretches)) [
    | yes l ↦ (let q : k + 1 ≡ suc k = omega arith in
        rw (at_is k h, at_is (suc k) l) (subst (λ j. v (stretch_at stretches k) < v (stretch_at stretches j)) q (r k (omega arith))))
    | no l ↦ (let q : length stretches - 1 ≡ k = omega arith in rw (at_is k h, get_or_past stretches (suc k) onward (omega arith))
        (subst (λ j. v (stretch_at stretches j) < v onward) q c))
  ]

  rising_b : (k : ℕ) → k < length stretches → begin k < begin (suc k)
  rising_b = rises_on (λ s. s.first) g.first_rises (let b = g.begins (length stretches - 1) (omega (arith, g.some)) in omega arith)

  straight : (k : ℕ) → k < length stretches → Straight S is path (begin k) (finish k)
  straight k h = subst (λ (s : Stretch). S (arc path s.first s.last)) (sym (at_is k h)) (g.straight k h)

  top : (k : ℕ) → k < length stretches → begin k < length path
  top k h = subst (λ (s : Stretch). s.first < length path) (sym (at_is k h)) (g.begins k h)

  gapped : Gapped (length path) (Straight S is path) (length stretches) begin finish
  gapped = record {
    some = g.some;
    low = top 0 g.some;
    wrapped_b = ap (λ (s : Stretch). s.first) at_end ∙ comes;
    wrapped_e = ap (λ (s : Stretch). s.last) at_end ∙ ap (λ (s : Stretch). s.last + length path) (sym (at_is 0 g.some));
    in_range = λ k h. (run_arcs S is path).ordered (begin k) (finish k) (straight k h);
    rising_b = rising_b;
    rising_e = rises_on (λ s. s.last) g.last_rises g.closes;
    top = top;
    straight = straight;
    wide = wide;
    bent = bent;
  }

  rises : (i j : ℕ) → i < j → j < length stretches → begin i < begin j
  rises i zero l h = absurd (omega arith)
  rises i (suc j) l h =
      let r = rising_b j (omega arith) in
      elim (ℕ_discrete i j) [
        | yes e ↦ (let b = ap begin e in omega arith)
        | no e ↦ (let a = rises i j (omega arith) (omega arith) in omega arith)
      ]

  -- the stretches are the cover
  pub covers : IsRunCover S path stretches
  covers = record {
    exact = λ s. (listed s, maximal s);
    rising = λ i j d l h. (let a = ap (λ (s : Stretch). s.first) (get_or_default stretches i d onward (omega arith)) in let b =
        ap (λ (s : Stretch). s.first) (get_or_default stretches j d onward h) in let r = rises i j l h in omega arith);
  }
    where
      listed : (s : Stretch) → Contains stretches s → (s.first < length path) × IsMaximalRun S path s.first s.last
      listed s (k, h, e) =
          let f : get_or stretches k onward ≡ s = get_or_default stretches k onward s h ∙ e in
          let m = subst (λ (v : Stretch). Maximal (length path) (Straight S is path) v.first v.last) f (each_maximal (run_arcs S is path) gapped k h) in
          (subst (λ (v : Stretch). v.first < length path) f (top k h), maximal_to S is path s.first s.last m)

      maximal : (s : Stretch) → (s.first < length path) × IsMaximalRun S path s.first s.last → Contains stretches s
      maximal s (l, x) =
          let w = (exactly (run_arcs S is path) gapped s.first s.last l).0 (maximal_from S is path s.first s.last x) in
          (w.0, w.1, get_or_default stretches w.0 s onward w.1 ∙ (λ i. record { first = w.2 i; last = w.3 i }))
