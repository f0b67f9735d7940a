-- A walk that came round a path has found its cover: exactly the maximal straight runs, with a bent gap after each.
-- Stated of the values alone; how the stretches are searched belongs elsewhere.
use Rattle.std.proofs.Common.{◌≡◌, ℕ, suc, pred, ◌+◌, ◌-◌, ◌<◌, ◌≤◌, List, [], ◌∷◌, length, get_or, map, ap, sym, subst, ◌∙◌, arith}
use Rattle.std.proofs.lemmas.List.{get_or_default}
use native.Mathlib.Decide.{dec_lt}
use Rattle.shape_terms.specs.Points.{Point}
use Rattle.shape_terms.specs.Covers.{Stretch, arc, gap_run}
use Rattle.shape_terms.specs.GapCover.{stretch_at}
use Rattle.shape_terms.proofs.Stretches.{Gapped, Walk}
use Rattle.shape_terms.proofs.ArcRuns.{length-arc}
use Rattle.shape_terms.specs.RunCovers.{IsRunCover, AreRunsWithGaps}
use Rattle.shape_terms.specs.RunWalks.{WalkKind, IsFollowedBy, IsWalk, stretch_of_walk}
use Rattle.shape_terms.proofs.RunArcs.{IsWalkKind, Straight, run_arcs, maximal_to}
use Rattle.shape_terms.proofs.RunCoverOf.{gap_is, covers}
use Rattle.shape_terms.proofs.CoverWalks.{walk_covers}
use Rattle.shape_terms.proofs.WalkSteps.{length-stretches, walk_found, walk_now}

-- one of some elements
one_of : {A : Type 0} (xs : List A) → 1 ≤ length xs → A
one_of [] l = absurd (omega arith)
one_of (x ∷ xs) l = x

module _ {F : Type 0} (k : WalkKind F) (laws : IsWalkKind k) (path : List Point) (found : List F) (now : Stretch) (round : ℕ)
    (w : IsWalk k path found now round) (over : round ≤ now.first) (some_place : 1 ≤ length path) where
  abbrev stretches : List Stretch
  stretches = map k.stretch found

  abbrev begin : ℕ → ℕ
  begin i = (stretch_of_walk k found now i).first

  abbrev finish : ℕ → ℕ
  finish i = (stretch_of_walk k found now i).last

  abbrev On : ℕ → ℕ → Type 0
  On = Straight k.Straight laws.straightness path

  count : length stretches ≡ length found
  count = length-stretches k found

  pub some_found : 1 ≤ length found
  some_found = elim (dec_lt 0 (length found)) [
    | yes l ↦ l
    | no l ↦ absurd (let q = ap (λ (s : Stretch). s.first) (walk_now k found now 0 (omega arith)) in let c = w.comes in omega arith)
  ]

  abbrev thing : ℕ → F
  thing i = get_or found i (one_of found some_found)

  is_found : (i : ℕ) → i < length found → stretch_of_walk k found now i ≡ k.stretch (thing i)
  is_found i l = walk_found k found now i (one_of found some_found) l

  follows : (i : ℕ) → i < length found → IsFollowedBy k path (thing i) (stretch_of_walk k found now (suc i))
  follows i l = subst (λ j. IsFollowedBy k path (thing i) (stretch_of_walk k found now j)) (let q : i + 1 ≡ suc i = omega arith in q)
      (w.followed i (one_of found some_found) l)

  straight : (i : ℕ) → i ≤ length found → On (begin i) (finish i)
  straight i l = (w.longest i l).straight

  wide : (i : ℕ) → i < length found → begin (suc i) ≤ finish i + 1
  wide i l = let n = (follows i l).near in let e = ap (λ (s : Stretch). s.last) (is_found i l) in omega arith

  bent : (i : ℕ) → i < length found → On (begin (suc i) - 1) (finish i + 1) → ⊥
  bent i l s = laws.bent (thing i) (arc path (begin (suc i) - 1) ((k.stretch (thing i)).last + 1)) (follows i l).gap
      (subst (λ (t : Stretch). On (begin (suc i) - 1) (t.last + 1)) (is_found i l) s)

  rising_b : (i : ℕ) → i < length found → begin i < begin (suc i)
  rising_b i l = let f = (follows i l).first in let q = ap (λ (s : Stretch). s.first) (is_found i l) in omega arith

  rising_e : (i : ℕ) → i < length found → finish i < finish (suc i)
  rising_e i l = let f = (follows i l).last in let q = ap (λ (s : Stretch). s.last) (is_found i l) in omega arith

  walk : Walk (length path) On (length found) begin finish
  walk = record {
    some = some_found;
    low = w.start.low;
    first = λ s. w.start.before
        (subst (λ b. On b (finish 0 + length path)) (let q : pred (begin 0 + length path) ≡ begin 0 + length path - 1 = omega arith in q) s);
    least = λ b e l m. w.start.least b e l (maximal_to k.Straight laws.straightness path b e m);
    before = λ i l. (let q = ap (λ (s : Stretch). s.first) (is_found i l) in let b = w.before i (one_of found some_found) l in let c = w.comes in omega arith);
    reached = (let q = ap (λ (s : Stretch). s.first) (walk_now k found now (length found) (omega arith)) in let c = w.comes in omega arith);
    in_range = λ i l. (run_arcs k.Straight laws.straightness path).ordered (begin i) (finish i) (straight i l);
    rising_b = rising_b;
    rising_e = rising_e;
    straight = straight;
    longest = λ i l s. (w.longest i l).longest (subst (On (begin i)) (let q : suc (finish i) ≡ finish i + 1 = omega arith in q) s);
    wide = λ i l. (let n = wide i l in omega arith);
    bent = λ i l s.
        let b : pred (begin (suc i)) ≡ begin (suc i) - 1 = omega arith in
        let e : suc (finish i) ≡ finish i + 1 = omega arith in
        bent i l (subst k.Straight (λ j. arc path (b j) (e j)) s);
  }

  gaps : Gapped (length path) On (length found) begin finish
  gaps = walk_covers (run_arcs k.Straight laws.straightness path) walk

  -- ---- the stretches as a list

  comes : now.first ≡ begin 0 + length path
  comes = sym (ap (λ (s : Stretch). s.first) (walk_now k found now (length found) (omega arith))) ∙ gaps.wrapped_b

  run_is : (i : ℕ) → i < length found → arc path (begin (suc i) - 1) (finish i + 1) ≡ gap_run path stretches i
  run_is i l = gap_is path stretches now (omega (arith, count, some_found)) comes i (omega (arith, count))

  -- what was found claims the run of its gap to be bent
  pub gap_bent : (i : ℕ) (d : F) → i < length found → k.Bends (get_or found i d) (gap_run path stretches i)
  gap_bent i d l =
      let e : (k.stretch (thing i)).last ≡ finish i = sym (ap (λ (s : Stretch). s.last) (is_found i l)) in
      let t : thing i ≡ get_or found i d = get_or_default found i (one_of found some_found) d l in
      subst (λ g. k.Bends g (gap_run path stretches i)) t
      (subst (k.Bends (thing i)) ((λ j. arc path (begin (suc i) - 1) (e j + 1)) ∙ run_is i l) (follows i l).gap)

  at_is : (i : ℕ) → i < length stretches → stretch_at stretches i ≡ stretch_of_walk k found now i
  at_is i l = get_or_default stretches i (record { first = 0; last = 0 }) now l

  next_at : (i : ℕ) → i + 1 < length stretches → stretch_at stretches (i + 1) ≡ stretch_of_walk k found now (suc i)
  next_at i l = at_is (i + 1) l ∙ ap (stretch_of_walk k found now) (let q : i + 1 ≡ suc i = omega arith in q)

  -- the stretches rise and are straight, and no gap is empty or straight
  pub runs_with_gaps : AreRunsWithGaps k.Straight path stretches
  runs_with_gaps = record {
    some = omega (arith, count, some_found);
    begins = λ i h. rw (at_is i h) (gaps.top i (omega (arith, count)));
    first_rises = λ i h. rw (at_is i (omega arith), next_at i h) (rising_b i (omega (arith, count)));
    last_rises = λ i h. rw (at_is i (omega arith), next_at i h) (rising_e i (omega (arith, count)));
    closes = ends;
    straight = λ i h. subst (λ (s : Stretch). k.Straight (arc path s.first s.last)) (sym (at_is i h)) (straight i (omega (arith, count)));
    gap_some = λ i h.
        let l : i < length found = omega (arith, count) in
        let e = ap length (run_is i l) in
        let n = length-arc path (begin (suc i) - 1) (finish i + 1) in
        let near = wide i l in
        omega arith;
    gap_bent = λ i h s. (let l : i < length found = omega (arith, count) in bent i l (subst k.Straight (sym (run_is i l)) s));
  }
    where
      ends : (stretch_at stretches (length stretches - 1)).last < (stretch_at stretches 0).last + length path
      ends =
          let s = some_found in
          let n = count in
          let i = length stretches - 1 in
          let r = rising_e i (omega arith) in
          let q : suc i ≡ length found = omega arith in
          let e = ap finish q ∙ gaps.wrapped_e in
          let a = ap (λ (s : Stretch). s.last) (at_is i (omega arith)) in
          let b = ap (λ (s : Stretch). s.last) (at_is 0 (omega arith)) in
          omega arith

  -- so the walk has found exactly the maximal straight runs
  pub walk_finds_all : IsRunCover k.Straight path stretches
  walk_finds_all = covers k.Straight laws.straightness path stretches runs_with_gaps
