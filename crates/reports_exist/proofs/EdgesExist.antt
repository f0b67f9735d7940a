-- Each closed path of corners has a cover: a walk round it, from each arc to the next, with a line for each and evidence for each gap.
-- Each run is decided as in `EdgesDecided`; that the walk finds all stands in the terms.
use Rattle.std.proofs.Common.{◌≡◌, inl, inr, ℕ, zero, suc, ◌+◌, ◌-◌, ◌<◌, ◌≤◌, ◌%◌, refl, ap, sym, ◌∙◌, subst, arith, List, [], ◌∷◌, ◌++◌, length, map}
use Rattle.std.proofs.Math.Nat.{mod-add-mod}
use native.Mathlib.Decide.{dec_lt}
use Rattle.shape_terms.specs.Points.{Point}
use Rattle.shape_terms.specs.Refutations.{point_at}
use Rattle.shape_terms.specs.Covers.{Stretch, arc}
use Rattle.shape_terms.specs.RunWalks.{IsStart, IsLongest, IsFollowedBy, IsWalk}
use Rattle.shape_terms.proofs.ArcRuns.{length-arc, arc-get}
use Rattle.shape_terms.proofs.WalkStarts.{starts_here, starts_next}
use Rattle.shape_terms.proofs.WalkSteps.{walk_begins, walk_goes_on}
use Rattle.edge_terms.specs.Corners.{IsCorner, IsUnitStep, IsCornerPath}
use Rattle.edge_terms.specs.EdgeStraight.{Standard, IsEdgeStraight}
use Rattle.edge_terms.specs.EdgeEvidence.{EdgeEvidence, IsEdgeEvidence}
use Rattle.edge_terms.specs.EdgeCovers.{Arc, IsHeld, IsGap, IsEdgeCover}
use Rattle.edge_terms.specs.EdgeWalks.{edge_walk}
use Rattle.edge_terms.proofs.EdgeExcludes.{evidence_excludes}
use Rattle.edge_terms.proofs.EdgeWalks.{edge_walks, walk_is_cover}
use Rattle.edge_terms.proofs.ShortEdges.{short_edge}
use Rattle.reports_exist.proofs.EdgesDecided.{IsCornerRun, IsEdgeDecided, edge_decided}

-- a run of one corner has no evidence against it
one_unrefuted : (run : List Point) (e : EdgeEvidence) → length run ≡ 1 → IsEdgeEvidence run e → ⊥
one_unrefuted run (EdgeEvidence.Bend i j) n h = let l = h.first in absurd (omega arith)
one_unrefuted run (EdgeEvidence.Fold why) n h = let l = h.across.1 in absurd (omega arith)

module _ (path : List Point) (is : IsCornerPath path) where
  corner_run : (b e : ℕ) → b ≤ e → e ≤ b + length path → IsCornerRun (arc path b e)
  corner_run b e l h =
      let some = is.some in
      let few = is.few in
      let c = length-arc path b e in
      record {
        some = omega arith;
        few = omega arith;
        corners = λ i m. subst IsCorner (sym (arc-get path b e i (omega arith))) (is.inside ((b + i) % length path) (omega arith));
        units = λ i m.
            let here = arc-get path b e i (omega arith) in
            let round : ((b + i) % length path + 1) % length path ≡ (b + (i + 1)) % length path = mod-add-mod (b + i) (length path) 1 ∙ ap
            (λ k. k % length path) (let q : b + i + 1 ≡ b + (i + 1) = omega arith in q) in
            let next = arc-get path b e (i + 1) (omega arith) ∙ ap (point_at path) (sym round) in
            subst (λ (q : Point). IsUnitStep q (point_at (arc path b e) (i + 1))) (sym here)
            (subst (IsUnitStep (point_at path ((b + i) % length path))) (sym next) (is.steps ((b + i) % length path) (omega arith)));
      }

  arc_decided : (b e : ℕ) → b ≤ e → e ≤ b + length path → IsEdgeDecided (arc path b e)
  arc_decided b e l h = edge_decided (arc path b e) (corner_run b e l h)

  straight_of : (b e : ℕ) (line : Standard) → b ≤ e → IsHeld (arc path b e) line → IsEdgeStraight (arc path b e)
  straight_of b e line l h = record { some = omega (arith, length-arc path b e); line = (line, h.holds) }

  -- ---- as far as a run is straight

  pub record IsReach (s : Stretch) (line : Standard) : Type 0 where
    pub rises : s.first ≤ s.last
    pub held : IsHeld (arc path s.first s.last) line
    pub longest : IsEdgeStraight (arc path s.first (s.last + 1)) → ⊥

  abbrev stretch : ℕ → ℕ → Stretch
  stretch b e = record { first = b; last = e }

  -- from the place b on, at least to the place e
  abbrev Reached : ℕ → ℕ → Type 0
  Reached b e = (last : ℕ) × (line : Standard) × (e ≤ last) × IsReach (stretch b last) line

  reach_on : (room b e : ℕ) (line : Standard) → b ≤ e → b + length path ≤ e + room → IsHeld (arc path b e) line → Reached b e
  reach_on zero b e line l fits h = absurd (let s = short_edge path is.some b e (straight_of b e line l h) in omega arith)
  reach_on (suc room) b e line l fits h =
      let s = short_edge path is.some b e (straight_of b e line l h) in
      elim (arc_decided b (e + 1) (omega arith) (omega arith)) [
        | inr (gap, bad) ↦ (e, line, omega arith, record { rises = l; held = h; longest = evidence_excludes (arc path b (e + 1)) gap bad.shows })
        | inl (more, k) ↦ (let (last, found, far, r) = reach_on room b (e + 1) more (omega arith) (omega arith) k in (last, found, omega arith, r))
      ]

  reach_from : (b : ℕ) → Reached b b
  reach_from b = elim (arc_decided b b (omega arith) (omega arith)) [
    | inr (gap, bad) ↦ absurd (one_unrefuted (arc path b b) gap (omega (arith, length-arc path b b)) bad.shows)
    | inl (line, h) ↦ reach_on (length path) b b line (omega arith) (omega arith) h
  ]

  reach_longest : (s : Stretch) (line : Standard) → IsReach s line → IsLongest IsEdgeStraight path s
  reach_longest s line r = record { straight = straight_of s.first s.last line r.rises r.held; longest = r.longest }

  reach_short : (s : Stretch) (line : Standard) → IsReach s line → s.last < s.first + length path
  reach_short s line r = short_edge path is.some s.first s.last (straight_of s.first s.last line r.rises r.held)

  -- ---- where the next run begins

  -- the least place, past the first, from which the run to the place e is straight, and the evidence for the place before it
  record IsNext (first e : ℕ) : Type 0 where
    begins : ℕ
    later : first < begins
    near : begins ≤ e
    gap : EdgeEvidence
    bent : IsGap (arc path (begins - 1) e) gap
    line : Standard
    held : IsHeld (arc path begins e) line

  next_from : (room first c e : ℕ) (gap : EdgeEvidence) → first < c → c ≤ e → e ≤ first + length path → e ≤ c + room → IsGap (arc path (c - 1) e) gap
      → IsNext first e
  next_from zero first c e gap l m far fits h = elim (arc_decided c e m (omega arith)) [
    | inl (line, k) ↦ record { begins = c; later = l; near = m; gap = gap; bent = h; line = line; held = k }
    | inr (more, bad) ↦ absurd (one_unrefuted (arc path c e) more (omega (arith, length-arc path c e)) bad.shows)
  ]
  next_from (suc room) first c e gap l m far fits h = elim (arc_decided c e m (omega arith)) [
    | inl (line, k) ↦ record { begins = c; later = l; near = m; gap = gap; bent = h; line = line; held = k }
    | inr (more, bad) ↦ elim (dec_lt c e) [
      | no o ↦ absurd (one_unrefuted (arc path c e) more (omega (arith, length-arc path c e)) bad.shows)
      | yes y ↦ next_from room first (c + 1) e more (omega arith) (omega arith) far (omega arith)
          (subst (λ k. IsGap (arc path k e) more) (let q : c ≡ c + 1 - 1 = omega arith in q) bad)
    ]
  ]

  -- what a walk finds of a stretch, and the stretch that follows it
  record IsPassed (s : Stretch) (line : Standard) : Type 0 where
    gap : EdgeEvidence
    next : Stretch
    follower : Standard
    followed : IsFollowedBy edge_walk path (record { stretch = s; line = line; gap = gap }) next
    reach : IsReach next follower

  passed : (s : Stretch) (line : Standard) → IsReach s line → IsPassed s line
  passed s line r =
      let short = reach_short s line r in
      let rises = r.rises in
      elim (arc_decided s.first (s.last + 1) (omega arith) (omega arith)) [
        | inl (more, h) ↦ absurd (r.longest (straight_of s.first (s.last + 1) more (omega arith) h))
        | inr (gap, bad) ↦ on (next_from (s.last + 1) s.first (s.first + 1) (s.last + 1) gap (omega arith) (omega arith) (omega arith) (omega arith)
            (subst (λ k. IsGap (arc path k (s.last + 1)) gap) (let q : s.first ≡ s.first + 1 - 1 = omega arith in q) bad))
      ]
    where
      on : IsNext s.first (s.last + 1) → IsPassed s line
      on x =
          let (last, follower, far, reach) = reach_on (x.begins + length path) x.begins (s.last + 1) x.line x.near (omega arith) x.held in
          let later = x.later in
          let near = x.near in
          record {
            gap = x.gap;
            next = stretch x.begins last;
            follower = follower;
            followed = record { first = later; last = omega arith; near = near; gap = x.bent };
            reach = reach;
          }

  -- ---- round the path

  abbrev told : Arc → Arc
  told a = a

  go_round : (room : ℕ) (found : List Arc) (now : Stretch) (line : Standard) (round : ℕ) → round ≤ now.first + room → IsReach now line
      → IsWalk edge_walk path (map told found) now round → (arcs : List Arc) × IsEdgeCover path arcs
  go_round zero found now line round fits r w = (map told found, walk_is_cover path (map told found) now round w (omega arith) is.some)
  go_round (suc room) found now line round fits r w = elim (dec_lt now.first round) [
    | no o ↦ (map told found, walk_is_cover path (map told found) now round w (omega arith) is.some)
    | yes low ↦
        (let p = passed now line r in
        let later = p.followed.first in
        let f : Arc = record { stretch = now; line = line; gap = p.gap } in
        go_round room (found ++ f ∷ []) p.next p.follower round (omega arith) p.reach
        (walk_goes_on edge_walk told path found f now p.next round w refl low (reach_short now line r) r.held p.followed
        (reach_longest p.next p.follower p.reach)))
  ]

  begin : (s : Stretch) (line : Standard) → IsReach s line → IsStart IsEdgeStraight path s → (arcs : List Arc) × IsEdgeCover path arcs
  begin s line r start = go_round (length path) [] s line (s.first + length path) (omega arith) r (walk_begins edge_walk path s start (reach_longest s line r))

  -- the path has a cover
  pub edges_exist : (arcs : List Arc) × IsEdgeCover path arcs
  edges_exist =
      let (g_last, g_line, g_far, g) = reach_from 0 in
      let (o_last, o_line, o_far, o) = reach_from (length path - 1) in
      let gs = stretch 0 g_last in
      let os = stretch (length path - 1) o_last in
      let gl = reach_longest gs g_line g in
      let ol = reach_longest os o_line o in
      elim (dec_lt o_last (g_last + length path)) [
        | yes l ↦ begin gs g_line g (starts_here edge_walk edge_walks path is.some gs os gl ol refl refl l)
        | no m ↦
            (let p = passed gs g_line g in
            let f : Arc = record { stretch = gs; line = g_line; gap = p.gap } in
            begin p.next p.follower p.reach (starts_next edge_walk edge_walks path is.some gs os gl ol refl refl (omega arith) f refl p.next p.followed))
      ]
