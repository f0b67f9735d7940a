-- The stretch that a walk begins with: the longest from the first place, or the next one where that can begin earlier.
-- How far the longest from the place before goes tells which; the argument over places alone stands in `FirstStarts`.
use Rattle.std.proofs.Common.{◌≡◌, ℕ, suc, pred, ◌+◌, ◌-◌, ◌<◌, ◌≤◌, List, length, arith, ap, sym, subst}
use Rattle.shape_terms.specs.Points.{Point}
use Rattle.shape_terms.specs.Covers.{Stretch, arc}
use Rattle.shape_terms.specs.RunWalks.{WalkKind, IsStart, IsLongest, IsFollowedBy}
use Rattle.shape_terms.proofs.RunArcs.{IsWalkKind, Straight, run_arcs, maximal_from}
use Rattle.shape_terms.proofs.FirstStarts.{first_start}

module _ {F : Type 0} (k : WalkKind F) (laws : IsWalkKind k) (path : List Point) (some : 1 ≤ length path) (g o : Stretch) (r : IsLongest k.Straight path g)
    (h : IsLongest k.Straight path o) (zero_first : g.first ≡ 0) (before_first : o.first ≡ length path - 1) where
  abbrev On : ℕ → ℕ → Type 0
  On = Straight k.Straight laws.straightness path

  abbrev n : ℕ
  n = length path

  -- the one from the place before ends earlier
  pub starts_here : o.last < g.last + n → IsStart k.Straight path g
  starts_here l = record {
    low = omega arith;
    before = λ s.
        let rises = (run_arcs k.Straight laws.straightness path).ordered o.first o.last h.straight in
        h.longest ((run_arcs k.Straight laws.straightness path).part (g.first + n - 1) (g.last + n) o.first (o.last + 1) s (omega arith) (omega arith)
        (omega arith));
    least = λ b e l m. absurd (omega arith);
  }

  -- it does not, so the walk begins with the next one
  pub starts_next : g.last + n ≤ o.last → (f : F) → k.stretch f ≡ g → (next : Stretch) → IsFollowedBy k path f next → IsStart k.Straight path next
  starts_next l f same next w =
      let runs = run_arcs k.Straight laws.straightness path in
      let same_first = ap (λ (s : Stretch). s.first) same in
      let same_last = ap (λ (s : Stretch). s.last) same in
      let later = w.first in
      let later_end = w.last in
      let near = w.near in
      let rises = runs.ordered g.first g.last r.straight in
      let left : On (pred n) (g.last + n) = runs.part o.first o.last (pred n) (g.last + n) h.straight (omega arith) (omega arith) l in
      let short = laws.short path some (pred n) (g.last + n) left in
      let straight : On 0 g.last = subst (λ b. On b g.last) zero_first r.straight in
      let far : On 0 (suc g.last)
      → ⊥ = λ s. r.longest (let p : suc g.last ≡ g.last + 1 = omega arith in subst (λ b. On b (g.last + 1)) (sym zero_first) (subst (On 0) p s)) in
      let gap : On (pred next.first) (suc g.last) → ⊥ = λ s. laws.bent f (arc path (next.first - 1) ((k.stretch f).last + 1)) w.gap
      (let p : pred next.first ≡ next.first - 1 = omega arith in let q : suc g.last ≡ (k.stretch f).last + 1 = omega arith in
      subst k.Straight (λ i. arc path (p i) (q i)) s) in
      record {
        low = omega arith;
        before = λ s.
            let p : next.first + n - 1 ≡ pred next.first + n = omega arith in
            gap (runs.part _ _ _ _ (runs.off (pred next.first) next.last (subst (λ b. On b (next.last + n)) p s)) (omega arith) (omega arith) (omega arith));
        least = λ b e l m. first_start runs g.last next.first some straight far left (omega arith) (omega arith) gap b e l
            (maximal_from k.Straight laws.straightness path b e m);
      }
