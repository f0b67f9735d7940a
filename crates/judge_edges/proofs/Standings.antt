-- What the judge keeps of the cycle that was begun last: its path, and what makes the next arc.
-- Laws over what the judge is seen as and the lists that it keeps.
use Rattle.std.proofs.Common.{◌≡◌, ℕ, ◌-◌, ◌<◌, List, length, ap, sym, ◌∙◌, subst, arith}
use Rattle.std.specs.Prelude.{slice_get, Some}
use Rattle.std.proofs.lemmas.Option.{get_or_from_slice_get}
use Rattle.shape_terms.specs.Points.{Point}
use Rattle.shape_terms.specs.Covers.{Stretch, arc}
use Rattle.edge_terms.specs.EdgeStraight.{Standard, IsStandardFor}
use Rattle.edge_terms.specs.EdgeCycles.{EdgeCycle, no_cycle}
use Rattle.edge_terms.specs.CycleLines.{Standing, open_path, IsNextArc}
use Rattle.shape_refute.specs.Places.{AreNextPlaces}
use Rattle.judge_edges.specs.EdgeState.{EdgeState}

-- the path of the cycle that was begun last, of the judge as it is seen and of its parts
pub same_open : (cs : List EdgeCycle) (s : Standing) (now : EdgeState) → record { cycles = cs; standing = s } ≡ now
    → open_path cs s ≡ open_path now.cycles now.standing
same_open cs s now view = ap (λ (t : EdgeState). open_path t.cycles t.standing) view

-- places that come next and a line that holds their arc make the next arc
pub next_arc : (cycles : List EdgeCycle) (s : Standing) (path : List Point) (n m b e : ℕ) (line : Standard) (before : List Stretch) → path ≡ open_path cycles s
    → n ≡ length path → m ≡ s.declared → before ≡ s.stretches → length before < m → s.gaps ≡ 0
    → AreNextPlaces n m before b e → IsStandardFor (arc path b e) line → IsNextArc cycles s b e line
next_arc cycles s path n m b e line before same all declared listed more early places held =
    let p = subst (λ k. AreNextPlaces k s.declared s.stretches b e) (all ∙ ap length same)
    (subst (λ k. AreNextPlaces n k s.stretches b e) declared (subst (λ ss. AreNextPlaces n m ss b e) listed places)) in
    record {
      more = omega (arith, more, declared, ap length listed);
      early = early;
      arc = record {
        begins = p.begins;
        rises = p.rises;
        short = p.short;
        after = p.after;
        closes = p.closes;
        held =
            subst (λ (l : List Point). IsStandardFor (arc l b e) line) same held;
      };
    }

-- the path of the cycle at that place
pub open_is : (cs : List EdgeCycle) (s : Standing) (now : EdgeState) (k : EdgeCycle) (path : List Point) → record { cycles = cs; standing = s } ≡ now
    → slice_get cs (s.begun - 1) ≡ Some k → path ≡ k.path → path ≡ open_path now.cycles now.standing
open_is cs s now k path view there is = is
    ∙ (ap (λ (c : EdgeCycle). c.path) (sym (get_or_from_slice_get cs (s.begun - 1) k no_cycle there)) ∙ same_open cs s now view)
