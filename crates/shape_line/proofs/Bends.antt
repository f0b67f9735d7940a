-- What a segment that grew backward shows of the arc in which it grew: the evidence, counted from the first place of the arc.
-- Which arc that is stands in `Searching`.
use Rattle.std.proofs.Common.{◌≡◌, ℕ, ◌+◌, ◌-◌, ◌*◌, ◌<◌, ◌≤◌, List, subst, arith}
use Rattle.shape_terms.specs.Limits.{most_round}
use Rattle.shape_terms.specs.Points.{Point}
use Rattle.shape_terms.specs.Covers.{arc}
use Rattle.shape_terms.specs.BackArcs.{back_arc}
use Rattle.shape_terms.proofs.ArcRuns.{length-arc}
use Rattle.shape_terms.proofs.BackArcs.{length-back}
use Rattle.shape_line.specs.declared.clash.Clash.{Clash}
use Rattle.shape_line.specs.declared.clash.Clash.TheVariants.{Turned, Crossed}
use Rattle.shape_line.specs.Clashes.{IsClash}
use Rattle.shape_line.specs.Evidence.{IsBackward, Reaches, IsShown, evidence_behind}
use Rattle.shape_line.specs.Arcs.{IsRefused}
use Rattle.shape_line.proofs.Moving.{turn_back, turn_shown, crossing_shown}
use Rattle.shape_line.proofs.Backs.{back_in}
use Rattle.shape_line.proofs.Searching.{shown_refused}
use Rattle.shape_line.proofs.ContourGrowing.{clash_reaches}

behind_shown : (t : ℕ) (run whole : List Point) (clash : Clash) (last : ℕ) → IsClash t run clash → IsBackward whole run last
    → IsShown t whole (evidence_behind clash last)
behind_shown t run whole (Turned turn) last h b =
    turn_shown t whole (last - 1 - turn.i) (last - 1 - turn.j) (turn_back whole run last b t turn.i turn.j h.turn)
behind_shown t run whole (Crossed x) last h b =
    let fits = b.fits in
    crossing_shown t run whole (λ i. last - i) (omega arith) (λ i l. omega arith) b.same x h

module _ (points : List Point) (first place end t : ℕ) (clash : Clash) (near : place ≤ end) (some : 1 ≤ first) (least : first ≤ place)
    (h : IsClash t (back_arc points (place - 1) end) clash) where
  -- the places that the reason names stand in the arc
  pub reaches_back : Reaches clash (end + 1 - first)
  reaches_back =
      clash_reaches t (back_arc points (place - 1) end) clash (end + 1 - first) (let n = length-back points (place - 1) end in omega arith) h

  -- so the arc from the place before the first is refused
  pub refused_back : (low : end < 3 * most_round) → IsRefused t (arc points (first - 1) end) (evidence_behind clash (end + 1 - first))
  refused_back low =
      let q : end - (first - 1) ≡ end + 1 - first = omega arith in
      let k = subst (λ (n : ℕ). IsBackward (arc points (first - 1) end) (back_arc points (place - 1) end) n) q
      (back_in points (first - 1) (place - 1) end (omega arith) (omega arith)) in
      shown_refused t (arc points (first - 1) end) (evidence_behind clash (end + 1 - first))
      (let n = length-arc points (first - 1) end in omega arith)
      (behind_shown t (back_arc points (place - 1) end) (arc points (first - 1) end) clash (end + 1 - first) h k)
