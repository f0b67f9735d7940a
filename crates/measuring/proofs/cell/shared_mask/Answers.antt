use Rattle.std.proofs.Common.{◌≤◌, ℕ, arith, sym, subst}
use Rattle.shape_terms.specs.Points.{Point}
use Rattle.shape_terms.specs.Adjacency.{near_step}
use Rattle.shape_adj.proofs.MaskBits.{marks_yes, marks_no, few_neighbours}
use Rattle.measure_terms.specs.Cells.{IsCellOf}
use Rattle.measuring.proofs.cell.shared_mask.Goals as goal
use Rattle.measuring.proofs.cell.shared_mask.Goals.{then-shares, else-shares}

pub loop-j-preserved : goal.loop-j-preserved
loop-j-preserved g c =
    let d = g.P.Point.DIM in
    let few : g.P.Pairing.NEAR_COUNT ≤ 26 = few_neighbours d g.P.Pairing.NEAR_COUNT g.met.P.Point.two_or_three g.met.P.Pairing.near_total in
    let Q : ℕ → Type 0 = λ j. IsCellOf (near_step d j) (near_step d c.args.k) in
    let w = c.near_step.ensures.value in
    let v = c.near_step-in-loop-j.ensures.value in
    elim c.if-shares.branch [
      | then-shares b ↦ rw b.mask-is (marks_yes Q c.loop-j.j c.loop-j.mask c.loop-j.invariant (omega (arith, c.NEAR_COUNT-j-end.ensures))
          (subst (λ (q : Point). IsCellOf q (near_step d c.args.k)) w
          (subst (IsCellOf (g.P.Point.coords c.near_step.result)) v (c.shares.ensures.0 b.if-shares.true))))
      | else-shares b ↦ rw b.mask-is (marks_no Q c.loop-j.j c.loop-j.mask c.loop-j.invariant (λ h.
          let t = c.shares.ensures.1
          (subst (λ (q : Point). IsCellOf q (g.P.Point.coords c.near_step-in-loop-j.result)) (sym w) (subst (IsCellOf (near_step d c.loop-j.j)) (sym v) h))
          in
          let f = b.if-shares.false in cc))
    ]
