use Rattle.std.proofs.Common.{◌≡◌, ◌≤◌, ℕ, arith, ap, ◌∙◌}
use Rattle.shape_terms.specs.Adjacency.{near_step}
use Rattle.shape_adj.proofs.MaskBits.{marks_yes, marks_no, few_neighbours}
use Rattle.measure_terms.specs.Crossings.{step_class}
use Rattle.measuring.proofs.direction.directions_along.Goals as goal
use Rattle.measuring.proofs.direction.directions_along.Goals.{then-class_of-class, else-class_of-class}

pub loop-k-preserved : goal.loop-k-preserved
loop-k-preserved g c =
    let d = g.P.Point.DIM in
    let few : g.P.Pairing.NEAR_COUNT ≤ 26 = few_neighbours d g.P.Pairing.NEAR_COUNT g.met.P.Point.two_or_three g.met.P.Pairing.near_total in
    let Q : ℕ → Type 0 = λ k. step_class (near_step d k) ≡ c.args.class in
    let here = c.class_of.ensures ∙ ap step_class c.near_step.ensures.value in
    elim c.if-class_of-class.branch [
      | then-class_of-class b ↦ rw b.mask-is
          (marks_yes Q c.loop-k.k c.loop-k.mask c.loop-k.invariant (omega (arith, few, c.NEAR_COUNT-k-end.ensures, c.loop-k-test.true))
          (let t = b.if-class_of-class.true in omega (arith, t, here)))
      | else-class_of-class b ↦ rw b.mask-is (marks_no Q c.loop-k.k c.loop-k.mask c.loop-k.invariant (λ q.
          let f = b.if-class_of-class.false in omega (arith, f, here, q)))
    ]
