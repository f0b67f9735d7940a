use Rattle.std.proofs.Common.{◌≡◌, true, arith, sym, ◌∙◌, ap, ◌≤◌}
use Rattle.shape_terms.specs.Pictures.{at}
use Rattle.shape_terms.specs.Adjacency.{near_point}
use Rattle.shape_adj.proofs.MaskBits.{marks_yes, marks_no, marks_small}
use Rattle.shape_adj.proofs.MaskBits.{few_neighbours}
use Rattle.shape_topo.proofs.mask.mask_of.Goals as goal
use Rattle.shape_topo.proofs.mask.mask_of.Goals.{then-has, else-has}

pub loop-k-preserved : goal.loop-k-preserved
loop-k-preserved g c =
    let few : g.P.Pairing.NEAR_COUNT ≤ 26 = few_neighbours g.P.Point.DIM g.P.Pairing.NEAR_COUNT g.met.P.Point.two_or_three g.met.P.Pairing.near_total in
    let e : c.has.result ≡ at c.args.grid.now (near_point (g.P.Point.coords c.args.p) c.loop-k.k) = c.has.ensures ∙ ap (at c.args.grid.now) c.near.ensures in
    elim c.if-has.branch [
      | then-has w ↦ rw w.mask-is (marks_yes (λ j. at c.args.grid.now (near_point (g.P.Point.coords c.args.p) j) ≡ true) c.loop-k.k c.loop-k.mask
          c.loop-k.invariant (omega (arith, c.NEAR_COUNT-k-end.ensures)) (sym e ∙ w.if-has.true))
      | else-has w ↦ rw w.mask-is (marks_no (λ j. at c.args.grid.now (near_point (g.P.Point.coords c.args.p) j) ≡ true) c.loop-k.k c.loop-k.mask
          c.loop-k.invariant (λ q. let t = w.if-has.false in let u = e ∙ q in cc))
    ]

pub returns-clause-few : goal.returns-clause-few
returns-clause-few g c =
    let k : c.loop-k.k ≡ g.P.Pairing.NEAR_COUNT = omega (arith, c.NEAR_COUNT-k-end.ensures) in
    rw (← k) (marks_small (λ j. at c.args.grid.now (near_point (g.P.Point.coords c.args.p) j) ≡ true) c.loop-k.k c.loop-k.mask c.loop-k.invariant)
