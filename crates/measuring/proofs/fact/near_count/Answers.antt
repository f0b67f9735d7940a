use Rattle.std.proofs.Common.{◌<◌, arith, sym, ◌∙◌, ap, length}
use Rattle.shape_terms.specs.Adjacency.{near_steps}
use Rattle.measuring.proofs.PointFacts.{one_neighbour_more, no_neighbour_more}
use Rattle.measuring.proofs.fact.near_count.Goals as goal
use Rattle.measuring.proofs.fact.near_count.Goals.{then-has, else-has}

pub loop-k-preserved : goal.loop-k-preserved
loop-k-preserved g c =
    let X = c.args.left.now in
    let p = g.P.Point.coords c.args.p in
    let q = g.P.Point.coords c.near.result in
    let total = g.met.P.Pairing.near_total in
    let axes = ap (λ n. length (near_steps n)) (g.met.P.Point.axes c.args.p) in
    let l : c.loop-k.k < length (near_steps (length p)) = omega (arith, total, axes) in
    let few = c.loop-k.invariant.few in
    elim c.if-has.branch [
      | then-has w ↦ record {
        counted = w.count-is ∙ one_neighbour_more X p q c.loop-k.k c.loop-k.count l c.near.ensures (sym c.has.ensures ∙ w.if-has.true)
            c.loop-k.invariant.counted;
        few = omega (arith, few, w.count-is);
      }
      | else-has w ↦ record {
        counted = w.count-is ∙ no_neighbour_more X p q c.loop-k.k c.loop-k.count l c.near.ensures (sym c.has.ensures ∙ w.if-has.false)
            c.loop-k.invariant.counted;
        few = omega (arith, few, w.count-is);
      }
    ]
