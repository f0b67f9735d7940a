use Rattle.std.proofs.Common.{◌<◌, arith, sym, ◌∙◌, ap, length}
use Rattle.shape_terms.specs.Adjacency.{side_steps}
use Rattle.measuring.proofs.PointFacts.{one_side_more, no_side_more}
use Rattle.measuring.proofs.fact.exposed.Goals as goal
use Rattle.measuring.proofs.fact.exposed.Goals.{then-not-has, else-not-has}

pub loop-k-preserved : goal.loop-k-preserved
loop-k-preserved g c =
    let X = c.args.object.now in
    let p = g.P.Point.coords c.args.p in
    let q = g.P.Point.coords c.side.result in
    let total = g.met.P.Pairing.side_total in
    let axes = ap (λ n. length (side_steps n)) (g.met.P.Point.axes c.args.p) in
    let l : c.loop-k.k < length (side_steps (length p)) = omega (arith, total, axes) in
    let few = c.loop-k.invariant.few in
    elim c.if-not-has.branch [
      | then-not-has w ↦ record {
        counted = w.count-is ∙ one_side_more X p q c.loop-k.k c.loop-k.count l c.side.ensures (sym c.has.ensures ∙ w.if-not-has.true)
            c.loop-k.invariant.counted;
        few = omega (arith, few, w.count-is);
      }
      | else-not-has w ↦ record {
        counted = w.count-is ∙ no_side_more X p q c.loop-k.k c.loop-k.count l c.side.ensures (sym c.has.ensures ∙ w.if-not-has.false)
            c.loop-k.invariant.counted;
        few = omega (arith, few, w.count-is);
      }
    ]
