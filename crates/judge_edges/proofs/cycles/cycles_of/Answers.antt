use Rattle.std.proofs.Common.{arith, ◌≡◌, ◌∙◌, ap, subst, length, length-append, ◌∷◌, []}
use Rattle.shape_terms.specs.Contours.{IsCrack}
use Rattle.edge_terms.proofs.EdgeCycles.{AreFrom, from_more, start_crack, are_cycles, start_is, is_from}
use Rattle.judge_edges.proofs.cycles.cycles_of.Goals as goal

pub cycle_from-requires : goal.cycle_from-requires
cycle_from-requires c =
    let n = c.len-k-end.ensures in
    let t = c.loop-k-test.true in
    subst (IsCrack c.args.grid.now) (start_is c.args.contours.now c.loop-k.k _ _ c.contour.ensures c.start.ensures)
    (start_crack c.args.grid.now c.args.contours.now c.requires c.loop-k.k (omega arith))

pub loop-k-preserved : goal.loop-k-preserved
loop-k-preserved c =
    let v = c.loop-k.invariant in
    let put = c.in_ok-push.ensures in
    record {
      count = ap length put.items ∙ (let a = length-append c.loop-k.list.items (c.in_ok-cycle.cycle ∷ []) in let b = v.count in omega arith);
      each = from_more c.args.grid.now c.args.contours.now c.loop-k.list.items c.push.new.self.items c.loop-k.k c.in_ok-cycle.cycle v.count put.items v.each
          (is_from c.args.grid.now c.args.contours.now c.loop-k.k _ _ c.in_ok-cycle.cycle c.contour.ensures c.start.ensures c.in_ok-cycle.ensures.start
          c.in_ok-cycle.ensures.path);
    }

pub returns-clause-cycles : goal.returns-clause-cycles
returns-clause-cycles c =
    let v = c.loop-k.invariant in
    let n = c.len-k-end.ensures in
    let e = c.loop-k-test.false in
    let a = c.loop-k.auto.k-end in
    let q : c.loop-k.k ≡ length c.args.contours.now = omega arith in
    are_cycles c.args.grid.now c.args.contours.now c.requires c.loop-k.list.items (v.count ∙ q)
    (subst (AreFrom c.args.grid.now c.args.contours.now c.loop-k.list.items) q v.each)
