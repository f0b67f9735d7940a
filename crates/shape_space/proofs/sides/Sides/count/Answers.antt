use Rattle.std.proofs.Common.{◌-◌, arith, rules, FitsSigned, w32}
use Rattle.std.proofs.lemmas.Int.{to_z-of_z}
use Rattle.shape_space.proofs.Loops.{box_count_step, fewer_points}
use Rattle.shape_space.proofs.sides.Sides.count.Goals as goal

pub overflow_mul-n : goal.overflow_mul-n
overflow_mul-n g c =
    let ns = g.P.Point.coords c.args.self.now.lengths in
    let f : FitsSigned w32 c.coord.result = search rules in
    let m = g.met.P.Point.axes c.args.self.now.lengths in
    let s = box_count_step ns c.loop-k.k (c.loop-k.k - 1) c.loop-k.n c.coord.result (omega arith) (omega arith) c.loop-k.invariant c.coord.ensures in
    let b = fewer_points g.P.Point.MAX_SIDE ns (c.loop-k.k - 1) c.args.self.now.in_range in
    let few = c.args.self.now.few in
    rw (to_z-of_z w32 c.coord.result f) (omega arith)

pub loop-k-preserved : goal.loop-k-preserved
loop-k-preserved g c =
    let ns = g.P.Point.coords c.args.self.now.lengths in
    let f : FitsSigned w32 c.coord.result = search rules in
    let m = g.met.P.Point.axes c.args.self.now.lengths in
    let s = box_count_step ns c.loop-k.k (c.loop-k.k - 1) c.loop-k.n c.coord.result (omega arith) (omega arith) c.loop-k.invariant c.coord.ensures in
    rw (to_z-of_z w32 c.coord.result f) s
