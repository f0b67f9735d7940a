use Rattle.std.proofs.Common.{◌≡◌, ◌+◌, ℕ, arith, rules, subst, sym, FitsSigned, w32}
use Rattle.std.proofs.lemmas.Int.{to_z-of_z}
use Rattle.shape_terms.specs.Points.{sides_of}
use Rattle.shape_adj.specs.FacePoints.{gap_of}
use Rattle.shape_adj.proofs.Layers.{gap_first, gap_step, gap_some, gap_most}
use Rattle.shape_adj.proofs.exposed.gap_on.Goals as goal

pub loop-k-init : goal.loop-k-init
loop-k-init g c = sym (gap_first (sides_of (g.P.Point.coords c.args.sides.now.lengths)))

pub overflow_mul-gap : goal.overflow_mul-gap
overflow_mul-gap g c =
    let ns = g.P.Point.coords c.args.sides.now.lengths in
    let f : FitsSigned w32 c.side.result = search rules in
    let m = g.met.P.Point.axes c.args.sides.now.lengths in
    let s = gap_step ns c.loop-k.k c.loop-k.gap c.side.result (omega arith) c.loop-k.invariant c.side.ensures.value in
    let some = c.args.sides.now.some in
    let b = gap_most (sides_of ns) (c.loop-k.k + 1) (omega arith) in
    let few = c.args.sides.now.few in
    rw (to_z-of_z w32 c.side.result f) (omega arith)

pub loop-k-preserved : goal.loop-k-preserved
loop-k-preserved g c =
    let ns = g.P.Point.coords c.args.sides.now.lengths in
    let f : FitsSigned w32 c.side.result = search rules in
    let m = g.met.P.Point.axes c.args.sides.now.lengths in
    rw (to_z-of_z w32 c.side.result f) (gap_step ns c.loop-k.k c.loop-k.gap c.side.result (omega arith) c.loop-k.invariant c.side.ensures.value)

pub returns-clause-value : goal.returns-clause-value
returns-clause-value g c = subst (λ (k : ℕ). c.loop-k.gap ≡ gap_of (sides_of (g.P.Point.coords c.args.sides.now.lengths)) k) (omega arith) c.loop-k.invariant

pub returns-clause-some : goal.returns-clause-some
returns-clause-some g c =
    let some = c.args.sides.now.some in
    let h = gap_some (sides_of (g.P.Point.coords c.args.sides.now.lengths)) c.loop-k.k (omega arith) in
    let e = c.loop-k.invariant in
    omega arith
