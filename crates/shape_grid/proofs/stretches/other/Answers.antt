use Rattle.std.proofs.Common.{Bool, sym, subst, arith, slice_index, w64}
use Rattle.std.specs.Int.{bit_not}
use Rattle.shape_grid.specs.Spans.{AreOther}
use Rattle.shape_grid.proofs.SpanSteps.{other_absent, other_present}
use Rattle.shape_grid.proofs.stretches.other.Goals as goal

pub returns-then-kind : goal.returns-then-kind
returns-then-kind c =
    let t = c.type_inv.words c.args.w in
    subst (λ (k : Bool). AreOther c.args.words.now c.args.w k (bit_not w64 (slice_index c.args.words.now c.args.w))) (sym c.if-kind.true)
    (other_absent c.args.words.now c.args.w (omega arith))

pub returns-else-kind : goal.returns-else-kind
returns-else-kind c =
    subst (λ (k : Bool). AreOther c.args.words.now c.args.w k (slice_index c.args.words.now c.args.w)) (sym c.if-kind.false)
    (other_present c.args.words.now c.args.w)
