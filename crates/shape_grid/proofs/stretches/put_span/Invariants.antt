use Rattle.std.proofs.Common.{◌*◌}
use Rattle.shape_grid.specs.Spans.{IsSpanPut}
use Rattle.shape_grid.proofs.stretches.put_span.Given as goal

abbrev pub invariant-loop-w : goal.invariant-loop-w
invariant-loop-w l = IsSpanPut l.initial.words.items l.words.items l.from l.until (64 * l.w) l.kind
