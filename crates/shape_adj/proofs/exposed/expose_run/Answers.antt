use Rattle.std.proofs.Common.{◌+◌, ◌*◌}
use Rattle.shape_adj.specs.FacePoints.{IsOpenBelow}
use Rattle.shape_adj.proofs.Gaining.{gains_more, open_more}
use Rattle.shape_adj.proofs.exposed.expose_run.Goals as goal

pub loop-w-preserved : goal.loop-w-preserved
loop-w-preserved g c =
    let xs = c.args.grid.now.values in
    let first = c.args.first in
    let other = c.args.other in
    let w = c.loop-w.w in
    gains_more c.args.exposed.now c.loop-w.exposed c.expose_word.new.exposed (IsOpenBelow xs first other (64 * w))
    (IsOpenBelow xs (first + 64 * w) (other + 64 * w) 64) (IsOpenBelow xs first other (64 * (w + 1))) c.loop-w.invariant c.expose_word.ensures
    (open_more xs first other w)
