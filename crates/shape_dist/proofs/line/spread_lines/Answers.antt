use Rattle.std.proofs.Common.{◌+◌, ◌*◌, arith}
use Rattle.shape_envelope.proofs.LinesDone.{line_done, line_left}
use Rattle.shape_dist.specs.Spreads.{found, nothing, IsSpreadAt}
use Rattle.shape_dist.proofs.AxisSteps.{spread_of_copy}
use Rattle.shape_dist.proofs.line.spread_lines.Goals as goal

pub loop-i-preserved : goal.loop-i-preserved
loop-i-preserved g c =
    let k = g.T.Spreading.keeping in
    let w = c.args.side in
    let n = c.loop-i.i in
    let first = c.args.block.now in
    let block = c.loop-i.block in
    let new = c.spread_line.new.cells in
    let h = c.in_ok-spread_line.ensures in
    record {
      done = line_done (λ line x o. IsSpreadAt k line w x o) (nothing k) w first block new n h.others
          (λ x l. spread_of_copy k (λ y. found k first (n * w + y)) (λ y. found k block (n * w + y)) w x (found k new (n * w + x))
          (λ y m. c.loop-i.invariant.left n y (omega arith) m) (h.on_line x l))
          c.loop-i.invariant.done;
      left = line_left (λ line x o. IsSpreadAt k line w x o) (nothing k) w first block new n h.others c.loop-i.invariant.left;
    }
