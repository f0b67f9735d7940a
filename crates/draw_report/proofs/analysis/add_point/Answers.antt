use Rattle.std.proofs.Common.{◌-◌, arith}
use Rattle.draw_report.proofs.PathLaws.{point_added}
use Rattle.draw_report.proofs.analysis.add_point.Goals as goal

pub returns-in_ok-push : goal.returns-in_ok-push
returns-in_ok-push c =
    let some = c.if-count-gt0.true in
    let count = c.len-count.ensures in
    point_added c.args.contours.now.items (c.len-count.result - 1) c.index_mut.result.now c.push.new.self c.args.p (omega (arith, some, count))
    c.index_mut.ensures.value c.in_ok-push.ensures.items
