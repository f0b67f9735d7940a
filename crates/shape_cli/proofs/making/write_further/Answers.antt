use Rattle.shape_cli.proofs.Wrote.{wrote_whole, wrote_front}
use Rattle.shape_cli.proofs.making.write_further.Goals as goal

pub returns-in-Ok : goal.returns-in-Ok
returns-in-Ok g c =
    let s = g.D.Desk.state in
    wrote_whole (s c.args.desk.now) (s c.write_report.new.desk) c.in_ok-report.report _ c.in_ok-report.ensures c.in-Ok.ensures

pub returns : goal.returns
returns g c =
    let s = g.D.Desk.state in
    wrote_front (s c.args.desk.now) (s c.write_report.new.desk) c.in_ok-report.report _ c.in_ok-report.ensures c.in-Err.ensures
