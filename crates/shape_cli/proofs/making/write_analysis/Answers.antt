use Rattle.shape_cli.proofs.Wrote.{wrote_whole, wrote_front}
use Rattle.shape_cli.proofs.making.write_analysis.Goals as goal

pub returns-in-Ok : goal.returns-in-Ok
returns-in-Ok g c = λ name there.
    let s = g.D.Desk.state in
    let begun = s c.args.desk.now in
    let told = c.tell.ensures _ _ _ c.args.which name begun c.in_ok-analysis.ensures.found there (c.in_ok-page.ensures begun) in
    wrote_whole begun (s c.finish.new.desk) told.text _ told.so (c.in-Ok.ensures begun told.text told.telling)

pub returns : goal.returns
returns g c = λ name there.
    let s = g.D.Desk.state in
    let begun = s c.args.desk.now in
    let told = c.tell.ensures _ _ _ c.args.which name begun c.in_ok-analysis.ensures.found there (c.in_ok-page.ensures begun) in
    wrote_front begun (s c.finish.new.desk) told.text _ told.so (c.in-Err.ensures begun told.text told.telling)
