use Rattle.report_text.proofs.Telling.{front_waits, told_whole, told_cut, telling_back}
use Rattle.report_text.proofs.page.Page.finish.Goals as goal

pub returns-in-Some-write_out : goal.returns-in-Some-write_out
returns-in-Some-write_out g c = λ begun text h.
    let here = front_waits begun (g.D.Desk.state c.args.desk.now) text c.self.inside.filled c.in-Some.filled c.self.inside.bytes.items c.deref.result.now
    c.args.self c.self.view_is c.in-Some.is c.deref.ensures.value h in
    told_whole begun _ text (c.in-Some-write_out.ensures.telling begun text here)

pub returns : goal.returns
returns g c = λ begun text h.
    let here = front_waits begun (g.D.Desk.state c.args.desk.now) text c.self.inside.filled c.in-Some.filled c.self.inside.bytes.items c.deref.result.now
    c.args.self c.self.view_is c.in-Some.is c.deref.ensures.value h in
    told_cut begun _ text _ (telling_back begun _ text _ (c.in-None.ensures.telling begun text here))
