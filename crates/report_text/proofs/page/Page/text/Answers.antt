use Rattle.std.proofs.Common.{◌++◌, subst}
use Rattle.report_text.specs.Telling.{IsTelling}
use Rattle.report_text.proofs.Telling.{front_waits, none_waits}
use Rattle.report_text.proofs.page.Page.text.Goals as goal

pub returns-in-Some : goal.returns-in-Some
returns-in-Some g c = λ begun text h.
    let now = g.D.Desk.state c.put_text-self-inside.new.desk in
    let bytes = c.self.inside.bytes in
    let p = c.put_text-self-inside in
    let here = front_waits begun (g.D.Desk.state c.args.desk.now) text c.self.inside.filled c.in-Some.filled c.self.inside.bytes.items c.deref.result.now
    c.args.self.now c.self.view_is c.in-Some.is c.deref.ensures.value h in
    subst (λ page. IsTelling begun (text ++ c.args.text.now) page now) (none_waits p.result bytes.items p.ensures.none) (p.ensures.telling begun text here)
