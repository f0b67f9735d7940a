use Rattle.std.proofs.Common.{[], ◌++◌, subst}
use Rattle.report_text.specs.Telling.{IsTelling}
use Rattle.report_text.proofs.Telling.{none_waits}
use Rattle.report_text.proofs.page.place_on.Goals as goal

pub returns-clause-telling : goal.returns-clause-telling
returns-clause-telling g c = λ begun text h.
    let now = g.D.Desk.state c.write_out.new.desk in
    subst (λ page. IsTelling begun (text ++ []) page now) (none_waits c.write_out.result c.args.page.now c.write_out.ensures.none)
    (c.write_out.ensures.telling begun text h)
