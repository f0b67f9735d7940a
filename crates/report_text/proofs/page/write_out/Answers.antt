use Rattle.report_text.proofs.Telling.{telling_written, telling_cut}
use Rattle.report_text.proofs.page.write_out.Goals as goal

pub returns-in-Ok-clause-telling : goal.returns-in-Ok-clause-telling
returns-in-Ok-clause-telling g c = λ begun text h. telling_written begun _ _ text c.args.waiting.now h c.in-Ok.ensures.text.ok c.put_all.ensures.only

pub returns-in-Err-clause-telling : goal.returns-in-Err-clause-telling
returns-in-Err-clause-telling g c = λ begun text h. telling_cut begun _ _ text c.args.waiting.now h c.in-Err.ensures.text.err c.in-Err.ensures.failed
    c.put_all.ensures.only
