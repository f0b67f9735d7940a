use Rattle.std.proofs.Common.{[], ◌++◌}
use Rattle.report_text.proofs.Telling.{telling_held, telling_then, telling_back}
use Rattle.report_text.proofs.page.put_text.Goals as goal

pub returns-clause-telling : goal.returns-clause-telling
returns-clause-telling g c = λ begun text h.
    let more = c.args.text.now in
    let one = telling_held begun _ (text ++ []) [] more (c.in_ok-write_out.ensures.telling begun text h) in
    telling_back begun _ (text ++ more) _ (c.write_out-2.ensures.telling begun (text ++ more) (telling_then begun _ text more _ one))
