use Rattle.std.proofs.Common.{[], ◌∷◌, ◌++◌, Some, take, sym, subst}
use Rattle.report_text.specs.Telling.{IsTelling}
use Rattle.report_text.proofs.Telling.{telling_held, telling_then}
use Rattle.report_text.proofs.page.put_line.Goals as goal

pub returns-clause-telling : goal.returns-clause-telling
returns-clause-telling g c = λ begun text h.
    let now = g.D.Desk.state c.place_on.new.desk in
    let line = c.args.line.now in
    let before = take c.in_ok-at.at c.args.page.now in
    let told = telling_held begun now (text ++ []) before (line ++ 10 ∷ []) (c.in_ok-at.ensures.telling begun text h) in
    subst (λ page. IsTelling begun (text ++ (line ++ 10 ∷ [])) (Some page) now) (sym c.put_line_on.ensures.line)
    (telling_then begun now text (line ++ 10 ∷ []) _ told)
