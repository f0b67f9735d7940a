use Rattle.std.proofs.Common.{[], ◌∷◌, ◌++◌, take, sym, ◌∙◌, subst}
use Rattle.std.specs.Prelude.{option_map}
use Rattle.std.proofs.lemmas.List.{with_items_is}
use Rattle.text_terms.specs.Spellings.{line_text}
use Rattle.report_text.specs.Telling.{IsTelling}
use Rattle.report_text.proofs.Telling.{front_waits}
use Rattle.report_text.proofs.page.Page.line.Goals as goal

pub returns-in-Some : goal.returns-in-Some
returns-in-Some g c = λ begun text h.
    let now = g.D.Desk.state c.put_line-self-inside.new.desk in
    let bytes = c.self.inside.bytes in
    let p = c.put_line-self-inside in
    let here = front_waits begun (g.D.Desk.state c.args.desk.now) text c.self.inside.filled c.in-Some.filled c.self.inside.bytes.items c.deref_mut.result.now
    c.args.self.now c.self.view_is c.in-Some.is c.deref_mut.ensures.value h in
    let told = p.ensures.telling begun text here in
    let spelled = c.spell.ensures in
    let whole = subst (λ s. IsTelling begun (text ++ (s ++ 10 ∷ [])) (option_map (λ n. take n p.new.page) p.result) now) spelled told in
    subst (λ l. IsTelling begun (text ++ line_text g.L.ReportLine.form (g.L.ReportLine.seen c.args.line.now)) (option_map (λ n. take n l) p.result) now)
    (sym (with_items_is bytes p.new.page (p.ensures.size ∙ sym c.self.invariant.0))) whole
