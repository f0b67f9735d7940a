use Rattle.text_terms.specs.Fields.{count}
use Rattle.report_text.proofs.Standing.{stands_both}
use Rattle.report_text.proofs.front_why.short_share.Goals as goal

pub returns-clause-stands : goal.returns-clause-stands
returns-clause-stands c =
    let w = c.in_ok-weight in
    let p = c.in_ok-place in
    rw c.from.ensures
    (stands_both c.args.bytes.now c.args.at w.weight.end p.place.end 7 7 (count.words w.weight.value) (count.words p.place.value) w.ensures.stands
    p.ensures.stands)
