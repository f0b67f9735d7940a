use Rattle.std.proofs.Common.{sym, ◌∙◌}
use Rattle.report_text.specs.Reading.{split_words}
use Rattle.shape_report.proofs.Claims.{of_fields, from_words}
use Rattle.shape_report.proofs.read.read_claim.Goals as goal

pub returns : goal.returns
returns g c =
    let text = c.args.bytes.now in
    let is = sym c.new-words.ensures ∙ c.in_ok-word.ensures in
    from_words g.P.Point.DIM g.P.Point.coords text c.fields.result
    (of_fields g.P.Point.DIM g.P.Point.coords (split_words text) c.in_ok-word.word.now c.next_word.new.self c.fields.result is c.fields.ensures)
