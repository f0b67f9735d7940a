use Rattle.shape_desk.specs.Files.{texts}
use Rattle.measure_report.proofs.WantedWords.{none_asked, not_both}
use Rattle.measure_report.proofs.wanted.asked_by.Goals as goal

pub returns-in_err-spacing : goal.returns-in_err-spacing
returns-in_err-spacing c =
    let moments = c.take_word-moments in
    let thickness = c.take_word-thickness in
    rw c.from_residual.ensures
    (none_asked moments.result.0 thickness.result.0 (texts c.args.words.now) (texts moments.result.1.now) (texts thickness.result.1.now)
    moments.ensures.words moments.ensures.first thickness.ensures.words thickness.ensures.first
    (λ e. not_both c.is_word.result c.if-is_word.false (c.is_word.ensures.1 e)) c.in_err-spacing.ensures)
