use Rattle.measure_report.proofs.WantedWords.{spelled_so, other_word, not_both}
use Rattle.measure_report.proofs.wanted.spacing_by.Goals as goal

pub returns-then-is_text : goal.returns-then-is_text
returns-then-is_text c =
    spelled_so c.spelled.result c.args.word.now c.args.x.now c.args.y.now c.args.z.now (c.is_text.ensures.0 c.if-is_text.true) c.spelled.ensures

pub returns-else-is_text : goal.returns-else-is_text
returns-else-is_text c =
    other_word c.args.word.now c.args.x.now c.args.y.now c.args.z.now (λ e. not_both c.is_text.result c.if-is_text.false (c.is_text.ensures.1 e))
