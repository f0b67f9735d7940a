use Rattle.report_text.proofs.Numbers.{no_number, longer_word}
use Rattle.shape_cli.proofs.numbers.number.Goals as goal

pub returns-in_err-value : goal.returns-in_err-value
returns-in_err-value c = rw c.from_residual.ensures (no_number c.args.word.now c.in_err-value.ensures)

pub returns-else-len-word : goal.returns-else-len-word
returns-else-len-word c = longer_word c.args.word.now c.in_ok-value.value c.in_ok-value.len c.in_ok-value.ensures c.if-len-word.false
