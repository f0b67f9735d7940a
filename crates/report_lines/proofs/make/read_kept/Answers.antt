use Rattle.report_lines.proofs.make.read_kept.Goals as goal

pub returns-in-Ok-clause-answer : goal.returns-in-Ok-clause-answer
returns-in-Ok-clause-answer g c = λ text heading taken begun. c.read_lines.ensures.answer text heading taken (rw c.in-Ok.is at begun)
