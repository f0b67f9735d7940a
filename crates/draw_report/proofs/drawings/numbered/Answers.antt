use Rattle.draw_report.proofs.drawings.numbered.Goals as goal

pub returns : goal.returns
returns c = λ lines e. c.numbered_text.ensures lines e.sketch e.seen
