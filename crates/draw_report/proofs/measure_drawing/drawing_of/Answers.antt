use Rattle.draw_report.proofs.measure_drawing.drawing_of.Goals as goal

pub returns : goal.returns
returns c = λ lines e. c.measured_text.ensures lines e.sketch e.seen
