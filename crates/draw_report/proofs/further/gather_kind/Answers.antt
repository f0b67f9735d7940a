use Rattle.draw_report.proofs.further.gather_kind.Goals as goal

pub returns-in-Balls-clause-answer : goal.returns-in-Balls-clause-answer
returns-in-Balls-clause-answer g c = rw c.in-Balls.is c.gather.ensures.answer

pub returns-in-Pieces-clause-answer : goal.returns-in-Pieces-clause-answer
returns-in-Pieces-clause-answer g c = rw c.in-Pieces.is c.gather-in-Pieces.ensures.answer

pub returns-in-Edges-clause-answer : goal.returns-in-Edges-clause-answer
returns-in-Edges-clause-answer g c = rw c.in-Edges.is c.gather-in-Edges.ensures.answer
