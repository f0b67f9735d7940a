use Rattle.shape_check.proofs.sections.PlaneJudgeSectionJudgeP3.done.Goals as goal

pub returns : goal.returns
returns c = λ X n by now lines h. c.done.ensures X.picture lines h
