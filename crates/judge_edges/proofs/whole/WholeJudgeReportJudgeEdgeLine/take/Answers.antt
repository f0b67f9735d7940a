use Rattle.judge_edges.specs.LineOf.{line_of}
use Rattle.judge_edges.proofs.Taken.{good_exactly}
use Rattle.judge_edges.proofs.whole.WholeJudgeReportJudgeEdgeLine.take.Goals as goal

pub returns-clause-answer : goal.returns-clause-answer
returns-clause-answer c =
    let j = c.args.self.now in
    let k = c.step.new.self in
    λ X lines s. good_exactly X j.sides.width j.sides.height j.stage k.stage j.cycles k.cycles lines (line_of c.args.line.now) c.step.result c.step.ensures.step
    s
