use Rattle.judge_pieces.specs.LineOf.{line_of}
use Rattle.judge_pieces.proofs.Standings.{claim_test}
use Rattle.judge_pieces.proofs.judge.PieceJudgeReportJudgePieceLine.take.Goals as goal

pub returns-then-not-is_good-clause-answer : goal.returns-then-not-is_good-clause-answer
returns-then-not-is_good-clause-answer c = λ X lines f. claim_test X c.args.self.now c.args.self.now lines (line_of c.args.line.now) _ f
    (rw c.if-not-is_good.true at c.is_good.ensures.answer)
