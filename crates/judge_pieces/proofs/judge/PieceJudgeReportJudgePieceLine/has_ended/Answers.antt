use Rattle.judge_pieces.proofs.Standings.{end_test}
use Rattle.judge_pieces.proofs.judge.PieceJudgeReportJudgePieceLine.has_ended.Goals as goal

pub returns : goal.returns
returns c = λ X lines f. end_test X c.args.self.now lines c.is_over.result f c.is_over.ensures
