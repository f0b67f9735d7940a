use Rattle.text_terms.proofs.CourseLaws.{ended_exactly}
use Rattle.edge_terms.specs.CycleLines.{nothing_taken}
use Rattle.edge_terms.specs.Lines.{Line}
use Rattle.edge_terms.specs.EdgeReports.{HasEnded, course}
use Rattle.edge_terms.proofs.ReportLaws.{ends_by}
use Rattle.judge_edges.specs.Taken.{state_at}
use Rattle.judge_edges.proofs.Taken.{ended_same}
use Rattle.judge_edges.proofs.whole.WholeJudgeReportJudgeEdgeLine.has_ended.Goals as goal

pub returns : goal.returns
returns c =
    let j = c.args.self.now in
    λ X lines s.
    let e = ended_exactly (course X) Line.End HasEnded (ends_by X) (state_at j.stage j.cycles.standing) lines s.reached_now in (
      λ t. e.0 (ended_same j.stage nothing_taken j.cycles.standing (c.has_come.ensures.0 t)),
      λ w. c.has_come.ensures.1 (ended_same j.stage j.cycles.standing nothing_taken (e.1 w)),
    )
