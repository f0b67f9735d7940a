use Rattle.draw_report.specs.Parts.{kind_by}
use Rattle.draw_report.proofs.Gathering.{has_ended}
use Rattle.draw_report.proofs.gatherer.GathererReportJudge.has_ended.Goals as goal

pub returns : goal.returns
returns g c = λ sides lines s. has_ended (kind_by g.L.ReportLine.form g.L.ReportLine.last g.L.OverLine.gives) g.met.L.OverLine.last_ends
    g.met.L.OverLine.only_last sides c.args.self.now lines s
