use Rattle.std.proofs.Common.{◌≡◌, ◌+◌, ◌≤◌, ◌^◌, true, ℕ, List, Option}
use Rattle.shape_desk.specs.declared.desk.Place.TheVariants.{Report}
use Rattle.shape_desk.specs.Desk.{OnlyReadsAt}
use Rattle.shape_desk.specs.Line.{ahead_of}
use Rattle.text_terms.specs.Reports.{report_of}
use Rattle.report_text.specs.Checks.{HasCome}
use Rattle.report_text.proofs.check.check_from.Given as goal

abbrev pub invariant-lines : goal.invariant-lines
invariant-lines g l = record {
  begun : (g.D.Desk.state l.desk).begun Report ≡ true;
  come : (X : g.J.ReportJudge.About) (text : Option (List ℕ))
      → HasCome (report_of g.L.ReportLine.form g.L.ReportLine.last (g.J.ReportJudge.good X)) (g.J.ReportJudge.stands X l.fn.judge) text
      (ahead_of l.fn.reader.ahead ((g.D.Desk.state l.fn.desk).left Report)) l.fn.first
      → HasCome (report_of g.L.ReportLine.form g.L.ReportLine.last (g.J.ReportJudge.good X)) (g.J.ReportJudge.stands X l.judge) text
      (ahead_of l.reader.ahead ((g.D.Desk.state l.desk).left Report)) l.line;
  some : 1 ≤ l.line;
  few : l.line + g.J.ReportJudge.room l.judge ≤ 2 ^ 63;
  reads : OnlyReadsAt Report (g.D.Desk.state l.fn.desk) (g.D.Desk.state l.desk);
  same : (start : g.row.J.Denot) → g.J.ReportJudge.same start l.fn.judge → g.J.ReportJudge.same start l.judge;
}

abbrev pub decreases-lines : goal.decreases-lines
decreases-lines g l = g.J.ReportJudge.room l.judge
