use Rattle.std.proofs.Common.{◌≡◌, false, refl, arith, []}
use Rattle.std.specs.Prelude.{IsTrue}
use Rattle.std.proofs.lemmas.Bool.{OnTrue_at}
use Rattle.std.proofs.lemmas.Result.{err_from_is_err_and}
use Rattle.shape_desk.specs.declared.desk.Place.TheVariants.{Report}
use Rattle.shape_desk.specs.Line.{IfTold, ahead_of}
use Rattle.shape_desk.proofs.Writes.{OnlyReadsAt-more}
use Rattle.text_terms.specs.Reports.{report_of}
use Rattle.report_text.specs.Next.{TakesClaim, IsBad}
use Rattle.report_text.proofs.Told.{if_told, holds_at_end, text_at_end, bad_at_end, bad_line, not_good, one_more, told_few}
use Rattle.report_text.proofs.check.check_from.Goals as goal

pub lines-preserved : goal.lines-preserved
lines-preserved g c =
    let inv = c.lines.invariant in
    let next = c.next_line.ensures in
    let took = c.in_ok-take-in-Line.ensures in
    let left = ahead_of c.lines.reader.ahead ((g.D.Desk.state c.lines.desk).left Report) in
    let new = ahead_of c.next_line.new.reader.ahead ((g.D.Desk.state c.next_line.new.desk).left Report) in
    let l = g.L.ReportLine.seen c.next_line.new.place in
    let taken : IfTold left (λ bytes. TakesClaim g.L.ReportLine.form bytes new l) = rw c.in-Line.is at c.in_ok-next_line.ensures.answer in
    let good = c.if-not-branch.false in
    record {
      begun = next.reads.still_begun;
      come = λ X text start.
          let R = report_of g.L.ReportLine.form g.L.ReportLine.last (g.J.ReportJudge.good X) in
          if_told text (λ t h. one_more R g.met.L.ReportLine.laws (g.J.ReportJudge.stands X c.lines.judge) c.lines.line t left new l
          (g.J.ReportJudge.stands X c.take.new.self) h taken
          ((took.answer X h.lines h.follows).0 good) (OnTrue_at good (took.stands X h.lines h.follows))) (inv.come X text start);
      some = omega arith;
      few = omega (arith, inv.few, OnTrue_at good took.room);
      reads = OnlyReadsAt-more inv.reads next.reads;
      same = λ start s. c.take.ensures.same start (inv.same start s);
    }

pub returns-in_err-next_line-clause-checked : goal.returns-in_err-next_line-clause-checked
returns-in_err-next_line-clause-checked g c = λ X text start.
    let inv = c.lines.invariant in
    let R = report_of g.L.ReportLine.form g.L.ReportLine.last (g.J.ReportJudge.good X) in
    let is = g.met.L.ReportLine.laws in
    let F = g.J.ReportJudge.stands X c.lines.judge in
    let left = ahead_of c.lines.reader.ahead ((g.D.Desk.state c.lines.desk).left Report) in
    let at_place = (g.D.Desk.state c.next_line.new.desk).left Report in
    let come = inv.come X text start in
    let p = err_from_is_err_and c.from_residual.result c.from_residual.ensures.1 in
    let rose = c.in_err-next_line.ensures.answer in
    let later = inv.reads.only.later in
    rw (p.1, p.2) (record {
      answer = omega arith;
      taken = told_few R is F c.lines.line text left at_place come c.next_line.ensures.taken;
    })

pub returns-in_err-take-in-Line-clause-checked : goal.returns-in_err-take-in-Line-clause-checked
returns-in_err-take-in-Line-clause-checked g c = λ X text start.
    let inv = c.lines.invariant in
    let R = report_of g.L.ReportLine.form g.L.ReportLine.last (g.J.ReportJudge.good X) in
    let is = g.met.L.ReportLine.laws in
    let F = g.J.ReportJudge.stands X c.lines.judge in
    let left = ahead_of c.lines.reader.ahead ((g.D.Desk.state c.lines.desk).left Report) in
    let at_place = (g.D.Desk.state c.next_line.new.desk).left Report in
    let come = inv.come X text start in
    let p = err_from_is_err_and c.from_residual-in_err-take-in-Line.result c.from_residual-in_err-take-in-Line.ensures.1 in
    rw (p.1, p.2) (record {
      answer = tt;
      taken = told_few R is F c.lines.line text left at_place come c.next_line.ensures.taken;
    })

pub returns-then-not-branch-clause-checked : goal.returns-then-not-branch-clause-checked
returns-then-not-branch-clause-checked g c = λ X text start.
    let inv = c.lines.invariant in
    let R = report_of g.L.ReportLine.form g.L.ReportLine.last (g.J.ReportJudge.good X) in
    let is = g.met.L.ReportLine.laws in
    let F = g.J.ReportJudge.stands X c.lines.judge in
    let left = ahead_of c.lines.reader.ahead ((g.D.Desk.state c.lines.desk).left Report) in
    let at_place = (g.D.Desk.state c.next_line.new.desk).left Report in
    let come = inv.come X text start in
    let new = ahead_of c.next_line.new.reader.ahead at_place in
    let l = g.L.ReportLine.seen c.next_line.new.place in
    let taken : IfTold left (λ bytes. TakesClaim g.L.ReportLine.form bytes new l) = rw c.in-Line.is at c.in_ok-next_line.ensures.answer in
    let bad = if_told text (λ t h. not_good R is F c.lines.line t left new l h taken (λ good.
    let t = (c.in_ok-take-in-Line.ensures.answer X h.lines h.follows).1 good in
    let z = c.if-not-branch.true in
    cc)) come in
    record {
      answer = (record { some = inv.some; few = omega (arith, inv.few) }, bad);
      taken = told_few R is F c.lines.line text left at_place come c.next_line.ensures.taken;
    }

pub returns-in-Bad-clause-checked : goal.returns-in-Bad-clause-checked
returns-in-Bad-clause-checked g c = λ X text start.
    let inv = c.lines.invariant in
    let R = report_of g.L.ReportLine.form g.L.ReportLine.last (g.J.ReportJudge.good X) in
    let is = g.met.L.ReportLine.laws in
    let F = g.J.ReportJudge.stands X c.lines.judge in
    let left = ahead_of c.lines.reader.ahead ((g.D.Desk.state c.lines.desk).left Report) in
    let at_place = (g.D.Desk.state c.next_line.new.desk).left Report in
    let come = inv.come X text start in
    let bad : IfTold left (IsBad g.L.ReportLine.form) = rw c.in-Bad.is at c.in_ok-next_line.ensures.answer in
    record {
      answer = (record { some = inv.some; few = omega (arith, inv.few) }, if_told text (λ t h. bad_line R is F c.lines.line t left h bad) come);
      taken = told_few R is F c.lines.line text left at_place come c.next_line.ensures.taken;
    }

pub returns-then-has_ended-clause-checked : goal.returns-then-has_ended-clause-checked
returns-then-has_ended-clause-checked g c = λ X text start.
    let inv = c.lines.invariant in
    let R = report_of g.L.ReportLine.form g.L.ReportLine.last (g.J.ReportJudge.good X) in
    let is = g.met.L.ReportLine.laws in
    let F = g.J.ReportJudge.stands X c.lines.judge in
    let left = ahead_of c.lines.reader.ahead ((g.D.Desk.state c.lines.desk).left Report) in
    let at_place = (g.D.Desk.state c.next_line.new.desk).left Report in
    let come = inv.come X text start in
    let end : IfTold left (λ bytes. bytes ≡ []) = rw c.in-End.is at c.in_ok-next_line.ensures.answer in
    record {
      answer = if_told text (λ t h. holds_at_end R is F c.lines.line t left h ((c.if-has_ended.ensures X h.lines h.follows).0 refl) end) come;
      taken = told_few R is F c.lines.line text left at_place come c.next_line.ensures.taken;
    }

pub returns-in-End-clause-checked : goal.returns-in-End-clause-checked
returns-in-End-clause-checked g c = λ X text start.
    let inv = c.lines.invariant in
    let R = report_of g.L.ReportLine.form g.L.ReportLine.last (g.J.ReportJudge.good X) in
    let is = g.met.L.ReportLine.laws in
    let F = g.J.ReportJudge.stands X c.lines.judge in
    let left = ahead_of c.lines.reader.ahead ((g.D.Desk.state c.lines.desk).left Report) in
    let at_place = (g.D.Desk.state c.next_line.new.desk).left Report in
    let come = inv.come X text start in
    let end : IfTold left (λ bytes. bytes ≡ []) = rw c.in-End.is at c.in_ok-next_line.ensures.answer in
    let bad = if_told text (λ t h. bad_at_end R is F c.lines.line t left h
    (λ e. let t : IsTrue false = (c.if-has_ended.ensures X h.lines h.follows).1 e in cc) end) come in
    record {
      answer = (record { some = inv.some; few = omega (arith, inv.few) }, bad);
      taken = told_few R is F c.lines.line text left at_place come c.next_line.ensures.taken;
    }

pub returns-then-has_ended-clause-kept : goal.returns-then-has_ended-clause-kept
returns-then-has_ended-clause-kept g c = λ X text start.
    let inv = c.lines.invariant in
    let R = report_of g.L.ReportLine.form g.L.ReportLine.last (g.J.ReportJudge.good X) in
    let is = g.met.L.ReportLine.laws in
    let F = g.J.ReportJudge.stands X c.lines.judge in
    let left = ahead_of c.lines.reader.ahead ((g.D.Desk.state c.lines.desk).left Report) in
    let come = inv.come X text start in
    let end : IfTold left (λ bytes. bytes ≡ []) = rw c.in-End.is at c.in_ok-next_line.ensures.answer in
    if_told text (λ t h. text_at_end R is F c.lines.line t left h ((c.if-has_ended.ensures X h.lines h.follows).0 refl) end) come

pub returns-in_err-next_line-clause-kept : goal.returns-in_err-next_line-clause-kept
returns-in_err-next_line-clause-kept g c = λ X text start. let p = err_from_is_err_and c.from_residual.result c.from_residual.ensures.1 in rw p.1 tt

pub returns-in_err-take-in-Line-clause-kept : goal.returns-in_err-take-in-Line-clause-kept
returns-in_err-take-in-Line-clause-kept g c = λ X text start. let p = err_from_is_err_and c.from_residual-in_err-take-in-Line.result
    c.from_residual-in_err-take-in-Line.ensures.1 in rw p.1 tt

pub returns-then-not-branch-clause-kept : goal.returns-then-not-branch-clause-kept
returns-then-not-branch-clause-kept g c = λ X text start. tt

pub returns-in-Bad-clause-kept : goal.returns-in-Bad-clause-kept
returns-in-Bad-clause-kept g c = λ X text start. tt

pub returns-in-End-clause-kept : goal.returns-in-End-clause-kept
returns-in-End-clause-kept g c = λ X text start. tt

pub returns-in_err-next_line-clause-reads : goal.returns-in_err-next_line-clause-reads
returns-in_err-next_line-clause-reads g c = OnlyReadsAt-more c.lines.invariant.reads c.next_line.ensures.reads

pub returns-in_err-take-in-Line-clause-reads : goal.returns-in_err-take-in-Line-clause-reads
returns-in_err-take-in-Line-clause-reads g c = OnlyReadsAt-more c.lines.invariant.reads c.next_line.ensures.reads

pub returns-then-not-branch-clause-reads : goal.returns-then-not-branch-clause-reads
returns-then-not-branch-clause-reads g c = OnlyReadsAt-more c.lines.invariant.reads c.next_line.ensures.reads

pub returns-in-Bad-clause-reads : goal.returns-in-Bad-clause-reads
returns-in-Bad-clause-reads g c = OnlyReadsAt-more c.lines.invariant.reads c.next_line.ensures.reads

pub returns-then-has_ended-clause-reads : goal.returns-then-has_ended-clause-reads
returns-then-has_ended-clause-reads g c = OnlyReadsAt-more c.lines.invariant.reads c.next_line.ensures.reads

pub returns-in-End-clause-reads : goal.returns-in-End-clause-reads
returns-in-End-clause-reads g c = OnlyReadsAt-more c.lines.invariant.reads c.next_line.ensures.reads
