use Rattle.std.proofs.Common.{◌≢◌, ap, sym, ◌∙◌}
use Rattle.shape_report.specs.LineOf.{line_of}
use Rattle.report_terms.specs.Sections.{Section, rank, section_of, lines_of}
use Rattle.report_terms.proofs.SectionLaws.{rank_same}
use Rattle.shape_check.proofs.RowLaws.{row_past, row_first, rest_follows, first_answer, first_follows, entered_with, may_follow, also}
use Rattle.shape_check.proofs.then.ThenJudges.take.Goals as goal

pub returns-then-self-clause-answer : goal.returns-then-self-clause-answer
returns-then-self-clause-answer g c = λ X n lines ruled f m.
    let by = (g.dyn-1.0.entry c.args.rule.now.0).1.means c.args.rule.now.1 in
    let now = (g.dyn-1.0.entry c.args.rule.now.0).1.state c.args.rule.now.1 in
    let h = row_past X g.J.SectionJudge.section g.R.Judges.section c.args.self.now.is_past (g.J.SectionJudge.stands X.picture n by c.args.self.now.first now)
    (g.R.Judges.waits X.picture n c.args.self.now.rest) (g.R.Judges.follows X n by c.args.self.now.rest now) lines c.if-self.true f.1 in
    c.take.ensures.answer X n lines ruled h.1 (h.0.next _)

pub returns-then-self-clause-follows : goal.returns-then-self-clause-follows
returns-then-self-clause-follows g c = λ X n lines ruled f m.
    let by = (g.dyn-1.0.entry c.args.rule.now.0).1.means c.args.rule.now.1 in
    let now = (g.dyn-1.0.entry c.args.rule.now.0).1.state c.args.rule.now.1 in
    let t = g.R.Judges.section in
    let l = line_of g.P.Point.coords c.args.line.now in
    let h = row_past X g.J.SectionJudge.section t c.args.self.now.is_past (g.J.SectionJudge.stands X.picture n by c.args.self.now.first now)
    (g.R.Judges.waits X.picture n c.args.self.now.rest) (g.R.Judges.follows X n by c.args.self.now.rest now) lines c.if-self.true f.1 in
    rw c.if-self.true (also _ _ c.take.result f.0
    (rest_follows X t lines l c.take.result (h.0.next l)
    (g.R.Judges.follows X n by c.take.new.self ((g.dyn-1.0.entry c.args.rule.now.0).1.state c.take.new.rule))
    (c.take.ensures.answer X n lines ruled h.1 (h.0.next l)) (c.take.ensures.follows X n lines ruled h.1 (h.0.next l))))

pub returns-then-rank-clause-answer : goal.returns-then-rank-clause-answer
returns-then-rank-clause-answer g c = λ X n lines ruled f m.
    let by = (g.dyn-1.0.entry c.args.rule.now.0).1.means c.args.rule.now.1 in
    let now = (g.dyn-1.0.entry c.args.rule.now.0).1.state c.args.rule.now.1 in
    let s = g.J.SectionJudge.section in
    let l = line_of g.P.Point.coords c.args.line.now in
    let same = rank_same (section_of l) s (sym c.rank.ensures ∙ c.if-rank.true ∙ c.rank-2.ensures) in
    let h = row_first X s g.R.Judges.section c.args.self.now.is_past (g.J.SectionJudge.stands X.picture n by c.args.self.now.first now)
    (g.R.Judges.waits X.picture n c.args.self.now.rest) (g.R.Judges.follows X n by c.args.self.now.rest now) lines c.if-self.false f.1 in
    first_answer X s lines l c.take-then-rank.result _ h.0 same
    (c.take-then-rank.ensures.answer X n (lines_of Section.Heading lines) (lines_of s lines) ruled h.0.stands)

pub returns-then-rank-clause-follows : goal.returns-then-rank-clause-follows
returns-then-rank-clause-follows g c = λ X n lines ruled f m.
    let by = (g.dyn-1.0.entry c.args.rule.now.0).1.means c.args.rule.now.1 in
    let now = (g.dyn-1.0.entry c.args.rule.now.0).1.state c.args.rule.now.1 in
    let s = g.J.SectionJudge.section in
    let l = line_of g.P.Point.coords c.args.line.now in
    let same = rank_same (section_of l) s (sym c.rank.ensures ∙ c.if-rank.true ∙ c.rank-2.ensures) in
    let h = row_first X s g.R.Judges.section c.args.self.now.is_past (g.J.SectionJudge.stands X.picture n by c.args.self.now.first now)
    (g.R.Judges.waits X.picture n c.args.self.now.rest) (g.R.Judges.follows X n by c.args.self.now.rest now) lines c.if-self.false f.1 in
    rw c.if-self.false (also _ _ c.take-then-rank.result f.0
    (first_follows X s lines l c.take-then-rank.result _ h.0 same _ _ h.1 (c.take-then-rank.ensures.stands X.picture n (lines_of s lines) h.0.stands)))

pub returns-clause-answer : goal.returns-clause-answer
returns-clause-answer g c = λ X n lines ruled f m.
    let by = (g.dyn-1.0.entry c.args.rule.now.0).1.means c.args.rule.now.1 in
    let now = (g.dyn-1.0.entry c.args.rule.now.0).1.state c.args.rule.now.1 in
    let s = g.J.SectionJudge.section in
    let t = g.R.Judges.section in
    let me = c.args.self.now in
    let l = line_of g.P.Point.coords c.args.line.now in
    let h = row_first X s t me.is_past (g.J.SectionJudge.stands X.picture n by c.args.self.now.first now) (g.R.Judges.waits X.picture n c.args.self.now.rest)
    (g.R.Judges.follows X n by c.args.self.now.rest now) lines c.if-self.false f.1 in
    let other : section_of l ≢ s = λ e. c.if-rank.false (c.rank.ensures ∙ ap rank e ∙ sym c.rank-2.ensures) in
    let done = (c.done.ensures X n by now (lines_of s lines) h.0.stands).0 c.if-not-done.false in
    c.take-2.ensures.answer X n lines ruled
    (entered_with X s t lines l (g.J.SectionJudge.stands X.picture n by me.first now) (g.R.Judges.follows X n by me.rest now) f.0 h.0 m other done
    (g.met.R.Judges.entered X n by me.rest now lines h.1))
    (may_follow X s t lines l (g.J.SectionJudge.stands X.picture n by me.first now) (g.R.Judges.follows X n by me.rest now) f.0 h.0 m other done)

pub returns-clause-follows : goal.returns-clause-follows
returns-clause-follows g c = λ X n lines ruled f m.
    let by = (g.dyn-1.0.entry c.args.rule.now.0).1.means c.args.rule.now.1 in
    let now = (g.dyn-1.0.entry c.args.rule.now.0).1.state c.args.rule.now.1 in
    let s = g.J.SectionJudge.section in
    let t = g.R.Judges.section in
    let me = c.args.self.now in
    let l = line_of g.P.Point.coords c.args.line.now in
    let h = row_first X s t me.is_past (g.J.SectionJudge.stands X.picture n by c.args.self.now.first now) (g.R.Judges.waits X.picture n c.args.self.now.rest)
    (g.R.Judges.follows X n by c.args.self.now.rest now) lines c.if-self.false f.1 in
    let other : section_of l ≢ s = λ e. c.if-rank.false (c.rank.ensures ∙ ap rank e ∙ sym c.rank-2.ensures) in
    let done = (c.done.ensures X n by now (lines_of s lines) h.0.stands).0 c.if-not-done.false in
    let may = may_follow X s t lines l (g.J.SectionJudge.stands X.picture n by me.first now) (g.R.Judges.follows X n by me.rest now) f.0 h.0 m other done in
    also _ _ c.take-2.result f.0
    (rest_follows X t lines l c.take-2.result may
    (g.R.Judges.follows X n by c.take-2.new.self ((g.dyn-1.0.entry c.args.rule.now.0).1.state c.take-2.new.rule))
    (c.take-2.ensures.answer X n lines ruled
    (entered_with X s t lines l (g.J.SectionJudge.stands X.picture n by me.first now) (g.R.Judges.follows X n by me.rest now) f.0 h.0 m other done
    (g.met.R.Judges.entered X n by me.rest now lines h.1)) may)
    (c.take-2.ensures.follows X n lines ruled
    (entered_with X s t lines l (g.J.SectionJudge.stands X.picture n by me.first now) (g.R.Judges.follows X n by me.rest now) f.0 h.0 m other done
    (g.met.R.Judges.entered X n by me.rest now lines h.1)) may))
