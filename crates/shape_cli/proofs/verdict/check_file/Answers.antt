use Rattle.std.proofs.Common.{subst, sym}
use Rattle.shape_desk.proofs.Writes.{OnlyReads-more}
use Rattle.shape_desk.specs.declared.desk.Place.TheVariants.{Report}
use Rattle.shape_cli.specs.Sources.{read_source}
use Rattle.shape_cli.specs.Kinds.{about_of, read_report_kind}
use Rattle.shape_cli.specs.Abouts.{IsAbout}
use Rattle.shape_cli.specs.Outcomes.{outcome_of}
use Rattle.shape_cli.specs.Parts.{picture_of, verdict_text}
use Rattle.shape_cli.specs.Commands.{Asked}
use Rattle.shape_cli.proofs.Endings.{answered, cut_short, kept_right, verdict_answers, took}
use Rattle.shape_cli.proofs.verdict.check_file.Goals as goal

pub judge-requires : goal.judge-requires
judge-requires g c = record { suits = subst (IsAbout (about_of (read_report_kind c.args.kind))) (sym c.in-Ok.ensures.kind) c.requires.takes }

pub returns-clause-ran : goal.returns-clause-ran
returns-clause-ran g c =
    let s = g.D.Desk.state in
    let v = c.in-Ok-judge.verdict in
    let kind = read_report_kind c.args.kind in
    let report = c.args.report.now in
    let source = read_source c.args.source in
    let w = c.in-Err-write_verdict.ensures in
    let h = c.in-Ok.ensures.only in
    let j = c.in-Ok-judge.ensures in
    let X = picture_of c.in-Ok.image in
    let right = kept_right _ kind X report v _ _ h.same_files j.judged.right in
    let old = s c.args.desk.now in
    let new = s c.write_verdict.new.desk in
    cut_short _ _ old (s c.judge.new.desk) new (outcome_of v) (verdict_text v) (OnlyReads-more h j.only)
    (verdict_answers _ source kind report old.files X v c.in-Ok.ensures.opened right) w.text.err w.failed
    (took _ source kind report old (s c.open_picture.new.desk) (s c.judge.new.desk) new X h.same_files (w.only.same_left Report) c.in-Ok.ensures.opened
    j.judged.taken)

pub returns-in-Ok-write_verdict-clause-ran : goal.returns-in-Ok-write_verdict-clause-ran
returns-in-Ok-write_verdict-clause-ran g c =
    let s = g.D.Desk.state in
    let v = c.in-Ok-judge.verdict in
    let kind = read_report_kind c.args.kind in
    let report = c.args.report.now in
    let source = read_source c.args.source in
    let w = c.in-Ok-write_verdict.ensures in
    let h = c.in-Ok.ensures.only in
    let j = c.in-Ok-judge.ensures in
    let X = picture_of c.in-Ok.image in
    let right = kept_right _ kind X report v _ _ h.same_files j.judged.right in
    let old = s c.args.desk.now in
    let new = s c.write_verdict.new.desk in
    answered _ (Asked.Check source kind report) old (s c.judge.new.desk) new v c.given.result c.given.ensures (OnlyReads-more h j.only)
    (verdict_answers _ source kind report old.files X v c.in-Ok.ensures.opened right) w.text.ok
    (took _ source kind report old (s c.open_picture.new.desk) (s c.judge.new.desk) new X h.same_files (w.only.same_left Report) c.in-Ok.ensures.opened
    j.judged.taken)
