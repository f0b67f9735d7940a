use Rattle.std.proofs.Common.{subst, sym, ◌∙◌}
use Rattle.measure_report.specs.Wholes.{RanFor}
use Rattle.measure_report.proofs.WantedRuns.{no_usage}
use Rattle.measure_report.proofs.WantedWords.{same_asked}
use Rattle.measure_report.proofs.top.run.Goals as goal

pub returns-in-Some-clause-usage : goal.returns-in-Some-clause-usage
returns-in-Some-clause-usage g c =
    let s = g.D.Desk.state in
    let wanted = c.in-Some.wanted in
    let name = c.in-Some.name.now in (
      λ e w other asked t. no_usage wanted name (s c.args.desk.now) (s c.run_wanted.new.desk)
          (subst (RanFor wanted name (s c.args.desk.now) (s c.run_wanted.new.desk)) e c.run_wanted.ensures.ran),
      λ none. absurd (none wanted name c.in-Some.ensures.0 c.in-Some.ensures.1),
    )

pub returns-in-Some-clause-ran : goal.returns-in-Some-clause-ran
returns-in-Some-clause-ran g c = λ w other asked t.
    let s = g.D.Desk.state in
    let wanted = c.in-Some.wanted in
    let name = c.in-Some.name.now in
    let same = same_asked wanted w name other c.in-Some.ensures.0 asked (sym c.in-Some.ensures.1 ∙ t) in
    subst (λ v. RanFor v other (s c.args.desk.now) (s c.run_wanted.new.desk) c.run_wanted.result) same.wanted
    (subst (λ n. RanFor wanted n (s c.args.desk.now) (s c.run_wanted.new.desk) c.run_wanted.result) same.names c.run_wanted.ensures.ran)
