use Rattle.std.proofs.Common.{inl, inr, refl, sym, subst}
use Rattle.shape_rules.proofs.Ruled.{names_on}
use Rattle.shape_desk.specs.Files.{texts}
use Rattle.shape_cli.specs.Commands.{IsNoForm}
use Rattle.shape_cli.specs.declared.command.Command.TheVariants as command
use Rattle.shape_cli.proofs.OneCommand.{form_run}
use Rattle.shape_cli.proofs.Reading.{asked}
use Rattle.shape_cli.proofs.top.run.Goals as goal

pub returns-in-Some-Make-clause-usage : goal.returns-in-Some-Make-clause-usage
returns-in-Some-Make-clause-usage g c =
    let s = g.D.Desk.state in
    let a = c.in-Some-Make in
    let read = rw a.field-0-is at a.ensures in
    form_run _ _ (texts c.args.words.now) (s c.args.desk.now) (s c.make_file.new.desk) c.make_file.result
    (asked _ _ (texts c.args.words.now) (command.Make a.source a.wanted) (s c.args.desk.now) (s c.make_file.new.desk) c.make_file.result
    (names_on _ c.args.shelf) read.0 read.1 c.make_file.ensures.ran)

pub returns-in-Some-Make-clause-ran : goal.returns-in-Some-Make-clause-ran
returns-in-Some-Make-clause-ran g c =
    let s = g.D.Desk.state in
    let a = c.in-Some-Make in
    let read = rw a.field-0-is at a.ensures in
    inl (asked _ _ (texts c.args.words.now) (command.Make a.source a.wanted) (s c.args.desk.now) (s c.make_file.new.desk) c.make_file.result
    (names_on _ c.args.shelf) read.0 read.1 c.make_file.ensures.ran)

pub returns-in-Some-Check-clause-usage : goal.returns-in-Some-Check-clause-usage
returns-in-Some-Check-clause-usage g c =
    let s = g.D.Desk.state in
    let a = c.in-Some-Check in
    let read = rw a.field-0-is at a.ensures in
    form_run _ _ (texts c.args.words.now) (s c.args.desk.now) (s c.check_file.new.desk) c.check_file.result
    (asked _ _ (texts c.args.words.now) (command.Check a.source a.kind a.report) (s c.args.desk.now) (s c.check_file.new.desk) c.check_file.result
    (names_on _ c.args.shelf) read.0 read.1 c.check_file.ensures.ran)

pub returns-in-Some-Check-clause-ran : goal.returns-in-Some-Check-clause-ran
returns-in-Some-Check-clause-ran g c =
    let s = g.D.Desk.state in
    let a = c.in-Some-Check in
    let read = rw a.field-0-is at a.ensures in
    inl (asked _ _ (texts c.args.words.now) (command.Check a.source a.kind a.report) (s c.args.desk.now) (s c.check_file.new.desk) c.check_file.result
    (names_on _ c.args.shelf) read.0 read.1 c.check_file.ensures.ran)

pub returns-clause-usage : goal.returns-clause-usage
returns-clause-usage g c =
    let none = subst (λ names. IsNoForm names (texts c.args.words.now)) (sym (names_on _ c.args.shelf)) c.in-None.ensures in
    (λ e. none, λ n. refl)

pub returns-clause-ran : goal.returns-clause-ran
returns-clause-ran g c = inr (subst (λ names. IsNoForm names (texts c.args.words.now)) (sym (names_on _ c.args.shelf)) c.in-None.ensures)
