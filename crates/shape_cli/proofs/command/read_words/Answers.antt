use Rattle.std.proofs.Common.{◌∙◌, ap, sym}
use Rattle.shape_cli.specs.Kinds.{read_report_kind}
use Rattle.shape_desk.specs.Files.{texts}
use Rattle.shape_cli.specs.Commands.{First, first_word, read_first}
use Rattle.shape_cli.proofs.Reading.{begun}
use Rattle.shape_cli.proofs.command.read_words.Goals as goal

pub returns-in-Make : goal.returns-in-Make
returns-in-Make g c = begun (g.N.Names.names c.args.names.now) (texts c.args.words.now) c.in_ok-first.first.now.items (texts c.in_ok-first.rest.now)
    (First.Make (read_report_kind c.in-Make.kind)) c.read_making.result (ap texts c.in_ok-first.ensures.cases.0)
    (sym c.as_slice.ensures.value ∙ c.in_ok-kind.ensures ∙ ap (λ f. first_word (read_first f)) c.in-Make.is) c.read_making.ensures

pub returns-in-Check : goal.returns-in-Check
returns-in-Check g c = begun (g.N.Names.names c.args.names.now) (texts c.args.words.now) c.in_ok-first.first.now.items (texts c.in_ok-first.rest.now)
    (First.Check (read_report_kind c.in-Check.kind)) c.read_check.result (ap texts c.in_ok-first.ensures.cases.0)
    (sym c.as_slice.ensures.value ∙ c.in_ok-kind.ensures ∙ ap (λ f. first_word (read_first f)) c.in-Check.is)
    (c.read_check.ensures (g.N.Names.names c.args.names.now))

pub returns-in-Trial : goal.returns-in-Trial
returns-in-Trial g c = begun (g.N.Names.names c.args.names.now) (texts c.args.words.now) c.in_ok-first.first.now.items (texts c.in_ok-first.rest.now)
    First.Trial c.read_trial.result (ap texts c.in_ok-first.ensures.cases.0)
    (sym c.as_slice.ensures.value ∙ c.in_ok-kind.ensures ∙ ap (λ f. first_word (read_first f)) c.in-Trial.is)
    (c.read_trial.ensures (g.N.Names.names c.args.names.now))
