use Rattle.std.proofs.Common.{subst}
use Rattle.std.specs.Prelude.{Contains}
use Rattle.shape_desk.specs.Files.{texts}
use Rattle.shape_cli.proofs.WordLists.{made_to_last}
use Rattle.shape_cli.proofs.Reading.{analysis_by_none}
use Rattle.shape_cli.proofs.command.read_analysis.Goals as goal

pub returns-in_err-which : goal.returns-in_err-which
returns-in_err-which g c =
    let names = g.N.Names.names c.args.names.now in
    let split = c.in_ok-rule.ensures.cases in
    let none = subst (λ w. Contains names w → ⊥) c.as_slice-rule.ensures.value c.in_err-which.ensures in
    rw c.from_residual-in_err-which.ensures
    (analysis_by_none names (texts c.args.rest.now) (texts c.in_ok-rule.at.now) c.in_ok-rule.rule.now.items
    (made_to_last (λ w. w.items) c.args.rest.now c.in_ok-rule.at.now c.in_ok-rule.rule.now split.0) none)
