use Rattle.std.proofs.Common.{Ok, ap, ◌∙◌}
use Rattle.shape_desk.specs.declared.desk.Place.TheVariants.{Report}
use Rattle.shape_cli.proofs.TriedReports.{no_verdict}
use Rattle.shape_cli.proofs.trial.confirm.Goals as goal

pub unreachable-requires : goal.unreachable-requires
unreachable-requires g c =
    let left = ap (λ s. s.left Report) c.new-desk.ensures.state in
    no_verdict _ c.args.report.items _ 0 0 c.in-Ok-No.field-0-0 c.check_analysis.result left c.requires c.check_analysis.ensures.checked.answer
    (c.in-Ok-No.is ∙ ap (λ v. Ok v) c.in-Ok-No.field-0-is)
