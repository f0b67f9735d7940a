use Rattle.std.proofs.Common.{subst}
use Rattle.shape_analyse.specs.Finding.{AreFindingsOf}
use Rattle.shape_cli.specs.Parts.{findings_of}
use Rattle.shape_cli.proofs.analysis.Analysis.tally.Goals as goal

pub returns-in-Flat : goal.returns-in-Flat
returns-in-Flat c = λ X names rules which rule are there.
    c.tally.ensures X names rules which rule (subst (λ a. AreFindingsOf X names rules which (findings_of a)) c.in-Flat.is are) there

pub returns-in-Solid : goal.returns-in-Solid
returns-in-Solid c = λ X names rules which rule are there.
    c.tally-in-Solid.ensures X names rules which rule (subst (λ a. AreFindingsOf X names rules which (findings_of a)) c.in-Solid.is are) there
