use Rattle.std.proofs.Common.{subst}
use Rattle.shape_analyse.specs.Finding.{AreFindingsOf}
use Rattle.shape_cli.specs.Parts.{findings_of}
use Rattle.shape_cli.proofs.analysis.Analysis.tell.Goals as goal

pub returns-in-Flat : goal.returns-in-Flat
returns-in-Flat g c = λ X names rules which name begun are there start.
    c.tell.ensures X names rules which name begun (subst (λ a. AreFindingsOf X names rules which (findings_of a)) c.in-Flat.is are) there start

pub returns-in-Solid : goal.returns-in-Solid
returns-in-Solid g c = λ X names rules which name begun are there start.
    c.tell-in-Solid.ensures X names rules which name begun (subst (λ a. AreFindingsOf X names rules which (findings_of a)) c.in-Solid.is are) there start
