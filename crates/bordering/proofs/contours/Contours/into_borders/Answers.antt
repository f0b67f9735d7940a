use Rattle.std.proofs.Common.{ap, ◌∙◌}
use Rattle.bordering.specs.Kept.{Kept}
use Rattle.bordering.proofs.Keeping.{closed_borders}
use Rattle.bordering.proofs.contours.Contours.into_borders.Goals as goal

pub returns : goal.returns
returns c = λ lines h. ap (λ (k : Kept). k.borders) (c.self.view_is ∙ c.in_ok-close.ensures) ∙ closed_borders lines c.args.self h
