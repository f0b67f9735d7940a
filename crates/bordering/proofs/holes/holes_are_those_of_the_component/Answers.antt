use Rattle.measure_terms.proofs.HolesShown.{holes_shown}
use Rattle.bordering.proofs.holes.holes_are_those_of_the_component.Goals as goal

pub returns : goal.returns
returns c = holes_shown
