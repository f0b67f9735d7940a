use Rattle.drawing.specs.Canvas.{cells_at}
use Rattle.drawing.proofs.NearestLaws.{shows_one, shows_nearest, shows_none}
use Rattle.drawing.proofs.sheet_law.nearest_is_shown.Goals as goal

pub returns-clause-one : goal.returns-clause-one
returns-clause-one c = λ dabs q x e. shows_one (cells_at dabs q) x e

pub returns-clause-nearest : goal.returns-clause-nearest
returns-clause-nearest c = λ dabs q x e. shows_nearest (cells_at dabs q) x e

pub returns-clause-none : goal.returns-clause-none
returns-clause-none c = λ dabs q e. shows_none (cells_at dabs q) e
