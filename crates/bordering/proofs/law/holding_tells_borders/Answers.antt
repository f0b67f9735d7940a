use Rattle.report_terms.proofs.HoldsShows.{holds_shows}
use Rattle.measure_terms.proofs.BordersShown.{borders_shown, text_borders}
use Rattle.bordering.proofs.law.holding_tells_borders.Goals as goal

pub returns-clause-lines : goal.returns-clause-lines
returns-clause-lines c = borders_shown

pub returns-clause-text : goal.returns-clause-text
returns-clause-text c =
    λ X text flat holds. (let t = holds_shows X text holds in record { lines = t.lines; is = t.text_is; shows = text_borders X text flat t })
