use Rattle.shape_terms.proofs.ContourCovers.{covers}
use Rattle.shape_line.proofs.cover_law.gaps_prove_the_cover.Goals as goal

pub returns : goal.returns
returns c = covers
