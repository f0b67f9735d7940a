use Rattle.piece_terms.proofs.HoldsShows.{holds_shows}
use Rattle.judge_pieces.proofs.law.pieces_holding_shows.Goals as goal

pub returns : goal.returns
returns c = holds_shows
