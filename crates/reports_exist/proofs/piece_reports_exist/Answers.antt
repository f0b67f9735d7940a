use Rattle.reports_exist.proofs.PieceTexts.{pieces_met}
use Rattle.reports_exist.proofs.piece_reports_exist.Goals as goal

pub returns : goal.returns
returns c = pieces_met
