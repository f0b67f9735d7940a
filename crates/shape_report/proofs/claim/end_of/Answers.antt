use Rattle.shape_report.proofs.Claims.{ends}
use Rattle.shape_report.proofs.claim.end_of.Goals as goal

pub returns : goal.returns
returns c = ends c.args.words.now c.end.result c.end.ensures
