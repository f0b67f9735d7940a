use Rattle.std.proofs.Common.{sym}
use Rattle.shape_queue.proofs.SpotLaws.{spots_long}
use Rattle.shape_queue.proofs.spots.Spots.len.Goals as goal

pub returns : goal.returns
returns c = sym (spots_long c.self.invariant c.self.view_is)
