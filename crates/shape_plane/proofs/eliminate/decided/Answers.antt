use Rattle.shape_plane.proofs.Narrowing.{not_less}
use Rattle.shape_plane.proofs.eliminate.decided.Goals as goal

pub excluded_by_two-requires-clause-full : goal.excluded_by_two-requires-clause-full
excluded_by_two-requires-clause-full c = not_less c.leaves_room.result _ _ c.leaves_room.ensures c.if-leaves_room.false
