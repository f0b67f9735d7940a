use Rattle.std.proofs.Common.{subst}
use Rattle.shape_plane.specs.Ranges.{HasWhole}
use Rattle.shape_plane.proofs.Knowing.{narrowed_whole}
use Rattle.shape_plane.proofs.known.narrowed.Goals as goal

pub returns-in-Room : goal.returns-in-Room
returns-in-Room c = narrowed_whole c.args.rows.now c.in-Room.r c.cleared.result c.args.j
    (subst (HasWhole c.args.rows.now c.args.j) c.in-Room.is c.requires.before) c.cleared.ensures
