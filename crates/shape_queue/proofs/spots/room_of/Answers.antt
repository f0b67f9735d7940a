use Rattle.std.proofs.Common.{refl}
use Rattle.shape_queue.specs.Bands.{band_room}
use Rattle.shape_queue.proofs.spots.room_of.Goals as goal

pub returns-in-None : goal.returns-in-None
unfolding band_room
returns-in-None c = rw c.in-None.is refl
