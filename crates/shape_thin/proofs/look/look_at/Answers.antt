use Rattle.std.proofs.Common.{sym, subst}
use Rattle.shape_terms.proofs.Boxes.{raster_number-raster_point}
use Rattle.shape_queue.specs.Keys.{has}
use Rattle.shape_queue.specs.Ranks.{key_at}
use Rattle.shape_queue.specs.Waiting.{Put}
use Rattle.shape_thin.proofs.look.look_at.Goals as goal

pub returns-clause-looked : goal.returns-clause-looked
returns-clause-looked g c = (
  c.is_simple-simple.result,
  c.is_simple-simple.ensures.simple,
  subst (λ i. Put (has c.args.keys.now) (has c.settle.new.self) (key_at c.args.keys.now.distances i) c.is_simple-simple.result)
      (sym (raster_number-raster_point c.args.left.now.sides c.args.place c.requires.below)) c.settle.ensures.put,
)
