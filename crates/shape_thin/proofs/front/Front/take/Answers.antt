use Rattle.std.proofs.Common.{refl, ◌∙◌}
use Rattle.shape_topo.proofs.Cleared.{cleared_is}
use Rattle.shape_queue.specs.Keys.{has}
use Rattle.shape_queue.proofs.WaitingSteps.{popped}
use Rattle.shape_thin.specs.Standing.{key_of}
use Rattle.shape_thin.proofs.front.Front.take.Goals as goal

pub returns : goal.returns
returns g c = record {
  put = popped c.pop.result _ (has c.args.self.now.keys) (has c.pop.new.self) c.pop.ensures.there c.pop.ensures.least c.pop.ensures.taken
      (key_of c.args.next.now) c.requires.there c.requires.least;
  distances = c.pop.ensures.distances;
  reached = c.clear_number.ensures ∙ cleared_is c.args.self.now.reached c.args.next.now.place c.requires.inside;
  passed = refl;
  ahead = refl;
}
