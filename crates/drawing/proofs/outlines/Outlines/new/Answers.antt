use Rattle.std.proofs.Common.{[], refl, ap}
use Rattle.drawing.specs.Seen.{flats, all_strokes, all_stretches}
use Rattle.drawing.proofs.outlines.Outlines.new.Goals as goal

pub returns : goal.returns
returns c = λ sides. record {
  closed = [];
  last = [];
  groups = refl;
  strokes = ap all_strokes c.new.ensures.items;
  points = ap flats c.new-2.ensures.items;
  stretches = ap all_stretches c.new-3.ensures.items;
  none = λ e. (refl, refl);
}
