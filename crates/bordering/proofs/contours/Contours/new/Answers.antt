use Rattle.std.proofs.Common.{[], refl, ap}
use Rattle.bordering.specs.Told.{flats, runs_told, all_borders}
use Rattle.bordering.proofs.contours.Contours.new.Goals as goal

pub returns : goal.returns
returns c = record {
  closed = [];
  last = [];
  groups = refl;
  borders = ap all_borders c.new.ensures.items;
  begun = refl;
  points = ap flats c.new-2.ensures.items;
  runs = ap runs_told c.new-3.ensures.items;
  none = λ e. (refl, refl);
}
