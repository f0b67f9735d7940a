use Rattle.std.proofs.Common.{◌≡◌, ◌-◌, ◌<◌, false}
use Rattle.std.specs.Prelude.{count_by}
use Rattle.std.specs.List.{range_with_len, list_any}
use Rattle.measuring.specs.Spaced.{spacing_told}
use Rattle.measuring.specs.Fan.{direction_told}
use Rattle.measuring.proofs.Portions.{nearer, as_near}
use Rattle.measuring.proofs.nearest.portion.Given as goal

abbrev pub invariant-loop-other_class : goal.invariant-loop-other_class
invariant-loop-other_class l = record {
  none : list_any (nearer (spacing_told l.spacing) l.class (direction_told l.u)) (range_with_len 1 (l.other_class - 1)) ≡ false;
  count : l.as_near ≡ count_by (as_near (spacing_told l.spacing) l.class (direction_told l.u)) (range_with_len 1 (l.other_class - 1));
  few : l.as_near < l.other_class;
}
