use Rattle.std.proofs.Common.{◌≤◌, ◌^◌, unsigned_abs}
use Rattle.measure_terms.specs.Widths.{IsLeastSide}
use Rattle.measuring.specs.Corners.{corners}
use Rattle.measuring.specs.Narrower.{width_told}
use Rattle.measuring.proofs.width.least_width.Given as goal

abbrev pub invariant-loop-i : goal.invariant-loop-i
invariant-loop-i l = record {
  least : IsLeastSide (corners l.round) l.i (width_told l.least);
  across : unsigned_abs l.least.across ≤ 2 ^ 35;
  length : unsigned_abs l.least.length ≤ 2 ^ 35;
}
