use Rattle.std.proofs.Common.{◌≡◌, length, map}
use Rattle.measuring.specs.MomentsTold.{all_told, ellipse_told}
use Rattle.measure_report.specs.MomentColumns.{AreEllipses}
use Rattle.measure_report.proofs.moment_columns.ellipses.Given as goal

abbrev pub invariant-loop-i : goal.invariant-loop-i
invariant-loop-i l = record {
  many : length l.found.items ≡ l.i;
  are : AreEllipses l.i (all_told l.all) (map ellipse_told l.found.items);
}
