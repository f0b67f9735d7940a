use Rattle.std.proofs.Common.{◌≡◌, length, map}
use Rattle.measuring.specs.MomentsTold.{all_told}
use Rattle.draw_report.specs.Measured.{AreAxes}
use Rattle.draw_report.specs.MeasuresTold.{axes_told}
use Rattle.draw_report.proofs.axes.all_axes.Given as goal

abbrev pub invariant-loop-i : goal.invariant-loop-i
invariant-loop-i l = record {
  many : length l.found.items ≡ l.i;
  are : AreAxes l.i (all_told l.all) (map axes_told l.found.items);
}
