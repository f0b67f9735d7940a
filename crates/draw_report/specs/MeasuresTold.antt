-- What the program's axes and lists of measures tell: those of the definitions.
-- A further kind is one more line here.
use Rattle.std.specs.Prelude.{List, map}
use Rattle.measuring.specs.MomentsTold.{all_told, ellipse_told, turn_told}
use Rattle.measuring.specs.FeretsTold.{ferets_told}
use Rattle.measuring.specs.Sizes.{hulls_told}
use Rattle.draw_report.specs.MeasureLines as Lines
use Rattle.draw_report.specs.Measured as Terms
use Rattle.draw_report.specs.declared.axes.Axes.{Axes}
use Rattle.draw_report.specs.declared.measured.Measured.{Measured}

abbrev pub axes_told : Axes → Lines.Axes
axes_told a = record { ellipse = ellipse_told a.ellipse; turn = turn_told a.turn }

abbrev pub all_axes : List Axes → List Lines.Axes
all_axes xs = map axes_told xs

abbrev pub measured_told : Measured → Terms.Measured
measured_told m = record {
  moments = all_told m.moments.items;
  axes = all_axes m.axes.items;
  ferets = ferets_told 2 m.ferets.items;
  hulls = hulls_told m.hulls.items;
}
