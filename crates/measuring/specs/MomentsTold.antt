-- What the program's moments and ellipses tell: those of the definitions.
-- A further field is one more line here.
use Rattle.std.specs.Prelude.{List, map}
use Rattle.measure_terms.specs.Moments as Terms
use Rattle.measure_terms.specs.Ellipse as Ellipses
use Rattle.measuring.specs.declared.moments.Moments.{Moments}
use Rattle.measuring.specs.declared.axes.Ellipse.{Ellipse}
use Rattle.measuring.specs.declared.axis_turn.Turn.{Turn}
use Rattle.measuring.specs.Turns as Turns

abbrev pub moments_told : Moments → Terms.Moments
moments_told m = record { count = m.count; x = m.x; y = m.y; z = m.z; xx = m.xx; xy = m.xy; yy = m.yy; xz = m.xz; yz = m.yz; zz = m.zz }

abbrev pub all_told : List Moments → List Terms.Moments
all_told ms = map moments_told ms

abbrev pub ellipse_told : Ellipse → Ellipses.Ellipse
ellipse_told e = record { major = e.major; minor = e.minor; double_x = e.double_x; double_y = e.double_y }

abbrev pub turn_told : Turn → Turns.Turn
turn_told t = record { cosine = t.cosine; sine = t.sine }
