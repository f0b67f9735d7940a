-- What the program's numbers mean: those of the definitions.
-- A further field is one more line here.
use Rattle.std.specs.Prelude.{List, map}
use Rattle.measure_terms.specs.Minkowski as Terms
use Rattle.measuring.specs.declared.numbers.Minkowski.{Minkowski}

abbrev pub told : Minkowski → Terms.Minkowski
told m = record { euler = m.euler; x = m.x; y = m.y; z = m.z; xy = m.xy; xz = m.xz; yz = m.yz; xyz = m.xyz }

abbrev pub all_told : List Minkowski → List Terms.Minkowski
all_told ms = map told ms
