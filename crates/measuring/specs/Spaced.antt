-- What the program's spacing tells: that of the definitions.
-- A further field is one more line here.
use Rattle.std.specs.Prelude.{Option, Some, None}
use Rattle.measure_terms.specs.Spacing as Terms
use Rattle.measuring.specs.declared.spacing.Spacing.{Spacing}

abbrev pub spacing_told : Spacing → Terms.Spacing
spacing_told s = record { x = s.x; y = s.y; z = s.z }

-- that of a spacing where there is one, and else that of cubes
abbrev pub told_or_unit : Option Spacing → Terms.Spacing
told_or_unit None = Terms.unit_spacing
told_or_unit (Some s) = spacing_told s
