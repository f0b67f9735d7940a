use Rattle.std.proofs.Common.{◌≡◌, map, take}
use Rattle.measure_terms.specs.SpacedSurface.{spaced_surface}
use Rattle.measuring.specs.Spaced.{spacing_told}
use Rattle.measuring.specs.MinkowskiTold.{told}
use Rattle.measuring.proofs.spaced.spaced_surfaces.Given as goal

abbrev pub invariant-loop-i : goal.invariant-loop-i
invariant-loop-i l = l.surfaces.items ≡ map (λ m. spaced_surface (spacing_told l.spacing) (told m)) (take l.i l.numbers)
