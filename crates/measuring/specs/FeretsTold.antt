-- What the program's points and diameters mean: points of the plane or of space, and the Feret diameters of the definitions.
-- A further field is one more line here.
use Rattle.std.specs.Prelude.{ℕ, List, [], ◌∷◌, map, pos, take}
use Rattle.shape_space.specs.declared.point.P2.{P2}
use Rattle.shape_terms.specs.Points.{Point}
use Rattle.measure_terms.specs.Feret as Terms
use Rattle.measuring.specs.declared.spot.Spot.{Spot}
use Rattle.measuring.specs.declared.site.Site.{Site}
use Rattle.measuring.specs.declared.farthest.Feret.{Feret}

-- the coordinates of a point of the plane
abbrev pub flat : P2 → Point
flat p = p.x ∷ p.y ∷ []

-- the point of the plane that a spot is
abbrev pub spot_point : Spot → Point
spot_point p = pos p.x ∷ pos p.y ∷ []

-- the point of the space with d axes that a site is
abbrev pub point_of : ℕ → Site → Point
point_of d p = take d (pos p.x ∷ pos p.y ∷ pos p.z ∷ [])

abbrev pub feret_told : ℕ → Feret → Terms.Feret
feret_told d f = record { square = f.square; from = point_of d f.from; to = point_of d f.to }

abbrev pub ferets_told : ℕ → List Feret → List Terms.Feret
ferets_told d fs = map (feret_told d) fs
