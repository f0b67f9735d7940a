-- Points of a box as the search keeps them, by raster number and coordinates, and how far two of them are apart.
-- Numbers alone stand here; nothing is searched.
use Rattle.std.specs.Prelude.{◌≡◌, ℕ, ◌+◌, ◌*◌, ◌<◌, ◌≤◌, List, length, pos, slice_index_or}
use Rattle.std.specs.Int.{abs_diff}
use Rattle.shape_terms.specs.Points.{box_count, coordinate, raster_point}
use Rattle.measure_terms.specs.Spacing.{Spacing}
use Rattle.measuring.specs.declared.site.Site.{Site}

-- the site is that of the point with its number
pub record IsSiteOf (sides : List ℕ) (s : Site) : Type 0 where
  pub below : s.number < box_count sides
  pub x : coordinate (raster_point sides s.number) 0 ≡ pos s.x
  pub y : coordinate (raster_point sides s.number) 1 ≡ pos s.y
  pub z : coordinate (raster_point sides s.number) 2 ≡ pos s.z

-- the square of how far two coordinates are apart, where a step along their axis is so long
abbrev pub squared_length : (side a b : ℕ) → ℕ
squared_length side a b = (side * abs_diff a b) * (side * abs_diff a b)

-- the squared distance of two sites within layers
abbrev pub flat_square : Spacing → Site → Site → ℕ
flat_square s p q = squared_length s.x p.x q.x + squared_length s.y p.y q.y

-- the squared distance of two sites
abbrev pub square_between : Spacing → Site → Site → ℕ
square_between s p q = flat_square s p q + squared_length s.z p.z q.z

-- ---- lists of sites

-- the site that stands past the end of a list
abbrev pub no_site : Site
no_site = record { number = 0; x = 0; y = 0; z = 0 }

abbrev pub site_at : List Site → ℕ → Site
site_at sites k = slice_index_or sites k no_site

-- the site is one of the list
pub record IsOneOf (sites : List Site) (p : Site) : Type 0 where
  pub place : ℕ
  pub within : place < length sites
  pub is : site_at sites place ≡ p

-- each site lies in no earlier layer than those before it
pub record AreLayered (sites : List Site) : Type 0 where
  pub rising : (i k : ℕ) → i ≤ k → k < length sites → (site_at sites i).z ≤ (site_at sites k).z

-- no site has a smaller number than those before it
pub record AreInOrderOfNumbers (sites : List Site) : Type 0 where
  pub rising : (i k : ℕ) → i ≤ k → k < length sites → (site_at sites i).number ≤ (site_at sites k).number

-- the sites are points of the box
pub record AreSitesOf (sides : List ℕ) (sites : List Site) : Type 0 where
  pub each : (k : ℕ) → k < length sites → IsSiteOf sides (site_at sites k)

-- from each point, either the site is one of the list, or one of the list is farther
pub record IsOutdone (s : Spacing) (sites : List Site) (p q : Site) : Type 0 where
  pub by : Site
  pub one : IsOneOf sites by
  pub farther : square_between s p q < square_between s by q
