-- What is known of the vertices of the layers of an object while they are found.
-- Sites and corners alone.
use Rattle.std.specs.Prelude.{◌≡◌, ◌⊎◌, ℕ, ◌+◌, ◌<◌, ◌≤◌, List, length, pos}
use Rattle.measure_terms.specs.Hulls.{Corner, vertex}
use Rattle.measure_terms.specs.Spacing.{Spacing, IsSpacing}
use Rattle.measuring.specs.declared.site.Site.{Site}
use Rattle.measuring.specs.declared.stretch.Stretch.{Stretch}
use Rattle.measuring.specs.Sites.{IsSiteOf, AreSitesOf, site_at, IsOneOf, AreLayered, AreInOrderOfNumbers, IsOutdone}
use Rattle.measuring.specs.Stretches.{stretch_at}
use Rattle.measuring.specs.Farthest.{IsEnd, IsWithin}

-- the corner with the first two coordinates of a site
abbrev pub corner_of : Site → Corner
corner_of p = record { x = pos p.x; y = pos p.y }

-- a site in the layer of another, at a corner
pub record IsBeside (sides : List ℕ) (site : Site) (c : Corner) (q : Site) : Type 0 where
  pub is : IsSiteOf sides q
  pub corner : corner_of q ≡ c
  pub layer : q.z ≡ site.z

-- the sites are points of the box in the order of their numbers
pub record AreSitesInOrder (sides : List ℕ) (sites : List Site) : Type 0 where
  pub points : AreSitesOf sides sites
  pub order : AreInOrderOfNumbers sites

-- the sites are those of the ends of the first n stretches, in the order of their numbers
pub record AreEnds (sides : List ℕ) (ss : List Stretch) (n : ℕ) (sites : List Site) : Type 0 where
  pub points : AreSitesOf sides sites
  pub of : (p : Site) → IsOneOf sites p → IsEnd sides ss p
  pub first : (k : ℕ) → k < n → (p : Site) × IsOneOf sites p × (p.number ≡ (stretch_at ss k).first)
  pub last : (k : ℕ) → k < n → (p : Site) × IsOneOf sites p × (p.number ≡ (stretch_at ss k).last)
  pub order : AreInOrderOfNumbers sites
  pub until : (k j : ℕ) → k < length sites → n ≤ j → j < length ss → (site_at sites k).number < (stretch_at ss j).first

-- all sites lie in one layer, and are in the order of their numbers
pub record IsLayer (sides : List ℕ) (z : ℕ) (sites : List Site) : Type 0 where
  pub points : AreSitesOf sides sites
  pub order : AreInOrderOfNumbers sites
  pub layer : (k : ℕ) → k < length sites → (site_at sites k).z ≡ z

-- no site lies behind a layer
pub record AreUpTo (z : ℕ) (sites : List Site) : Type 0 where
  pub each : (k : ℕ) → k < length sites → (site_at sites k).z ≤ z

-- of two lists the first, with the sites of a layer at the first n vertices of a round behind it
pub record AreVerticesPut (layer : List Site) (round : List Corner) (n : ℕ) (old new : List Site) : Type 0 where
  pub kept : (p : Site) → IsOneOf old p → IsOneOf new p
  pub of : (p : Site) → IsOneOf new p → IsOneOf old p ⊎ IsOneOf layer p
  pub put : (j : ℕ) → j < n → (p : Site) → IsOneOf layer p → corner_of p ≡ vertex round j → IsOneOf new p
  pub layered : (z : ℕ) → ((k : ℕ) → k < length layer → (site_at layer k).z ≡ z) → AreLayered old → AreUpTo z old → AreLayered new × AreUpTo z new
  pub many : length new ≡ length old + n

-- of two lists the first, with enough sites of a layer behind it: each of the layer is there, or outdone from each point by one that is
pub record IsLayerPut (layer old new : List Site) : Type 0 where
  pub kept : (p : Site) → IsOneOf old p → IsOneOf new p
  pub of : (p : Site) → IsOneOf new p → IsOneOf old p ⊎ IsOneOf layer p
  pub enough : (s : Spacing) → IsSpacing s → (p q : Site) → IsOneOf layer p → IsOneOf new p ⊎ IsOutdone s new p q
  pub layered : (z : ℕ) → ((k : ℕ) → k < length layer → (site_at layer k).z ≡ z) → AreLayered old → AreUpTo z old → AreLayered new × AreUpTo z new
  pub more : length old < length new

-- the sites are some of the first n of a list, and each of these is one of them, or outdone from each point by one of them
pub record AreEnough (ends : List Site) (n : ℕ) (sites : List Site) : Type 0 where
  pub of : (p : Site) → IsOneOf sites p → IsOneOf ends p
  pub enough : (s : Spacing) → IsSpacing s → (k : ℕ) (q : Site) → k < n → k < length ends
      → IsOneOf sites (site_at ends k) ⊎ IsOutdone s sites (site_at ends k) q
  pub layered : AreLayered sites
  pub until : (i k : ℕ) → i < length sites → n ≤ k → k < length ends → (site_at sites i).z ≤ (site_at ends k).z
  pub some : 0 < n → 1 ≤ length sites

-- the sites are ends of stretches of an object, and each site of it is one of them, or outdone from each point by one of them
pub record AreVertices (sides : List ℕ) (ss : List Stretch) (sites : List Site) : Type 0 where
  pub of : (p : Site) → IsOneOf sites p → IsEnd sides ss p
  pub enough : (s : Spacing) → IsSpacing s → (p q : Site) → IsWithin sides ss p → IsOneOf sites p ⊎ IsOutdone s sites p q
  pub layered : AreLayered sites
  pub some : 1 ≤ length ss → 1 ≤ length sites
