-- What is known of the best pair of sites while pairs are tried, and in the end.
-- Which pairs are tried is not told here.
use Rattle.std.specs.Prelude.{◌≡◌, ◌⊎◌, ℕ, ◌<◌, ◌≤◌, List, length, slice_index_or}
use Rattle.measure_terms.specs.Spacing.{Spacing}
use Rattle.measuring.specs.declared.site.Site.{Site}
use Rattle.measuring.specs.declared.stretch.Stretch.{Stretch}
use Rattle.measuring.specs.declared.stretch.Stretches.{Stretches}
use Rattle.measuring.specs.declared.farthest.Feret.{Feret}
use Rattle.measuring.specs.Sites.{IsSiteOf, flat_square, square_between, site_at, IsOneOf}
use Rattle.measuring.specs.Stretches.{stretch_at, IsInStretch, AreStretches}

-- ---- pairs

-- the pair has these two sites, the first in raster order first, and this square
pub record IsPairOf (p q : Site) (square : ℕ) (f : Feret) : Type 0 where
  pub square_is : f.square ≡ square
  pub ends : ((f.from ≡ p) × (f.to ≡ q)) ⊎ ((f.from ≡ q) × (f.to ≡ p))
  pub order : f.from.number ≤ f.to.number

-- a pair that is no less far apart than another comes before it
pub data ComesBefore (new best : Feret) : Type 0 where
  Farther : best.square < new.square → ComesBefore new best
  Earlier : new.from.number < best.from.number → ComesBefore new best
  Later : new.from.number ≡ best.from.number → best.to.number < new.to.number → ComesBefore new best

-- or it does not
pub record ComesBehind (new best : Feret) : Type 0 where
  pub square : new.square ≤ best.square
  pub from : best.from.number ≤ new.from.number
  pub to : new.from.number ≡ best.from.number → new.to.number ≤ best.to.number

-- two sites are no farther apart than the best pair, and where they are as far, they do not come before it
pub record IsNoBetter (s : Spacing) (f : Feret) (p q : Site) : Type 0 where
  pub most : square_between s p q ≤ f.square
  pub first : square_between s p q ≡ f.square → f.from.number ≤ p.number
  pub first_too : square_between s p q ≡ f.square → f.from.number ≤ q.number
  pub last : square_between s p q ≡ f.square → p.number ≡ f.from.number → q.number ≤ f.to.number
  pub last_too : square_between s p q ≡ f.square → q.number ≡ f.from.number → p.number ≤ f.to.number

-- what is no better than one pair is no better than another
abbrev pub AreKept : Spacing → (old new : Feret) → Type 0
AreKept s old new = (p q : Site) → IsNoBetter s old p q → IsNoBetter s new p q

-- the better of a pair of two sites and the best pair
pub record IsBetter (s : Spacing) (p q : Site) (old new : Feret) : Type 0 where
  pub tried : IsNoBetter s new p q
  pub kept : AreKept s old new
  pub is : (new ≡ old) ⊎ IsPairOf p q (square_between s p q) new

-- ---- lists of sites

-- two sites of a list, with their squared distance
pub record IsPairIn (s : Spacing) (sites : List Site) (f : Feret) : Type 0 where
  pub from : IsOneOf sites f.from
  pub to : IsOneOf sites f.to
  pub square : f.square ≡ square_between s f.from f.to

-- no two sites are farther apart within their layers than a length with this square
pub record IsAcross (s : Spacing) (sites : List Site) (across : ℕ) : Type 0 where
  pub most : (i k : ℕ) → i < length sites → k < length sites → flat_square s (site_at sites i) (site_at sites k) ≤ across

-- the first sites lie between these lines
pub record AreBetween (sites : List Site) (n left right top bottom : ℕ) : Type 0 where
  pub from_left : (k : ℕ) → k < n → left ≤ (site_at sites k).x
  pub from_right : (k : ℕ) → k < n → (site_at sites k).x ≤ right
  pub from_top : (k : ℕ) → k < n → top ≤ (site_at sites k).y
  pub from_bottom : (k : ℕ) → k < n → (site_at sites k).y ≤ bottom

-- the site with a place was tried with those from another place on
pub record IsTriedFrom (s : Spacing) (sites : List Site) (at from : ℕ) (f : Feret) : Type 0 where
  pub each : (k : ℕ) → from ≤ k → k < length sites → IsNoBetter s f (site_at sites at) (site_at sites k)

-- the best pair with those of the site with a place and the sites from it on
pub record IsBestWith (s : Spacing) (sites : List Site) (at from : ℕ) (old new : Feret) : Type 0 where
  pub tried : IsTriedFrom s sites at from new
  pub kept : AreKept s old new
  pub pair : IsPairIn s sites new

-- the best pair of those that begin before a place
pub record IsBest (s : Spacing) (sites : List Site) (n : ℕ) (f : Feret) : Type 0 where
  pub tried : (at : ℕ) → at < n → IsTriedFrom s sites at at f
  pub pair : IsPairIn s sites f

-- ---- in the end

-- two of the sites E at the greatest distance within R: the first in raster order that has one at that distance, and the last one at that distance from it
pub record IsFarthest (s : Spacing) (E R : Site → Type 0) (f : Feret) : Type 0 where
  pub from_in : E f.from
  pub to_in : E f.to
  pub distance : f.square ≡ square_between s f.from f.to
  pub greatest : (p q : Site) → R p → R q → square_between s p q ≤ f.square
  pub first : (p q : Site) → R p → R q → square_between s p q ≡ f.square → f.from.number ≤ p.number
  pub last : (q : Site) → R q → square_between s f.from q ≡ f.square → q.number ≤ f.to.number

-- the site is that of a number of some stretches
pub record IsWithin (sides : List ℕ) (ss : List Stretch) (p : Site) : Type 0 where
  pub site : IsSiteOf sides p
  pub place : ℕ
  pub stretch : IsInStretch ss place p.number

-- the site is that of the first or the last number of a stretch
pub record IsEnd (sides : List ℕ) (ss : List Stretch) (p : Site) : Type 0 where
  pub site : IsSiteOf sides p
  pub place : ℕ
  pub within : place < length ss
  pub one : (p.number ≡ (stretch_at ss place).first) ⊎ (p.number ≡ (stretch_at ss place).last)

-- the numbers of the stretches are those of points of a box
pub record AreBelow (count : ℕ) (ss : List Stretch) : Type 0 where
  pub each : (k : ℕ) → k < length ss → (stretch_at ss k).last < count

-- of each of the first n objects the two farthest points, where it has a stretch
pub record HaveFarthest (s : Spacing) (sides : List ℕ) (all : List Stretches) (n : ℕ) (fs : List Feret) : Type 0 where
  pub count : length fs ≡ n
  pub each : (k : ℕ) (o : Stretches) (f : Feret) → k < n → 1 ≤ length (slice_index_or all k o).all.items
      → IsFarthest s (IsEnd sides (slice_index_or all k o).all.items) (IsWithin sides (slice_index_or all k o).all.items) (slice_index_or fs k f)

-- the stretches of each object, in a box with such lines and so many points
pub record AreObjects (width count : ℕ) (all : List Stretches) : Type 0 where
  pub order : (k : ℕ) (o : Stretches) → k < length all → AreStretches width (slice_index_or all k o).all.items
  pub below : (k : ℕ) (o : Stretches) → k < length all → AreBelow count (slice_index_or all k o).all.items
