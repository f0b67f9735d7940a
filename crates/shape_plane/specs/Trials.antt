-- One point tried in the growth of a patch.
-- The points left are a picture, and so are those that were tried and refused.
use Rattle.std.specs.Prelude.{◌≡◌, ◌≢◌, ◌⊎◌, ℕ, ◌≤◌, true, false, List, [], ◌∷◌, ◌++◌, map, take, length, IsTrue, AllPairs, Contains, slice_get, Some}
use Rattle.shape_terms.specs.Points.{Point, raster_number}
use Rattle.shape_terms.specs.Adjacency.{Near}
use Rattle.shape_terms.specs.Pictures.{Picture, at, with_value}
use Rattle.shape_terms.specs.Refutations.{Refutation}
use Rattle.shape_terms.specs.Patches.{Grows}
use Rattle.shape_refute.specs.Weights.{refutation_of}
use Rattle.shape_plane.specs.declared.refusals.Refused.{Refused}
use Rattle.shape_plane.specs.Verdicts.{IsRefuted}

-- a point that was refused when the patch had so many points, with its raster number and the weights
pub record Refusal : Type 0 where
  pub point : Point
  pub number : ℕ
  pub why : Refutation
  pub count : ℕ

-- the program's entry as such
abbrev pub refusal_of : {Q : Type 0} → (Q → Point) → Refused Q → Refusal
refusal_of f r = record { point = f r.point; number = r.number; why = refutation_of r.why; count = r.count }

-- the points of the patch, the points left, those tried in vain, and the refusals
pub record Spread : Type 0 where
  pub points : List Point
  pub left : Picture
  pub tried : Picture
  pub refused : List Refusal

-- these four together
abbrev pub spread_of : List Point → Picture → Picture → List Refusal → Spread
spread_of points left tried refused = record { points = points; left = left; tried = tried; refused = refused }

-- the point was taken
pub record IsTaken (old : Spread) (q : Point) (new : Spread) : Type 0 where
  pub points : new.points ≡ old.points ++ q ∷ []
  pub left : new.left ≡ with_value old.left q false
  pub tried : new.tried ≡ old.tried
  pub refused : new.refused ≡ old.refused

-- how a point is refused now
abbrev pub refusal_at : Spread → Point → Refutation → Refusal
refusal_at s q why = record { point = q; number = raster_number s.left.sides q; why = why; count = length s.points }

-- the point was refused with weights
pub record IsDeclined (d t : ℕ) (old : Spread) (q : Point) (new : Spread) : Type 0 where
  pub points : new.points ≡ old.points
  pub left : new.left ≡ old.left
  pub tried : new.tried ≡ with_value old.tried q true
  pub why : Refutation
  pub refused : new.refused ≡ old.refused ++ refusal_at old q why ∷ []
  pub weights : IsRefuted d t (old.points ++ q ∷ []) why

-- the point was taken, or refused
abbrev pub IsTried : ℕ → ℕ → Spread → Point → Spread → Type 0
IsTried d t old q new = IsTaken old q new ⊎ IsDeclined d t old q new

-- ---- what holds while the patch grows from the points that were left at its beginning

-- a refused point is left, is marked as tried, and is near a point of the patch; the weights refute the points of its time with it
pub record IsRefusal (d t : ℕ) (s : Spread) (r : Refusal) : Type 0 where
  pub left : IsTrue (at s.left r.point)
  pub marked : IsTrue (at s.tried r.point)
  pub number : r.number ≡ raster_number s.left.sides r.point
  pub early : r.count ≤ length s.points
  pub weights : IsRefuted d t (take r.count s.points ++ r.point ∷ []) r.why
  pub near : (p : Point) × Contains s.points p × Near r.point p

pub record IsSpreading (d t : ℕ) (first : Picture) (s : Spread) : Type 0 where
  pub left_sides : s.left.sides ≡ first.sides
  pub tried_sides : s.tried.sides ≡ first.sides
  pub left : (q : Point) → IsTrue (at s.left q) → IsTrue (at first q) × (Contains s.points q → ⊥)
  pub rest : (q : Point) → IsTrue (at first q) → IsTrue (at s.left q) ⊎ Contains s.points q
  pub taken : (q : Point) → Contains s.points q → IsTrue (at first q)
  pub once : AllPairs (λ p q. p ≡ q → ⊥) s.points
  pub grows : Grows s.points
  pub tried : (q : Point) → IsTrue (at s.tried q) → Contains (map (λ (r : Refusal). r.point) s.refused) q
  pub apart : AllPairs (λ (a b : Refusal). a.point ≢ b.point) s.refused
  pub refused : (k : ℕ) (r : Refusal) → slice_get s.refused k ≡ Some r → IsRefusal d t s r

-- the point was taken, or refused
abbrev pub IsSettled : Spread → Point → Type 0
IsSettled s q = IsTrue (at s.left q) → IsTrue (at s.tried q)

-- what was settled stays settled, and the points stay in their places
pub record IsLater (old new : Spread) : Type 0 where
  pub settled : (q : Point) → IsSettled old q → IsSettled new q
  pub more : List Point
  pub points : new.points ≡ old.points ++ more
