-- The exposed points of a face, patch by patch.
-- In which order a patch grows belongs elsewhere.
use Rattle.std.specs.Prelude.{◌≡◌, ◌⊎◌, ◌↔◌, ℕ, suc, ◌<◌, ◌≤◌, List, [], ◌∷◌, ◌++◌, map, take, drop, slice_get, Some, IsTrue, AllPairs, Contains}
use Rattle.shape_terms.specs.Points.{Point, box_count, raster_number}
use Rattle.shape_terms.specs.Adjacency.{Near}
use Rattle.shape_terms.specs.Steps.{Before}
use Rattle.shape_terms.specs.Pictures.{Picture, at}
use Rattle.shape_terms.specs.Naive.{IsNaiveFor}
use Rattle.shape_terms.specs.Refutations.{Refutes}
use Rattle.shape_terms.specs.Patches.{Patch, RefusedPoint, FoundPatch, Grows, points_of}

-- a patch among the points of a face, after the patches before it
pub record IsPart (t : ℕ) (face : Point → Type 0) (before : List Patch) (x : Patch) : Type 0 where
  pub start : Point
  pub first : slice_get x.points 0 ≡ Some start
  pub there : face start
  pub fresh : Contains (points_of before) start → ⊥
  pub least : (q : Point) → face q → Before q start → Contains (points_of before) q
  pub grows : Grows x.points
  pub plane : IsNaiveFor t x.points x.plane

-- the patches found so far, and the points that are left
pub record IsParting (t : ℕ) (face : Point → Type 0) (parts : List Patch) (left : Picture) : Type 0 where
  pub free : (q : Point) → IsTrue (at left q) → face q × (Contains (points_of parts) q → ⊥)
  pub rest : (q : Point) → face q → IsTrue (at left q) ⊎ Contains (points_of parts) q
  pub taken : (q : Point) → Contains (points_of parts) q → face q
  pub once : AllPairs (λ p q. p ≡ q → ⊥) (points_of parts)
  pub part : (k : ℕ) (x : Patch) → slice_get parts k ≡ Some x → IsPart t face (take k parts) x

-- the refused points are, once and in raster order, the later points that are Near a point of the patch, each with weights that refute the patch with it put
-- last
pub record AreRefusedOf (d t : ℕ) (patch : Patch) (later : Point → Type 0) (refused : List RefusedPoint) : Type 0 where
  pub rising : AllPairs (λ (a b : RefusedPoint). Before a.point b.point) refused
  pub each : (q : Point) → Contains (map (λ (r : RefusedPoint). r.point) refused) q ↔ (later q × ((p : Point) × Contains patch.points p × Near q p))
  pub weights : (k : ℕ) (r : RefusedPoint) → slice_get refused k ≡ Some r → Refutes d t (patch.points ++ r.point ∷ []) r.why

-- the patches without their refused points
abbrev pub patches_of : List FoundPatch → List Patch
patches_of found = map (λ (x : FoundPatch). x.patch) found

-- the point is left, or is one of these patches
abbrev pub IsLaterPoint : Picture → List Patch → Point → Type 0
IsLaterPoint left after q = IsTrue (at left q) ⊎ Contains (points_of after) q

-- each patch has its refused points among the points that neither it nor a patch before it has
pub record IsRefusing (d t : ℕ) (found : List FoundPatch) (left : Picture) : Type 0 where
  pub each : (k : ℕ) (x : FoundPatch) → slice_get found k ≡ Some x → AreRefusedOf d t x.patch (IsLaterPoint left (patches_of (drop (suc k) found))) x.refused

-- what a patch that has grown from the points that were left is
pub record IsNewPart (t : ℕ) (left left' : Picture) (x : Patch) : Type 0 where
  pub free : (q : Point) → IsTrue (at left' q) → IsTrue (at left q) × (Contains x.points q → ⊥)
  pub rest : (q : Point) → IsTrue (at left q) → IsTrue (at left' q) ⊎ Contains x.points q
  pub taken : (q : Point) → Contains x.points q → IsTrue (at left q)
  pub once : AllPairs (λ p q. p ≡ q → ⊥) x.points
  pub start : Point
  pub first : slice_get x.points 0 ≡ Some start
  pub there : IsTrue (at left start)
  pub least : (q : Point) → IsTrue (at left q) → Before q start → ⊥
  pub grows : Grows x.points
  pub plane : IsNaiveFor t x.points x.plane

-- the next patch, with the points that it refused among those that are left after it
pub record IsNextPatch (d t : ℕ) (left left' : Picture) (x : FoundPatch) : Type 0 where
  pub sides : left'.sides ≡ left.sides
  pub part : IsNewPart t left left' x.patch
  pub refused : AreRefusedOf d t x.patch (λ q. IsTrue (at left' q)) x.refused

-- the points of the first picture fall into the patches found so far, each with its refused points, and those that are left
pub record IsParted (d t : ℕ) (first : Picture) (found : List FoundPatch) (left : Picture) : Type 0 where
  pub sides : left.sides ≡ first.sides
  pub parting : IsParting t (λ q. IsTrue (at first q)) (patches_of found) left
  pub refusing : IsRefusing d t found left

-- no point is left
abbrev pub IsEmpty : Picture → Type 0
IsEmpty left = (q : Point) → IsTrue (at left q) → ⊥

-- ---- the points that are left, as the program keeps them

-- the axis of a face, and its points that no patch has yet
pub record Rest : Type 0 where
  pub axis : ℕ
  pub left : Picture

-- no point with a raster number below i is left
abbrev pub IsPast : Picture → ℕ → Type 0
IsPast left i = (q : Point) → IsTrue (at left q) → i ≤ raster_number left.sides q

-- a patch can grow from the first point left: the three boxes have the same sides, no point is marked as tried, and none with a raster number below i is left
pub record IsReady (d t : ℕ) (left tried : Picture) (near : List ℕ) (i : ℕ) : Type 0 where
  pub axis : t < d
  pub tried_sides : tried.sides ≡ left.sides
  pub near_sides : near ≡ left.sides
  pub none : IsEmpty tried
  pub within : i ≤ box_count left.sides
  pub past : IsPast left i
