-- Patches one after another, each after the points of those before it, make a partition once all exposed points are theirs.
-- Laws over lists of patches; how the lines of a report give them belongs elsewhere.
use Rattle.std.proofs.Common.{◌≡◌, ℕ, zero, suc, refl, ap, sym, ◌∙◌, subst, List, [], ◌∷◌, ◌++◌, length, take, drop, Some}
use Rattle.std.specs.Prelude.{◌≢◌, AllPairs, Contains, slice_get}
use Rattle.std.proofs.lemmas.List.{append-nil, append_assoc, take-append-drop}
use Rattle.std.proofs.lemmas.List.Concat.{flat_map-append}
use Rattle.std.proofs.lemmas.List.Elements.{Contains-append_right}
use Rattle.shape_terms.specs.Points.{Point}
use Rattle.shape_terms.specs.Adjacency.{Near}
use Rattle.shape_terms.specs.Pictures.{Picture}
use Rattle.shape_terms.specs.Naive.{IsNaiveFor}
use Rattle.shape_terms.specs.Refutations.{Refutation, Refutes}
use Rattle.shape_terms.specs.Patches.{Sense, exposed_points, IsFirstLeft, Patch, Grows, points_of, IsPartition}
use Rattle.shape_terms.proofs.PointLists.{across, all_there}

-- a patch among the exposed points, after the points of those before it: it begins at the first point left, grows, lies in its plane,
-- and refuses each exposed point that is left and Near one of its points
pub record IsFullPatch (d t : ℕ) (exposed before : List Point) (patch : Patch) : Type 0 where
  pub first : (p : Point) × (slice_get patch.points 0 ≡ Some p) × IsFirstLeft exposed before p
  pub grows : Grows patch.points
  pub plane : IsNaiveFor t patch.points patch.plane
  pub left : (q : Point) → Contains exposed q → (Contains (before ++ patch.points) q → ⊥) → (p : Point) → Contains patch.points p → Near q p
      → (why : Refutation) × Refutes d t (patch.points ++ q ∷ []) why

-- each patch is full after those before it
abbrev pub AreFullPatches : ℕ → ℕ → List Point → List Patch → Type 0
AreFullPatches d t exposed patches = (k : ℕ) (x : Patch) → slice_get patches k ≡ Some x → IsFullPatch d t exposed (points_of (take k patches)) x

-- ---- the points of patches

pub points_of-push : (patches : List Patch) (x : Patch) → points_of (patches ++ x ∷ []) ≡ points_of patches ++ x.points
points_of-push patches x = flat_map-append (λ (y : Patch). y.points) patches (x ∷ []) ∙ ap (λ l. points_of patches ++ l) (append-nil x.points)

pub points_to : (patches : List Patch) (k : ℕ) (x : Patch) → slice_get patches k ≡ Some x
    → points_of (take (suc k) patches) ≡ points_of (take k patches) ++ x.points
points_to [] k x e = cc
points_to (y ∷ patches) zero x e = let h : y ≡ x = cc in append-nil y.points ∙ ap (λ (z : Patch). z.points) h
points_to (y ∷ patches) (suc k) x e = ap (λ l. y.points ++ l) (points_to patches k x e) ∙ sym (append_assoc y.points (points_of (take k patches)) x.points)

pub points_split : (patches : List Patch) (k : ℕ) → points_of patches ≡ points_of (take k patches) ++ points_of (drop k patches)
points_split patches k = ap points_of (sym (take-append-drop k patches)) ∙ flat_map-append (λ (y : Patch). y.points) (take k patches) (drop k patches)

-- ---- the partition

pub partition_of : (d : ℕ) (X : Picture) (t : ℕ) (sense : Sense) (patches : List Patch) → AreFullPatches d t (exposed_points X t sense) patches
    → AllPairs (λ p q. p ≢ q) (points_of patches)
    → ((p : Point) → Contains (points_of patches) p → Contains (exposed_points X t sense) p) → length (points_of patches) ≡ length (exposed_points X t sense)
    → IsPartition d X t sense patches
partition_of d X t sense patches full once within all = record {
  once = once;
  all = λ p. (all_there (points_of patches) (exposed_points X t sense) once within all p, within p);
  patch = λ k x e.
      let f = full k x e in
      record {
        first = f.first;
        grows = f.grows;
        plane = f.plane;
        refused = λ q c p m n.
            let parts = points_split patches (suc k) in
            let here = subst (λ l. Contains l q) (sym parts) (Contains-append_right (points_of (take (suc k) patches)) (points_of (drop (suc k) patches)) q c)
            in
            f.left q (within q here)
            (λ b. across (λ a b. a ≢ b) (points_of (take (suc k) patches)) (points_of (drop (suc k) patches)) q q
            (subst (AllPairs (λ a b. a ≢ b)) parts once) (subst (λ l. Contains l q) (sym (points_to patches k x e)) b) c refl) p m n;
      };
}
