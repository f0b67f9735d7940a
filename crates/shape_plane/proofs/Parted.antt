-- The points of a face, parted into the patches that were taken and the points that are left.
-- How a patch grows stands elsewhere.
use Rattle.std.proofs.Common.{◌≡◌, ℕ, zero, suc, ◌<◌, ◌⊎◌, inl, inr, List, [], ◌∷◌, ◌++◌, length, take, drop, refl, sym, subst, ◌∙◌, arith}
use Rattle.std.specs.Prelude.{◌≢◌, IsTrue, Contains, ◌↔◌, slice_get, Some}
use Rattle.std.proofs.lemmas.List.{drop-map}
use Rattle.shape_terms.specs.Points.{Point}
use Rattle.shape_terms.specs.Adjacency.{Near}
use Rattle.shape_terms.specs.Pictures.{Picture, at, object_points}
use Rattle.shape_terms.specs.Refutations.{Refutation, Refutes}
use Rattle.shape_terms.proofs.SameCycles.{in_cases}
use Rattle.shape_terms.proofs.Found.{pairs-cons, All-each}
use Rattle.shape_terms.specs.Patches.{Patch, FoundPatch, RefusedPoint, Sense, exposed_points, points_of, IsPatch, AreRefused, ArePatches}
use Rattle.shape_terms.proofs.PointLists.{no_more}
use Rattle.shape_plane.specs.Faces.{IsFace}
use Rattle.shape_plane.specs.Parting.{IsEmpty, IsParted, IsParting, IsNextPatch, IsLaterPoint, AreRefusedOf, patches_of}
use Rattle.shape_plane.proofs.Exposing.{face_points, object_there, object_only, objects_distinct}
use Rattle.shape_plane.proofs.Spreading.{got}
use Rattle.shape_plane.proofs.Partings.{parting_more}
use Rattle.shape_plane.proofs.Refusing.{refusing_more, patches_more, mapped_from, place_of}

-- no patch was taken
pub parted_none : (d t : ℕ) (first : Picture) → IsParted d t first [] first
parted_none d t first = record {
  sides = refl;
  parting = record {
    free = λ q a. (a, λ c. nothing q c);
    rest = λ q a. inl a;
    taken = λ q c. absurd (nothing q c);
    once = λ i j x l m. absurd (omega (arith, l, m));
    part = λ k x e. cc;
  };
  refusing = record { each = λ k x e. cc };
}
  where
    nothing : (q : Point) → Contains [] q → ⊥
    nothing q c = let l = c.1 in omega (arith, l)

-- one patch more was taken
pub parted_more : (d t : ℕ) (first : Picture) (found : List FoundPatch) (left left' : Picture) (x : FoundPatch) → IsParted d t first found left
    → IsNextPatch d t left left' x → IsParted d t first (found ++ x ∷ []) left'
parted_more d t first found left left' x h n = record {
  sides = n.sides ∙ h.sides;
  parting = subst (λ (z : List Patch). IsParting t (λ q. IsTrue (at first q)) z left') (sym (patches_more found x))
      (parting_more t (λ q. IsTrue (at first q)) (patches_of found) left left' x.patch h.parting n.part);
  refusing = refusing_more d t found left left' x h.refusing n.part n.refused;
}

-- fewer points are left after a patch than before
pub fewer_left : (d t : ℕ) (left left' : Picture) (x : FoundPatch) → IsNextPatch d t left left' x → length (object_points left') < length (object_points left)
fewer_left d t left left' x n = no_more (n.part.start ∷ object_points left') (object_points left)
    (pairs-cons (λ p q. p ≢ q) n.part.start (object_points left')
    (All-each (λ q. n.part.start ≢ q) (object_points left') (λ q c e. out (subst (Contains (object_points left')) (sym e) c))) (objects_distinct left'))
    (λ q c. object_there left q (there q (in_cases n.part.start (object_points left') q c)))
  where
    out : Contains (object_points left') n.part.start → ⊥
    out c = (n.part.free n.part.start (object_only left' n.part.start c)).1 (got x.patch.points 0 n.part.start n.part.first)

    there : (q : Point) → (n.part.start ≡ q) ⊎ Contains (object_points left') q → IsTrue (at left q)
    there q (inl e) = subst (λ (z : Point). IsTrue (at left z)) e n.part.there
    there q (inr c) = (n.part.free q (object_only left' q c)).0

-- ---- the partition

-- once no point is left, the refused points are among those of later patches
refused_among : (d t : ℕ) (x : Patch) (left : Picture) (after : List Patch) (refused : List RefusedPoint) → IsEmpty left
    → AreRefusedOf d t x (IsLaterPoint left after) refused → AreRefused d t x after refused
refused_among d t x left after refused none h = record {
  rising = h.rising;
  each = λ q. (λ c. (let a = (h.each q).0 c in (inside q a.0, a.1)), λ a. (h.each q).1 (inr a.0, a.1));
  weights = h.weights;
}
  where
    inside : (q : Point) → IsLaterPoint left after q → Contains (points_of after) q
    inside q (inl a) = absurd (none q a)
    inside q (inr c) = c

-- a point of a later patch near this one is refused
refused_by : (d t : ℕ) (x : Patch) (after : List Patch) (refused : List RefusedPoint) → AreRefused d t x after refused → (q : Point)
    → Contains (points_of after) q → (p : Point) → Contains x.points p → Near q p → (why : Refutation) × Refutes d t (x.points ++ q ∷ []) why
refused_by d t x after refused h q c p m near =
    let a = mapped_from (λ (r : RefusedPoint). r.point) refused q ((h.each q).1 (c, (p, m, near))) in
    let k = place_of refused a.0 a.1 in
    (a.0.why, subst (λ (z : Point). Refutes d t (x.points ++ z ∷ []) a.0.why) a.2 (h.weights k.0 a.0 k.1))

got_patch : (found : List FoundPatch) (k : ℕ) (x : Patch) → slice_get (patches_of found) k ≡ Some x → (y : FoundPatch) × (slice_get found k ≡ Some y)
    × (y.patch ≡ x)
got_patch [] k x e = cc
got_patch (y ∷ found) zero x e = (y, refl, (let h : y.patch ≡ x = cc in h))
got_patch (y ∷ found) (suc k) x e = got_patch found k x e

-- where no point of a face is left, the patches are a partition of its exposed points
pub parted_all : (d t : ℕ) (X : Picture) (sense : Sense) (first : Picture) (found : List FoundPatch) (left : Picture) → IsFace X t sense first
    → IsParted d t first found left → IsEmpty left → ArePatches d X t sense found
parted_all d t X sense first found left face v none = record {
  partition = record {
    once = v.parting.once;
    all = λ p. (λ c. inside p (v.parting.rest p ((e p).1 c)), λ c. (e p).0 (v.parting.taken p c));
    patch = λ k x f. each k x f (got_patch found k x f);
  };
  refused = refused;
}
  where
    e : (q : Point) → IsTrue (at first q) ↔ Contains (exposed_points X t sense) q
    e = face_points X t sense first face

    inside : (p : Point) → IsTrue (at left p) ⊎ Contains (points_of (patches_of found)) p → Contains (points_of (patches_of found)) p
    inside p (inl a) = absurd (none p a)
    inside p (inr c) = c

    refused : (k : ℕ) (x : FoundPatch) → slice_get found k ≡ Some x → AreRefused d t x.patch (patches_of (drop (suc k) found)) x.refused
    refused k x f = refused_among d t x.patch left (patches_of (drop (suc k) found)) x.refused none (v.refusing.each k x f)

    each : (k : ℕ) (x : Patch) → slice_get (patches_of found) k ≡ Some x → (y : FoundPatch) × (slice_get found k ≡ Some y) × (y.patch ≡ x)
        → IsPatch d t (exposed_points X t sense) (take k (patches_of found)) x (drop (suc k) (patches_of found))
    each k x f y = (let w = v.parting.part k x f in record {
      first = (w.start, w.first, record { there = (e w.start).0 w.there; left = w.fresh; first = λ q c b. w.least q ((e q).1 c) b });
      grows = w.grows;
      plane = w.plane;
      refused = subst (λ (z : Patch). (q : Point) → Contains (points_of (drop (suc k) (patches_of found))) q → (p : Point) → Contains z.points p → Near q p
          → (why : Refutation) × Refutes d t (z.points ++ q ∷ []) why) y.2
          (subst (λ (after : List Patch). (q : Point) → Contains (points_of after) q → (p : Point) → Contains y.0.patch.points p → Near q p
          → (why : Refutation) × Refutes d t (y.0.patch.points ++ q ∷ []) why) (sym (drop-map (λ (z : FoundPatch). z.patch) (suc k) found))
          (refused_by d t y.0.patch (patches_of (drop (suc k) found)) y.0.refused (refused k y.0 y.1)));
    })
