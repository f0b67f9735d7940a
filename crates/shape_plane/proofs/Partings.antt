-- A face that falls into patches: what one patch more keeps.
-- How a patch grows, and what it refuses, stands elsewhere.
use Rattle.std.proofs.Common.{◌≡◌, ℕ, ◌⊎◌, inl, inr, List, [], ◌∷◌, ◌++◌, length, take, ap, sym, subst, ◌∙◌}
use Rattle.std.specs.Prelude.{IsTrue, Contains, AllPairs, slice_get, Some}
use Rattle.std.proofs.lemmas.List.{append-nil, append_assoc}
use Rattle.std.proofs.lemmas.List.Elements.{Contains-append_left, Contains-append_right, Contains-append_cases}
use Rattle.shape_terms.specs.Points.{Point}
use Rattle.shape_terms.specs.Steps.{Before}
use Rattle.shape_terms.specs.Pictures.{Picture, IsPicture, at}
use Rattle.shape_terms.specs.Naive.{IsNaiveFor}
use Rattle.shape_terms.proofs.Boxes.{in_box_length}
use Rattle.shape_terms.proofs.Found.{pairs-append}
use Rattle.shape_terms.specs.Patches.{Patch, Grows, points_of}
use Rattle.shape_terms.proofs.ListPushes.{get_push}
use Rattle.shape_plane.specs.Growth.{Grown}
use Rattle.shape_plane.specs.Parting.{IsPart, IsParting, IsNewPart}
use Rattle.shape_plane.specs.Trials.{Spread, Refusal, IsSpreading}
use Rattle.shape_plane.specs.Rounds.{IsGoing}
use Rattle.shape_plane.proofs.Spreading.{in_sides}

pub points_more : (parts : List Patch) (x : Patch) → points_of (parts ++ x ∷ []) ≡ points_of parts ++ x.points
points_more [] x = append-nil x.points
points_more (y ∷ parts) x = ap (λ (z : List Point). y.points ++ z) (points_more parts x) ∙ sym (append_assoc y.points (points_of parts) x.points)

part_same : (t : ℕ) (face : Point → Type 0) (before before' : List Patch) (x : Patch) → before' ≡ before → IsPart t face before x → IsPart t face before' x
part_same t face before before' x e h = subst (λ (b : List Patch). IsPart t face b x) (sym e) h

pub parting_more : (t : ℕ) (face : Point → Type 0) (parts : List Patch) (left left' : Picture) (x : Patch) → IsParting t face parts left
    → IsNewPart t left left' x → IsParting t face (parts ++ x ∷ []) left'
parting_more t face parts left left' x h n = record {
  free = λ q a. (let b = n.free q a in let c = h.free q b.0 in
      (c.0, λ m. neither q c.1 b.1 (Contains-append_cases (points_of parts) x.points q (subst (λ (l : List Point). Contains l q) (points_more parts x) m))));
  rest = λ q a. stays q (h.rest q a);
  taken = λ q m. by_part q (Contains-append_cases (points_of parts) x.points q (subst (λ (l : List Point). Contains l q) (points_more parts x) m));
  once = subst (AllPairs (λ p q. p ≡ q → ⊥)) (sym (points_more parts x))
      (pairs-append (λ p q. p ≡ q → ⊥) (points_of parts) x.points h.once n.once
      (λ p q a b e. (h.free q (n.taken q b)).1 (subst (Contains (points_of parts)) e a)));
  part = λ k y e. each k y (get_push parts x k y e);
}
  where
    neither : (q : Point) → (Contains (points_of parts) q → ⊥) → (Contains x.points q → ⊥) → Contains (points_of parts) q ⊎ Contains x.points q → ⊥
    neither q a b (inl c) = a c
    neither q a b (inr c) = b c

    whole : (q : Point) → Contains (points_of parts) q ⊎ Contains x.points q → Contains (points_of (parts ++ x ∷ [])) q
    whole q (inl c) = subst (λ (l : List Point). Contains l q) (sym (points_more parts x)) (Contains-append_left (points_of parts) x.points q c)
    whole q (inr c) = subst (λ (l : List Point). Contains l q) (sym (points_more parts x)) (Contains-append_right (points_of parts) x.points q c)

    stays : (q : Point) → IsTrue (at left q) ⊎ Contains (points_of parts) q → IsTrue (at left' q) ⊎ Contains (points_of (parts ++ x ∷ [])) q
    stays q (inr c) = inr (whole q (inl c))
    stays q (inl a) = now (n.rest q a)
      where
        now : IsTrue (at left' q) ⊎ Contains x.points q → IsTrue (at left' q) ⊎ Contains (points_of (parts ++ x ∷ [])) q
        now (inl b) = inl b
        now (inr c) = inr (whole q (inr c))

    by_part : (q : Point) → Contains (points_of parts) q ⊎ Contains x.points q → face q
    by_part q (inl c) = h.taken q c
    by_part q (inr c) = (h.free q (n.taken q c)).0

    new : IsPart t face parts x
    new = record {
      start = n.start;
      first = n.first;
      there = (h.free n.start n.there).0;
      fresh = (h.free n.start n.there).1;
      least = λ q a b. gone q b (h.rest q a);
      grows = n.grows;
      plane = n.plane;
    }
      where
        gone : (q : Point) → Before q n.start → IsTrue (at left q) ⊎ Contains (points_of parts) q → Contains (points_of parts) q
        gone q b (inl a) = absurd (n.least q a b)
        gone q b (inr c) = c

    each : (k : ℕ) (y : Patch) → ((slice_get parts k ≡ Some y) × (take k (parts ++ x ∷ []) ≡ take k parts))
        ⊎ ((x ≡ y) × (take k (parts ++ x ∷ []) ≡ parts) × (k ≡ length parts)) → IsPart t face (take k (parts ++ x ∷ [])) y
    each k y (inl a) = part_same t face (take k parts) (take k (parts ++ x ∷ [])) y a.1 (h.part k y a.0)
    each k y (inr a) = subst (IsPart t face (take k (parts ++ x ∷ []))) a.0 (part_same t face parts (take k (parts ++ x ∷ [])) x a.1 new)

-- the patch that has grown from a point before which nothing is left
pub new_part : (d n t : ℕ) (left left' tried : Picture) (p : Point) (k : ℕ) (g : Grown) (refused : List Refusal) (x : Patch)
    → IsGoing d n t left p k g left' tried refused
    → x.points ≡ g.points → IsNaiveFor t g.points x.plane → IsTrue (at left p) → ((q : Point) → IsTrue (at left q) → Before q p → ⊥) → IsNewPart t left left' x
new_part d n t left left' tried p k g refused x h e plane l least = record {
  free = λ q a. (let b = h.spreading.left q a in (b.0, λ m. b.1 (subst (λ (z : List Point). Contains z q) e m)));
  rest = λ q a. stays q (h.spreading.rest q a);
  taken = λ q m. h.spreading.taken q (subst (λ (z : List Point). Contains z q) e m);
  once = subst (AllPairs (λ p q. p ≡ q → ⊥)) (sym e) h.spreading.once;
  start = p;
  first = subst (λ (z : List Point). slice_get z 0 ≡ Some p) (sym e) h.start;
  there = l;
  least = least;
  grows = subst Grows (sym e) h.spreading.grows;
  plane = subst (λ (z : List Point). IsNaiveFor t z x.plane) (sym e) plane;
}
  where
    stays : (q : Point) → IsTrue (at left' q) ⊎ Contains g.points q → IsTrue (at left' q) ⊎ Contains x.points q
    stays q (inl a) = inl a
    stays q (inr m) = inr (subst (λ (z : List Point). Contains z q) (sym e) m)

-- points of a patch have as many coordinates as the picture has axes
pub points_long : (d t : ℕ) (first : Picture) (s : Spread) → IsPicture d first → IsSpreading d t first s → (q : Point) → Contains s.points q → length q ≡ d
points_long d t first s p h q m = in_box_length first.sides q (in_sides first q (h.taken q m)) ∙ p.axes
