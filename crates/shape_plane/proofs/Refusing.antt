-- The refused points of a patch that has grown, and those of all patches of a face.
-- How a patch grows stands elsewhere.
use Rattle.std.proofs.Common.{◌≡◌, ℕ, zero, suc, ◌-◌, ◌<◌, ◌≤◌, ◌^◌, ◌⊎◌, inl, inr, List, [], ◌∷◌, ◌++◌, length, map, take, drop, get_or, refl, ap, sym, subst}
use Rattle.std.proofs.Common.{◌∙◌, arith}
use Rattle.std.specs.Prelude.{IsTrue, All, Contains, AllPairs, IsPermutation, slice_get, Some, ◌↔◌}
use Rattle.std.specs.List.Sorted.{IsNonDecreasingBy}
use Rattle.std.proofs.lemmas.List.{take-append-drop, length-map, map-append}
use Rattle.std.proofs.lemmas.List.Elements.{Contains-append_left, Contains-append_right, Contains-append_cases, Contains-get_or}
use Rattle.std.proofs.lemmas.List.Sorted.{IsPermutation-sym, Contains-permutation, length_permutation}
use Rattle.std.proofs.lemmas.Option.{slice_get-get_or, slice_get_within}
use Rattle.shape_terms.specs.Limits.{most_points, plane_weight}
use Rattle.shape_terms.specs.Points.{Point, box_count}
use Rattle.shape_terms.specs.Adjacency.{Near, near_steps}
use Rattle.shape_terms.specs.Steps.{Before}
use Rattle.shape_terms.specs.Pictures.{Picture, at}
use Rattle.shape_terms.specs.Refutations.{Refutation, Refutes, Share}
use Rattle.shape_terms.proofs.Found.{pairs-cons, All-each}
use Rattle.shape_terms.proofs.Members.{Contains-map}
use Rattle.shape_terms.proofs.NeighbourNumbers.{near_number}
use Rattle.shape_terms.proofs.AdjacencySymmetric.{near_sym}
use Rattle.shape_terms.specs.Patches.{Patch, RefusedPoint, FoundPatch, points_of}
use Rattle.shape_terms.proofs.ListPushes.{get_push}
use Rattle.shape_plane.specs.Pairs.{AreSmallWeights}
use Rattle.shape_plane.specs.ToldAnew.{told_share, told_anew}
use Rattle.shape_plane.specs.Found.{told_point, refused_point, found_patch}
use Rattle.shape_refute.specs.declared.naive.Naive.{Naive}
use Rattle.shape_plane.specs.Growth.{Grown}
use Rattle.shape_plane.specs.Parting.{IsNewPart, AreRefusedOf, IsRefusing, IsLaterPoint, patches_of}
use Rattle.shape_plane.specs.Rounds.{IsGoing}
use Rattle.shape_plane.specs.Trials.{Spread, Refusal, IsSpreading, IsRefusal, spread_of}
use Rattle.shape_plane.proofs.Longer.{refutes_longer}
use Rattle.shape_plane.proofs.Partings.{points_more}
use Rattle.shape_plane.proofs.Sorting.{apart_sorted, before_by_number, few_points}
use Rattle.shape_plane.proofs.Spreading.{in_sides, got}

-- ---- elements of a list that a function gives

pub mapped_from : {X Y : Type 0} (f : X → Y) (xs : List X) (y : Y) → Contains (map f xs) y → (x : X) × Contains xs x × (f x ≡ y)
mapped_from f [] y c = absurd (let l = c.1 in omega (arith, l))
mapped_from f (x ∷ xs) y (zero, l, e) = (x, (0, omega arith, refl), e)
mapped_from f (x ∷ xs) y (suc k, l, e) = (let r = mapped_from f xs y (k, omega arith, e) in (r.0, (suc r.1.0, (let m = r.1.1 in omega (arith, m)), r.1.2), r.2))

got_from : {X Y : Type 0} (f : X → Y) (xs : List X) (k : ℕ) (y : Y) → slice_get (map f xs) k ≡ Some y → (x : X) × Contains xs x × (f x ≡ y)
got_from f xs k y e = mapped_from f xs y (got (map f xs) k y e)

pub pairs_mapped : {X Y : Type 0} (f : X → Y) (R : Y → Y → Type 0) (xs : List X) → AllPairs (λ a b. R (f a) (f b)) xs → AllPairs R (map f xs)
pairs_mapped f R [] h = λ i j d l m. absurd (omega arith)
pairs_mapped {X} {Y} f R (x ∷ xs) h = pairs-cons R (f x) (map f xs) (All-each (R (f x)) (map f xs) first)
    (pairs_mapped f R xs (λ i j d l m. h (suc i) (suc j) d (omega arith) (omega arith)))
  where
    first : (y : Y) → Contains (map f xs) y → R (f x) y
    first y c = (let r = mapped_from f xs y c in subst (R (f x)) (ap f r.1.2 ∙ r.2) (h 0 (suc r.1.0) r.0 (omega arith) (let m = r.1.1 in omega (arith, m))))

pub place_of : {X : Type 0} (xs : List X) (x : X) → Contains xs x → (k : ℕ) × (slice_get xs k ≡ Some x)
place_of xs x c = (c.0, slice_get-get_or xs c.0 x c.1 ∙ ap Some c.2)

got_mapped_at : {X Y : Type 0} (f : X → Y) (xs : List X) (i : ℕ) (x : X) → slice_get xs i ≡ Some x → slice_get (map f xs) i ≡ Some (f x)
got_mapped_at f [] i x e = cc
got_mapped_at f (y ∷ xs) zero x e = (let h : y ≡ x = cc in ap (λ z. Some (f z)) h)
got_mapped_at f (y ∷ xs) (suc i) x e = got_mapped_at f xs i x e

pub all_at : {X : Type 0} (P : X → Type 0) (xs : List X) (i : ℕ) (x : X) → All P xs → slice_get xs i ≡ Some x → P x
all_at P xs i x h e = (let c = got xs i x e in subst P c.2 (h c.0 x c.1))

read_mapped : {X Y : Type 0} (f : X → Y) (xs : List X) (i : ℕ) (d : Y) (x : X) → i < length xs → get_or (map f xs) i d ≡ f (get_or xs i x)
read_mapped f [] i d x l = absurd (omega arith)
read_mapped f (y ∷ xs) zero d x l = refl
read_mapped f (y ∷ xs) (suc i) d x l = read_mapped f xs i d x (omega arith)

pub rising_mapped : {X Y : Type 0} (f : X → Y) (n : Y → ℕ) (xs : List X) → IsNonDecreasingBy (λ x. n (f x)) xs → IsNonDecreasingBy n (map f xs)
rising_mapped f n [] h i j d l m = absurd (omega arith)
rising_mapped {X} {Y} f n (x ∷ xs) h i j d l m =
    let k = length-map {B = Y} (x ∷ xs) f in
    let b : j < length (x ∷ xs) = omega (arith, k, m) in
    let u = h i j x l b in
    let p = ap n (read_mapped f (x ∷ xs) i d x (omega (arith, l, b))) in
    let q = ap n (read_mapped f (x ∷ xs) j d x b) in
    omega (arith, u, p, q)

-- ---- weights told anew

told_light : (from to : ℕ) (shares : List Share) → All (λ (s : Share). s.weight < plane_weight) shares
    → All (λ (s : Share). s.weight < plane_weight) (map (told_share from to) shares)
told_light from to shares h = All-each (λ (s : Share). s.weight < plane_weight) (map (told_share from to) shares)
    (λ y c. (let r = mapped_from (told_share from to) shares y c in let k = r.1 in subst (λ (s : Share). s.weight < plane_weight) r.2
    (subst (λ (s : Share). s.weight < plane_weight) k.2 (h k.0 r.0 k.1))))

pub told_small : (from to : ℕ) (why : Refutation) → AreSmallWeights why → AreSmallWeights (told_anew from to why)
told_small from to why h = record {
  few_low = (let e = length-map {B = Share} why.low (told_share from to) in let f = h.few_low in omega (arith, e, f));
  few_high = (let e = length-map {B = Share} why.high (told_share from to) in let f = h.few_high in omega (arith, e, f));
  few_steps = h.few_steps;
  low = told_light from to why.low h.low;
  high = told_light from to why.high h.high;
  steps = h.steps;
}

pub told_read : (d : ℕ) (points : List Point) (plane : Naive) (refused : List Refusal) (x : FoundPatch) (i m : ℕ) (r : Refusal) (told : Refutation)
    → found_patch d points plane refused ≡ x
    → slice_get refused i ≡ Some r → m ≡ length x.patch.points → told ≡ told_anew r.count m r.why → slice_get x.refused i ≡ Some (refused_point r.point told)
told_read d points plane refused x i m r told e f em et =
    subst (λ (y : FoundPatch). m ≡ length y.patch.points → slice_get y.refused i ≡ Some (refused_point r.point told)) e
    (λ k. got_mapped_at (told_point (length points)) refused i r f
    ∙ ap (λ (w : Refutation). Some (refused_point r.point w)) (ap (λ (n : ℕ). told_anew r.count n r.why) (sym k) ∙ sym et)) em

-- ---- one patch

-- each refused point is left beside the patch
refusal_kept : (d t : ℕ) (first : Picture) (s : Spread) (sorted : List Refusal) → IsSpreading d t first s → IsPermutation s.refused sorted → (r : Refusal)
    → Contains sorted r → IsRefusal d t s r
refusal_kept d t first s sorted h p r c =
    (let k = place_of s.refused r (Contains-permutation sorted s.refused r (IsPermutation-sym s.refused sorted p) c) in h.refused k.0 r k.1)

-- the refused points stand in raster order
rising : (d t : ℕ) (first : Picture) (s : Spread) (sorted : List Refusal) → IsSpreading d t first s → IsPermutation s.refused sorted
    → IsNonDecreasingBy (λ (r : Refusal). r.number) sorted → AllPairs (λ (a b : Refusal). Before a.point b.point) sorted
rising d t first s sorted h p up i j e l m =
    let a = get_or sorted i e in
    let b = get_or sorted j e in
    let x = refusal_kept d t first s sorted h p a (Contains-get_or sorted i e (omega (arith, l, m))) in
    let y = refusal_kept d t first s sorted h p b (Contains-get_or sorted j e m) in
    let u = up i j e (omega (arith, l)) m in
    let ex = x.number in
    let ey = y.number in
    before_by_number s.left.sides a.point b.point (in_sides s.left a.point x.left) (in_sides s.left b.point y.left)
    (apart_sorted s.refused sorted p h.apart i j e l m) (omega (arith, u, ex, ey))

-- a point that is left beside the patch was refused
was_refused : (d t : ℕ) (first : Picture) (start : Point) (g : Grown) (left tried : Picture) (refused : List Refusal) (q p : Point)
    → IsGoing d (length (near_steps d)) t first start (length g.points) g left tried refused → length p ≡ d → IsTrue (at left q) → Contains g.points p
    → Near q p → Contains (map (λ (r : Refusal). r.point) refused) q
was_refused d t first start g left tried refused q p h lp l c near =
    let n = near_number p q (near_sym q p near) in
    let s = h.settled c.0 p c.1 (slice_get-get_or g.points c.0 p c.1 ∙ ap Some c.2) n.0 (subst (λ (v : ℕ). n.0 < length (near_steps v)) lp n.1) in
    h.spreading.tried q (subst (λ (z : Point). IsTrue (at tried z)) n.2 (s (subst (λ (z : Point). IsTrue (at left z)) (sym n.2) l)))

-- weights of the points of an earlier time, told anew
later_weights : (d t : ℕ) (points : List Point) (q : Point) (n : ℕ) (why : Refutation) → n ≤ length points → Refutes d t (take n points ++ q ∷ []) why
    → Refutes d t (points ++ q ∷ []) (told_anew n (length points) why)
later_weights d t points q n why l w =
    let whole = take-append-drop n points in
    let front = front_length n points l in
    subst (λ (k : ℕ). Refutes d t (points ++ q ∷ []) (told_anew k (length points) why)) front
    (subst (λ (z : List Point). Refutes d t (z ++ q ∷ []) (told_anew (length (take n points)) (length z) why)) whole
    (refutes_longer d t (take n points) (drop n points) q why w))
  where
    front_length : (n : ℕ) (xs : List Point) → n ≤ length xs → length (take n xs) ≡ n
    front_length zero xs h = refl
    front_length (suc n) [] h = absurd (omega arith)
    front_length (suc n) (x ∷ xs) h = ap suc (front_length n xs (omega arith))

pub refused_of : (d t : ℕ) (first : Picture) (start : Point) (g : Grown) (left tried : Picture) (refused sorted : List Refusal) (x : Patch)
    (told : List RefusedPoint)
    → IsGoing d (length (near_steps d)) t first start (length g.points) g left tried refused → ((p : Point) → Contains g.points p → length p ≡ d)
    → IsPermutation refused sorted → IsNonDecreasingBy (λ (r : Refusal). r.number) sorted → x.points ≡ g.points
    → told ≡ map (told_point (length g.points)) sorted
    → AreRefusedOf d t x (λ q. IsTrue (at left q)) told
refused_of d t first start g left tried refused sorted x told h long p up e et = subst (AreRefusedOf d t x (λ q. IsTrue (at left q))) (sym et) (record {
  rising = pairs_mapped f (λ (a b : RefusedPoint). Before a.point b.point) sorted (rising d t first s sorted h.spreading p up);
  each = λ q. (beside q, told_of q);
  weights = λ k r a. (let z = got_from f sorted k r a in
      let w = kept z.0 z.1 in
      subst (λ (v : RefusedPoint). Refutes d t (x.points ++ v.point ∷ []) v.why) z.2
      (subst (λ (l : List Point). Refutes d t (l ++ z.0.point ∷ []) (told_anew z.0.count (length g.points) z.0.why)) (sym e)
      (later_weights d t g.points z.0.point z.0.count z.0.why w.early w.weights.refutes)));
})
  where
    s : Spread
    s = spread_of g.points left tried refused

    f : Refusal → RefusedPoint
    f = told_point (length g.points)

    kept : (r : Refusal) → Contains sorted r → IsRefusal d t s r
    kept r c = refusal_kept d t first s sorted h.spreading p r c

    beside : (q : Point) → Contains (map (λ (r : RefusedPoint). r.point) (map f sorted)) q → IsTrue (at left q) × ((y : Point) × Contains x.points y × Near q y)
    beside q c =
        let a = mapped_from (λ (r : RefusedPoint). r.point) (map f sorted) q c in
        let b = mapped_from f sorted a.0 a.1 in
        let w = kept b.0 b.1 in
        let same : b.0.point ≡ q = ap (λ (r : RefusedPoint). r.point) b.2 ∙ a.2 in
        let n = w.near in (
          subst (λ (z : Point). IsTrue (at left z)) same w.left,
          (n.0, subst (λ (l : List Point). Contains l n.0) (sym e) n.1, subst (λ (z : Point). Near z n.0) same n.2),
        )

    told_of : (q : Point) → IsTrue (at left q) × ((y : Point) × Contains x.points y × Near q y)
        → Contains (map (λ (r : RefusedPoint). r.point) (map f sorted)) q
    told_of q (l, (y, c, near)) =
        let m = subst (λ (z : List Point). Contains z y) e c in
        let a = mapped_from (λ (r : Refusal). r.point) refused q (was_refused d t first start g left tried refused q y h (long y m) l m near) in
        let b = Contains-permutation refused sorted a.0 p a.1 in
        subst (Contains (map (λ (r : RefusedPoint). r.point) (map f sorted))) a.2
        (Contains-map (λ (r : RefusedPoint). r.point) (map f sorted) (f a.0) (Contains-map f sorted a.0 b))

-- there are few of them, and their weights are small
pub few_refused : (d t : ℕ) (first : Picture) (s : Spread) (sorted : List Refusal) → IsSpreading d t first s → IsPermutation s.refused sorted
    → box_count first.sides ≤ most_points → length sorted < 2 ^ 32
few_refused d t first s sorted h p few =
    let n = length_permutation s.refused sorted p in
    let m = length-map s.refused (λ (r : Refusal). r.point) in
    let l = few_points s.left.sides (map (λ (r : Refusal). r.point) s.refused) (pairs_mapped (λ (r : Refusal). r.point) (λ a b. a ≡ b → ⊥) s.refused h.apart)
    (λ q c. (let a = mapped_from (λ (r : Refusal). r.point) s.refused q c in let k = place_of s.refused a.0 a.1 in
    in_sides s.left q (subst (λ (z : Point). IsTrue (at s.left z)) a.2 (h.refused k.0 a.0 k.1).left))) in
    let e = ap box_count h.left_sides in
    omega (arith, n, m, l, e, few)

pub small_refused : (d t : ℕ) (first : Picture) (s : Spread) (sorted : List Refusal) → IsSpreading d t first s → IsPermutation s.refused sorted
    → All (λ (r : Refusal). AreSmallWeights r.why) sorted
small_refused d t first s sorted h p = All-each (λ (r : Refusal). AreSmallWeights r.why) sorted (λ r c. (refusal_kept d t first s sorted h p r c).weights.small)

-- and few points of a patch
pub few_taken : (d t : ℕ) (first : Picture) (s : Spread) → IsSpreading d t first s → box_count s.left.sides ≤ most_points → length s.points < 2 ^ 31 - 1
few_taken d t first s h few =
    let l = few_points first.sides s.points h.once (λ q c. in_sides first q (h.taken q c)) in
    let e = ap box_count h.left_sides in
    omega (arith, l, e, few)

-- ---- all patches

same_later : (d t : ℕ) (x : Patch) (before after : Point → Type 0) (refused : List RefusedPoint) → ((q : Point) → before q ↔ after q)
    → AreRefusedOf d t x before refused → AreRefusedOf d t x after refused
same_later d t x before after refused e h = record {
  rising = h.rising;
  each = λ q. (λ c. (let a = (h.each q).0 c in ((e q).0 a.0, a.1)), λ a. (h.each q).1 ((e q).1 a.0, a.1));
  weights = h.weights;
}

drop_within : (n : ℕ) (xs : List FoundPatch) (x : FoundPatch) → n ≤ length xs → drop n (xs ++ x ∷ []) ≡ drop n xs ++ x ∷ []
drop_within zero xs x h = refl
drop_within (suc n) [] x h = absurd (omega arith)
drop_within (suc n) (y ∷ xs) x h = drop_within n xs x (omega arith)

drop_past : (n : ℕ) (xs : List FoundPatch) (x : FoundPatch) → n ≡ length xs → drop (suc n) (xs ++ x ∷ []) ≡ []
drop_past zero [] x h = refl
drop_past zero (y ∷ xs) x h = absurd (omega arith)
drop_past (suc n) [] x h = absurd (omega arith)
drop_past (suc n) (y ∷ xs) x h = drop_past n xs x (omega arith)

pub patches_more : (found : List FoundPatch) (x : FoundPatch) → patches_of (found ++ x ∷ []) ≡ patches_of found ++ x.patch ∷ []
patches_more found x = map-append (λ (y : FoundPatch). y.patch) found (x ∷ [])

nothing_in : (q : Point) → Contains (points_of []) q → ⊥
nothing_in q c = let l = c.1 in omega (arith, l)

-- the points after a patch stay the same when one more patch takes some that were left
later_same : (t : ℕ) (left left' : Picture) (x : Patch) (after : List Patch) (q : Point) → IsNewPart t left left' x
    → IsLaterPoint left after q ↔ IsLaterPoint left' (after ++ x ∷ []) q
later_same t left left' x after q n = (to, from)
  where
    whole : Contains (points_of after ++ x.points) q → Contains (points_of (after ++ x ∷ [])) q
    whole c = subst (λ (l : List Point). Contains l q) (sym (points_more after x)) c

    now : IsTrue (at left' q) ⊎ Contains x.points q → IsLaterPoint left' (after ++ x ∷ []) q
    now (inl a) = inl a
    now (inr c) = inr (whole (Contains-append_right (points_of after) x.points q c))

    to : IsLaterPoint left after q → IsLaterPoint left' (after ++ x ∷ []) q
    to (inl a) = now (n.rest q a)
    to (inr c) = inr (whole (Contains-append_left (points_of after) x.points q c))

    split : Contains (points_of after) q ⊎ Contains x.points q → IsLaterPoint left after q
    split (inl c) = inr c
    split (inr c) = inl (n.taken q c)

    from : IsLaterPoint left' (after ++ x ∷ []) q → IsLaterPoint left after q
    from (inl a) = inl (n.free q a).0
    from (inr c) = split (Contains-append_cases (points_of after) x.points q (subst (λ (l : List Point). Contains l q) (points_more after x) c))

left_alone : (left : Picture) (after : List Patch) (q : Point) → after ≡ [] → IsTrue (at left q) ↔ IsLaterPoint left after q
left_alone left after q e = (λ a. inl a, from)
  where
    from : IsLaterPoint left after q → IsTrue (at left q)
    from (inl a) = a
    from (inr c) = absurd (nothing_in q (subst (λ (l : List Patch). Contains (points_of l) q) e c))

pub refusing_more : (d t : ℕ) (found : List FoundPatch) (left left' : Picture) (x : FoundPatch) → IsRefusing d t found left → IsNewPart t left left' x.patch
    → AreRefusedOf d t x.patch (λ q. IsTrue (at left' q)) x.refused → IsRefusing d t (found ++ x ∷ []) left'
refusing_more d t found left left' x h n r = record { each = λ k y e. each k y (get_push found x k y e) }
  where
    each : (k : ℕ) (y : FoundPatch) → ((slice_get found k ≡ Some y) × (take k (found ++ x ∷ []) ≡ take k found))
        ⊎ ((x ≡ y) × (take k (found ++ x ∷ []) ≡ found) × (k ≡ length found))
        → AreRefusedOf d t y.patch (IsLaterPoint left' (patches_of (drop (suc k) (found ++ x ∷ [])))) y.refused
    each k y (inl a) =
        let l = slice_get_within found k y a.0 in
        let e : patches_of (drop (suc k) (found ++ x ∷ [])) ≡ patches_of (drop (suc k) found) ++ x.patch ∷ [] =
        ap patches_of (drop_within (suc k) found x (omega (arith, l))) ∙ patches_more (drop (suc k) found) x in
        subst (λ (z : List Patch). AreRefusedOf d t y.patch (IsLaterPoint left' z) y.refused) (sym e)
        (same_later d t y.patch _ _ y.refused (λ q. later_same t left left' x.patch (patches_of (drop (suc k) found)) q n) (h.each k y a.0))
    each k y (inr a) = subst (λ (z : FoundPatch). AreRefusedOf d t z.patch (IsLaterPoint left' (patches_of (drop (suc k) (found ++ x ∷ [])))) z.refused) a.0
        (same_later d t x.patch _ _ x.refused (λ q. left_alone left' (patches_of (drop (suc k) (found ++ x ∷ []))) q (ap patches_of (drop_past k found x a.2)))
        r)
