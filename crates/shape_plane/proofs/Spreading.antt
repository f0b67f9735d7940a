-- The growth of a patch, point by point.
-- How the code keeps points, marks and refusals belongs elsewhere.
use Rattle.std.proofs.Common.{◌≡◌, ℕ, zero, suc, ◌<◌, ◌≤◌, ◌⊎◌, inl, inr, Bool, true, false, ◌&&◌, List, [], ◌∷◌, ◌++◌, length, map, get_or, set, take, refl}
use Rattle.std.proofs.Common.{ap, sym, subst, ◌∙◌, arith, get_or-set_other, get_or-set_same}
use Rattle.std.specs.Prelude.{slice_get, Some, IsTrue, Contains, AllPairs, ◌≢◌}
use native.Mathlib.Decide.{ℕ_discrete}
use Rattle.shape_terms.specs.Points.{Point, in_box, raster_number, raster_point}
use Rattle.shape_terms.specs.Pictures.{Picture, IsPicture, at, with_value}
use Rattle.shape_terms.proofs.Boxes.{raster_below, raster_point-raster_number}
use Rattle.shape_terms.proofs.ListPushes.{get_push}
use Rattle.shape_terms.specs.Adjacency.{Near}
use Rattle.shape_terms.specs.Patches.{Grows}
use Rattle.shape_plane.specs.Verdicts.{IsRefuted}
use Rattle.shape_plane.specs.Trials.{Spread, Refusal, refusal_at, IsTaken, IsDeclined, IsTried, IsSpreading, IsRefusal, IsSettled, IsLater}
use Rattle.std.proofs.lemmas.Bool.{and_parts}
use Rattle.std.proofs.lemmas.Option.{slice_get-get_or}
use Rattle.std.proofs.lemmas.List.{length-append, map-append, take-append-le, append-nil, append_assoc, take_all}
use Rattle.std.proofs.lemmas.List.Elements.{Contains-append_left, Contains-append_cases, Contains-push, Contains-get_or}
use Rattle.std.proofs.lemmas.List.Quantifiers.{all_pairs_push}

-- ---- one value of a picture

pub at_same : (d : ℕ) (X : Picture) (p : Point) (b : Bool) → IsPicture d X → IsTrue (in_box X.sides p) → at (with_value X p b) p ≡ b
at_same d X p b h i =
    let l : raster_number X.sides p < length X.values = (let r = raster_below X.sides p i in let f = h.filled in omega (arith, r, f)) in
    ap (λ (v : Bool). v && get_or (set X.values (raster_number X.sides p) b) (raster_number X.sides p) false) i
    ∙ get_or-set_same X.values (raster_number X.sides p) b false l

pub at_other : (X : Picture) (p q : Point) (b : Bool) → IsTrue (in_box X.sides p) → (q ≡ p → ⊥) → at (with_value X p b) q ≡ at X q
at_other X p q b i n = by_box (in_box X.sides q) refl
  where
    by_box : (v : Bool) → in_box X.sides q ≡ v → at (with_value X p b) q ≡ at X q
    by_box false e = ap (λ (v : Bool). v && get_or (set X.values (raster_number X.sides p) b) (raster_number X.sides q) false) e
        ∙ sym (ap (λ (v : Bool). v && get_or X.values (raster_number X.sides q) false) e)
    by_box true e =
        let apart : raster_number X.sides q ≡ raster_number X.sides p
        → ⊥ = (λ r. n (sym (raster_point-raster_number X.sides q e) ∙ ap (raster_point X.sides) r ∙ raster_point-raster_number X.sides p i)) in
        ap (λ (v : Bool). in_box X.sides q && v) (get_or-set_other X.values (raster_number X.sides p) (raster_number X.sides q) b false apart)

-- two points of the box are equal, or not
pub same_or : (X : Picture) (p q : Point) → IsTrue (in_box X.sides p) → IsTrue (in_box X.sides q) → (q ≡ p) ⊎ (q ≡ p → ⊥)
same_or X p q i j = elim (ℕ_discrete (raster_number X.sides q) (raster_number X.sides p)) [
  | yes e ↦ inl (sym (raster_point-raster_number X.sides q j) ∙ ap (raster_point X.sides) e ∙ raster_point-raster_number X.sides p i)
  | no n ↦ inr (λ e. n (ap (raster_number X.sides) e))
]

pub in_sides : (X : Picture) (p : Point) → IsTrue (at X p) → IsTrue (in_box X.sides p)
in_sides X p h = (and_parts (in_box X.sides p) _ h).0

-- what is object after one point was cleared, and after one was set
pub cleared : (d : ℕ) (X : Picture) (p q : Point) → IsPicture d X → IsTrue (in_box X.sides p) → IsTrue (at (with_value X p false) q)
    → IsTrue (at X q) × (q ≡ p → ⊥)
cleared d X p q h i a = by_case (same_or X p q i (in_sides (with_value X p false) q a))
  where
    by_case : (q ≡ p) ⊎ (q ≡ p → ⊥) → IsTrue (at X q) × (q ≡ p → ⊥)
    by_case (inl e) = absurd (let f : at (with_value X p false) q ≡ false = ap (at (with_value X p false)) e ∙ at_same d X p false h i in let g : false ≡ true =
        sym f ∙ a in cc)
    by_case (inr n) = (sym (at_other X p q false i n) ∙ a, n)

pub was_set : (d : ℕ) (X : Picture) (p q : Point) → IsPicture d X → IsTrue (in_box X.sides p) → IsTrue (at (with_value X p true) q) → (q ≡ p) ⊎ IsTrue (at X q)
was_set d X p q h i a = by_case (same_or X p q i (in_sides (with_value X p true) q a))
  where
    by_case : (q ≡ p) ⊎ (q ≡ p → ⊥) → (q ≡ p) ⊎ IsTrue (at X q)
    by_case (inl e) = inl e
    by_case (inr n) = inr (sym (at_other X p q true i n) ∙ a)

pub still_set : (d : ℕ) (X : Picture) (p q : Point) → IsPicture d X → IsTrue (in_box X.sides p) → IsTrue (at X q) → IsTrue (at (with_value X p true) q)
still_set d X p q h i a = by_case (same_or X p q i (in_sides X q a))
  where
    by_case : (q ≡ p) ⊎ (q ≡ p → ⊥) → IsTrue (at (with_value X p true) q)
    by_case (inl e) = ap (at (with_value X p true)) e ∙ at_same d X p true h i
    by_case (inr n) = at_other X p q true i n ∙ a

one_alone : (x y : Point) → Contains (x ∷ []) y → y ≡ x
one_alone x y (zero, h, e) = sym e
one_alone x y (suc k, h, e) = absurd (omega arith)

pub got : {X : Type 0} (xs : List X) (k : ℕ) (x : X) → slice_get xs k ≡ Some x → Contains xs x
got [] k x e = cc
got (y ∷ xs) zero x e = (0, omega arith, (let h : y ≡ x = cc in h))
got (y ∷ xs) (suc k) x e = later (got xs k x e)
  where
    later : Contains xs x → Contains (y ∷ xs) x
    later (j, h, f) = (suc j, omega arith, f)

-- ---- the point was taken

pub taken_spreads : (d t : ℕ) (first : Picture) (s s' : Spread) (p q : Point) → IsPicture d s.left → IsSpreading d t first s → IsTrue (at s.left q)
    → (IsTrue (at s.tried q) → ⊥) → Contains s.points p → Near q p → IsTaken s q s' → IsSpreading d t first s'
taken_spreads d t first s s' p q pic h l untried c near x = record {
  left_sides = ap (λ (L : Picture). L.sides) x.left ∙ h.left_sides;
  tried_sides = ap (λ (T : Picture). T.sides) x.tried ∙ h.tried_sides;
  left = λ r a. (let b = cleared d s.left q r pic box (subst (λ (L : Picture). IsTrue (at L r)) x.left a) in let e = h.left r b.0 in
      (e.0, λ m. not_in r b.1 e.1 (subst (λ (l : List Point). Contains l r) x.points m)));
  rest = λ r a. stays r (h.rest r a);
  taken = λ r m. by_part r (Contains-append_cases s.points (q ∷ []) r (subst (λ (l : List Point). Contains l r) x.points m));
  once = subst (AllPairs (λ a b. a ≡ b → ⊥)) (sym x.points)
      (all_pairs_push (λ a b. a ≡ b → ⊥) s.points q h.once (λ k e m f. (h.left q l).1 (subst (Contains s.points) f (Contains-get_or s.points k e m))));
  grows = subst Grows (sym x.points) (λ k r e. grown k r (get_push s.points q (suc k) r e));
  tried = λ r a. subst (λ (l : List Refusal). Contains (map (λ (z : Refusal). z.point) l) r) (sym x.refused)
      (h.tried r (subst (λ (T : Picture). IsTrue (at T r)) x.tried a));
  apart = subst (AllPairs (λ (a b : Refusal). a.point ≢ b.point)) (sym x.refused) h.apart;
  refused = λ k r e. kept r (h.refused k r (subst (λ (l : List Refusal). slice_get l k ≡ Some r) x.refused e));
}
  where
    box : IsTrue (in_box s.left.sides q)
    box = in_sides s.left q l

    stays : (r : Point) → IsTrue (at s.left r) ⊎ Contains s.points r → IsTrue (at s'.left r) ⊎ Contains s'.points r
    stays r (inr m) = inr (subst (λ (k : List Point). Contains k r) (sym x.points) (Contains-append_left s.points (q ∷ []) r m))
    stays r (inl a) = by_case (same_or s.left q r box (in_sides s.left r a))
      where
        by_case : (r ≡ q) ⊎ (r ≡ q → ⊥) → IsTrue (at s'.left r) ⊎ Contains s'.points r
        by_case (inl e) = inr
            (subst (λ (k : List Point). Contains k r) (sym x.points)
            (subst (λ (z : Point). Contains (s.points ++ q ∷ []) z) (sym e) (Contains-push s.points q)))
        by_case (inr n) = inl (subst (λ (L : Picture). IsTrue (at L r)) (sym x.left) (at_other s.left q r false box n ∙ a))

    not_in : (r : Point) → (r ≡ q → ⊥) → (Contains s.points r → ⊥) → Contains (s.points ++ q ∷ []) r → ⊥
    not_in r n m c = by_part' (Contains-append_cases s.points (q ∷ []) r c)
      where
        by_part' : Contains s.points r ⊎ Contains (q ∷ []) r → ⊥
        by_part' (inl a) = m a
        by_part' (inr a) = n (one_alone q r a)

    by_part : (r : Point) → Contains s.points r ⊎ Contains (q ∷ []) r → IsTrue (at first r)
    by_part r (inl a) = h.taken r a
    by_part r (inr a) = subst (λ (z : Point). IsTrue (at first z)) (sym (one_alone q r a)) (h.left q l).0

    grown : (k : ℕ) (r : Point) → ((slice_get s.points (suc k) ≡ Some r) × (take (suc k) (s.points ++ q ∷ []) ≡ take (suc k) s.points))
        ⊎ ((q ≡ r) × (take (suc k) (s.points ++ q ∷ []) ≡ s.points) × (suc k ≡ length s.points))
        → (z : Point) × Contains (take (suc k) (s.points ++ q ∷ [])) z × Near r z
    grown k r (inl a) = (let g = h.grows k r a.0 in (g.0, subst (λ (l : List Point). Contains l g.0) (sym a.1) g.1, g.2))
    grown k r (inr a) = (p, subst (λ (l : List Point). Contains l p) (sym a.1) c, subst (λ (z : Point). Near z p) a.0 near)

    kept : (r : Refusal) → IsRefusal d t s r → IsRefusal d t s' r
    kept r w = record {
      left = subst (λ (L : Picture). IsTrue (at L r.point)) (sym x.left)
          (at_other s.left q r.point false box (λ e. untried (subst (λ (z : Point). IsTrue (at s.tried z)) e w.marked)) ∙ w.left);
      marked = subst (λ (T : Picture). IsTrue (at T r.point)) (sym x.tried) w.marked;
      number = w.number ∙ ap (λ (L : Picture). raster_number L.sides r.point) (sym x.left);
      early = (let a = ap length x.points ∙ length-append s.points (q ∷ []) in let b = w.early in omega (arith, a, b));
      weights = subst (λ (l : List Point). IsRefuted d t (l ++ r.point ∷ []) r.why)
          (sym (ap (take r.count) x.points ∙ take-append-le r.count s.points (q ∷ []) w.early)) w.weights;
      near = (let g = w.near in (g.0, subst (λ (l : List Point). Contains l g.0) (sym x.points) (Contains-append_left s.points (q ∷ []) g.0 g.1), g.2));
    }

-- ---- the point was refused

pub declined_spreads : (d t : ℕ) (first : Picture) (s s' : Spread) (p q : Point) → IsPicture d s.tried → IsSpreading d t first s → IsTrue (at s.left q)
    → IsTrue (in_box s.tried.sides q) → (IsTrue (at s.tried q) → ⊥) → Contains s.points p → Near q p → IsDeclined d t s q s' → IsSpreading d t first s'
declined_spreads d t first s s' p q pic h l box untried c near x = record {
  left_sides = ap (λ (L : Picture). L.sides) x.left ∙ h.left_sides;
  tried_sides = ap (λ (T : Picture). T.sides) x.tried ∙ h.tried_sides;
  left = λ r a. (let e = h.left r (subst (λ (L : Picture). IsTrue (at L r)) x.left a) in (e.0, λ m. e.1 (subst (λ (k : List Point). Contains k r) x.points m)));
  rest = λ r a. stays r (h.rest r a);
  taken = λ r m. h.taken r (subst (λ (k : List Point). Contains k r) x.points m);
  once = subst (AllPairs (λ a b. a ≡ b → ⊥)) (sym x.points) h.once;
  grows = subst Grows (sym x.points) h.grows;
  tried = λ r a. subst (λ (k : List Refusal). Contains (map (λ (z : Refusal). z.point) k) r) (sym x.refused)
      (marked r (was_set d s.tried q r pic box (subst (λ (T : Picture). IsTrue (at T r)) x.tried a)));
  apart = subst (AllPairs (λ (a b : Refusal). a.point ≢ b.point)) (sym x.refused)
      (all_pairs_push (λ (a b : Refusal). a.point ≢ b.point) s.refused (refusal_at s q x.why) h.apart
      (λ k e m f. untried (subst (λ (z : Point). IsTrue (at s.tried z)) f (h.refused k (get_or s.refused k e) (slice_get-get_or s.refused k e m)).marked)));
  refused = λ k r e. by_part k r (get_push s.refused (refusal_at s q x.why) k r (subst (λ (z : List Refusal). slice_get z k ≡ Some r) x.refused e));
}
  where
    stays : (r : Point) → IsTrue (at s.left r) ⊎ Contains s.points r → IsTrue (at s'.left r) ⊎ Contains s'.points r
    stays r (inl a) = inl (subst (λ (L : Picture). IsTrue (at L r)) (sym x.left) a)
    stays r (inr m) = inr (subst (λ (k : List Point). Contains k r) (sym x.points) m)

    marked : (r : Point) → (r ≡ q) ⊎ IsTrue (at s.tried r) → Contains (map (λ (z : Refusal). z.point) (s.refused ++ refusal_at s q x.why ∷ [])) r
    marked r (inl e) = subst (λ (k : List Point). Contains k r) (sym (map-append (λ (z : Refusal). z.point) s.refused (refusal_at s q x.why ∷ [])))
        (subst (λ (z : Point). Contains (map (λ (z : Refusal). z.point) s.refused ++ q ∷ []) z) (sym e)
        (Contains-push (map (λ (z : Refusal). z.point) s.refused) q))
    marked r (inr a) = subst (λ (k : List Point). Contains k r) (sym (map-append (λ (z : Refusal). z.point) s.refused (refusal_at s q x.why ∷ [])))
        (Contains-append_left (map (λ (z : Refusal). z.point) s.refused) (q ∷ []) r (h.tried r a))

    kept : (r : Refusal) → IsRefusal d t s r → IsRefusal d t s' r
    kept r w = record {
      left = subst (λ (L : Picture). IsTrue (at L r.point)) (sym x.left) w.left;
      marked = subst (λ (T : Picture). IsTrue (at T r.point)) (sym x.tried) (still_set d s.tried q r.point pic box w.marked);
      number = w.number ∙ ap (λ (L : Picture). raster_number L.sides r.point) (sym x.left);
      early = subst (λ (k : List Point). r.count ≤ length k) (sym x.points) w.early;
      weights = subst (λ (k : List Point). IsRefuted d t (take r.count k ++ r.point ∷ []) r.why) (sym x.points) w.weights;
      near = (let g = w.near in (g.0, subst (λ (k : List Point). Contains k g.0) (sym x.points) g.1, g.2));
    }

    new : IsRefusal d t s' (refusal_at s q x.why)
    new = record {
      left = subst (λ (L : Picture). IsTrue (at L q)) (sym x.left) l;
      marked = subst (λ (T : Picture). IsTrue (at T q)) (sym x.tried) (at_same d s.tried q true pic box);
      number = ap (λ (L : Picture). raster_number L.sides q) (sym x.left);
      early = subst (λ (k : List Point). length s.points ≤ length k) (sym x.points) (omega arith);
      weights = subst (λ (k : List Point). IsRefuted d t (k ++ q ∷ []) x.why) (sym (ap (take (length s.points)) x.points ∙ take_whole s.points)) x.weights;
      near = (p, subst (λ (k : List Point). Contains k p) (sym x.points) c, near);
    }
      where
        take_whole : (xs : List Point) → take (length xs) xs ≡ xs
        take_whole xs = take_all (length xs) xs (omega arith)

    by_part : (k : ℕ) (r : Refusal) → ((slice_get s.refused k ≡ Some r) × (take k (s.refused ++ refusal_at s q x.why ∷ []) ≡ take k s.refused))
        ⊎ ((refusal_at s q x.why ≡ r) × (take k (s.refused ++ refusal_at s q x.why ∷ []) ≡ s.refused) × (k ≡ length s.refused)) → IsRefusal d t s' r
    by_part k r (inl a) = kept r (h.refused k r a.0)
    by_part k r (inr a) = subst (IsRefusal d t s') a.0 new

-- ---- what was settled

pub taken_later : (d : ℕ) (s s' : Spread) (q : Point) → IsPicture d s.left → IsTrue (at s.left q) → IsTaken s q s' → IsLater s s' × IsSettled s' q
taken_later d s s' q pic l x = (
  record {
    settled = λ r h a. subst (λ (T : Picture). IsTrue (at T r)) (sym x.tried)
        (h (cleared d s.left q r pic (in_sides s.left q l) (subst (λ (L : Picture). IsTrue (at L r)) x.left a)).0);
    more = q ∷ [];
    points = x.points;
  },
  λ a. absurd ((cleared d s.left q q pic (in_sides s.left q l) (subst (λ (L : Picture). IsTrue (at L q)) x.left a)).1 refl),
)

pub declined_later : (d t : ℕ) (s s' : Spread) (q : Point) → IsPicture d s.tried → IsTrue (in_box s.tried.sides q) → IsDeclined d t s q s'
    → IsLater s s' × IsSettled s' q
declined_later d t s s' q pic box x = (
  record {
    settled = λ r h a. subst (λ (T : Picture). IsTrue (at T r)) (sym x.tried)
        (still_set d s.tried q r pic box (h (subst (λ (L : Picture). IsTrue (at L r)) x.left a)));
    more = [];
    points = x.points ∙ sym (append-nil s.points);
  },
  λ a. subst (λ (T : Picture). IsTrue (at T q)) (sym x.tried) (at_same d s.tried q true pic box),
)

pub later_more : (s s' s'' : Spread) → IsLater s s' → IsLater s' s'' → IsLater s s''
later_more s s' s'' a b =
    record {
      settled = λ q h. b.settled q (a.settled q h);
      more = a.more ++ b.more;
      points = b.points ∙ ap (λ (l : List Point). l ++ b.more) a.points
          ∙ append_assoc s.points a.more b.more;
    }

pub tried_spreads : (d t : ℕ) (first : Picture) (s s' : Spread) (p q : Point) → IsPicture d s.left → IsPicture d s.tried → IsSpreading d t first s
    → IsTrue (at s.left q) → (IsTrue (at s.tried q) → ⊥) → Contains s.points p → Near q p → IsTried d t s q s'
    → IsSpreading d t first s' × IsLater s s' × IsSettled s' q
tried_spreads d t first s s' p q pl pt h l u c near (inl x) =
    (let a = taken_later d s s' q pl l x in (taken_spreads d t first s s' p q pl h l u c near x, a.0, a.1))
tried_spreads d t first s s' p q pl pt h l u c near (inr x) =
    let box : IsTrue (in_box s.tried.sides q) = subst (λ (k : List ℕ). IsTrue (in_box k q)) (h.left_sides ∙ sym h.tried_sides) (in_sides s.left q l) in
    let a = declined_later d t s s' q pt box x in (declined_spreads d t first s s' p q pt h l box u c near x, a.0, a.1)

pub tried_later : (d t : ℕ) (s s' : Spread) (q : Point) → IsPicture d s.left → IsPicture d s.tried → s.left.sides ≡ s.tried.sides → IsTrue (at s.left q)
    → IsTried d t s q s' → IsLater s s' × IsSettled s' q
tried_later d t s s' q pl pt e l (inl x) = taken_later d s s' q pl l x
tried_later d t s s' q pl pt e l (inr x) = declined_later d t s s' q pt (subst (λ (k : List ℕ). IsTrue (in_box k q)) e (in_sides s.left q l)) x
