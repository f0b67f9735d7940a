-- The growth of a patch, neighbour by neighbour and point by point.
-- The loops themselves stand elsewhere.
use Rattle.std.proofs.Common.{◌≡◌, ℕ, zero, suc, ◌+◌, ◌*◌, ◌^◌, ◌%◌, ◌<◌, ◌≤◌, ◌⊎◌, inl, inr, false, List, [], ◌∷◌, ◌++◌, length, refl, ap, sym, subst, ◌∙◌}
use Rattle.std.proofs.Common.{arith, w32}
use Rattle.std.specs.Prelude.{IsTrue, Contains, AllPairs, slice_get, Some}
use Rattle.std.specs.Int.{bit_at, bit_not}
use Rattle.std.specs.Int.Bits.{bit_and}
use Rattle.std.specs.Int.Count.{count_trailing_zeros}
use Rattle.std.proofs.lemmas.Nat.Bits.{bit_at-zero}
use Rattle.std.proofs.lemmas.List.{append-nil}
use native.Mathlib.Decide.{ℕ_discrete}
use Rattle.shape_terms.specs.Points.{Point, in_box}
use Rattle.shape_terms.specs.Adjacency.{near_point}
use Rattle.shape_terms.specs.Pictures.{Picture, IsPicture, at, with_value}
use Rattle.shape_adj.specs.NearMasks.{In}
use Rattle.shape_plane.specs.Surroundings.{AreCandidates}
use Rattle.shape_plane.specs.Growth.{Grown}
use Rattle.shape_plane.specs.Trials.{Refusal, spread_of, IsLater, IsSettled, IsSpreading}
use Rattle.shape_plane.specs.Rounds.{IsRound, IsGoing}
use Rattle.shape_plane.proofs.Rests.{rest_keeps, rest_only}
use Rattle.shape_plane.proofs.Spreading.{later_more, cleared, at_other, in_sides, got, same_or}

-- no neighbour was tried yet
pub round_first : (d n : ℕ) (p : Point) (rest : ℕ) (g : Grown) (left tried : Picture) (refused : List Refusal) → left.sides ≡ tried.sides
    → AreCandidates n left p rest → IsRound d n p rest g g left tried left tried refused refused
round_first d n p rest g left tried refused e c = record {
  axis = refl;
  sides = e;
  later = record { settled = λ q h. h; more = []; points = sym (append-nil g.points) };
  below = c.below;
  settled = λ m l. elim (ℕ_discrete (bit_at rest m) 1) [ yes i ↦ inl i | no i ↦ inr (λ a. absurd (i (c.each m l a))) ];
  spreads = λ first a. a;
}

-- the least number of the set was tried
pub round_more : (d n : ℕ) (p : Point) (rest : ℕ) (old mid new : Grown) (left tried left' tried' left'' tried'' : Picture)
    (refused refused' refused'' : List Refusal)
    → rest < 2 ^ 32 → 0 < rest → IsRound d n p rest old mid left tried left' tried' refused refused' → new.axis ≡ mid.axis → left''.sides ≡ tried''.sides
    → IsLater (spread_of mid.points left' tried' refused') (spread_of new.points left'' tried'' refused'')
    → IsSettled (spread_of new.points left'' tried'' refused'') (near_point p (count_trailing_zeros 32 rest))
    → ((first : Picture) → IsSpreading d mid.axis first (spread_of mid.points left' tried' refused')
    → IsSpreading d mid.axis first (spread_of new.points left'' tried'' refused''))
    → IsRound d n p (bit_and rest (bit_not w32 (1 * 2 ^ count_trailing_zeros 32 rest % 2 ^ 32))) old new left tried left'' tried'' refused refused''
round_more d n p rest old mid new left tried left' tried' left'' tried'' refused refused' refused'' small more h e s l settled spreads = record {
  axis = e ∙ h.axis;
  sides = s;
  later = later_more _ _ _ h.later l;
  below = λ m i. h.below m (rest_only rest small more m i);
  settled = λ m k. elim (ℕ_discrete m (count_trailing_zeros 32 rest)) [
    | yes q ↦ inr (subst (λ (j : ℕ). IsSettled (spread_of new.points left'' tried'' refused'') (near_point p j)) (sym q) settled)
    | no q ↦ still m q (h.settled m k)
  ];
  spreads = λ first a. subst (λ (t : ℕ). IsSpreading d t first (spread_of new.points left'' tried'' refused'')) h.axis
      (spreads first (subst (λ (t : ℕ). IsSpreading d t first (spread_of mid.points left' tried' refused')) (sym h.axis) (h.spreads first a)));
}
  where
    still : (m : ℕ) → (m ≡ count_trailing_zeros 32 rest → ⊥) → In rest m ⊎ IsSettled (spread_of mid.points left' tried' refused') (near_point p m)
        → In (bit_and rest (bit_not w32 (1 * 2 ^ count_trailing_zeros 32 rest % 2 ^ 32))) m
        ⊎ IsSettled (spread_of new.points left'' tried'' refused'') (near_point p m)
    still m q (inl i) = inl (rest_keeps rest small more m i q)
    still m q (inr a) = inr (l.settled (near_point p m) a)

-- the set is empty
pub round_last : (d n : ℕ) (p : Point) (rest : ℕ) (old new : Grown) (left tried left' tried' : Picture) (refused refused' : List Refusal)
    → IsRound d n p rest old new left tried left' tried' refused refused' → rest ≡ 0
    → (m : ℕ) → m < n → IsSettled (spread_of new.points left' tried' refused') (near_point p m)
round_last d n p rest old new left tried left' tried' refused refused' h z m l = by_part (h.settled m l)
  where
    by_part : In rest m ⊎ IsSettled (spread_of new.points left' tried' refused') (near_point p m)
        → IsSettled (spread_of new.points left' tried' refused') (near_point p m)
    by_part (inl i) = absurd (let a = ap (λ (x : ℕ). bit_at x m) z ∙ bit_at-zero m in omega arith)
    by_part (inr a) = a

get_front : (xs ys : List Point) (k : ℕ) (p : Point) → slice_get xs k ≡ Some p → slice_get (xs ++ ys) k ≡ Some p
get_front [] ys k p e = cc
get_front (x ∷ xs) ys zero p e = e
get_front (x ∷ xs) ys (suc k) p e = get_front xs ys k p e

get_back : (xs ys : List Point) (k : ℕ) (p r : Point) → slice_get xs k ≡ Some p → slice_get (xs ++ ys) k ≡ Some r → r ≡ p
get_back xs ys k p r e f = let g = get_front xs ys k p e in cc

get_within : (xs ys : List Point) (k : ℕ) (r : Point) → k < length xs → slice_get (xs ++ ys) k ≡ Some r → slice_get xs k ≡ Some r
get_within [] ys k r h e = absurd (omega arith)
get_within (x ∷ xs) ys zero r h e = e
get_within (x ∷ xs) ys (suc k) r h e = get_within xs ys k r (omega arith) e

got_length : (xs : List Point) (k : ℕ) (p : Point) → slice_get xs k ≡ Some p → k < length xs
got_length [] k p e = cc
got_length (x ∷ xs) zero p e = omega arith
got_length (x ∷ xs) (suc k) p e = let h = got_length xs k p e in omega (arith, h)

-- one point alone, which is no longer left
pub going_first : (d n t : ℕ) (first tried : Picture) (p : Point) (g : Grown) (left : Picture) → IsPicture d first → IsTrue (at first p) → g.axis ≡ t
    → g.points ≡ p ∷ [] → left ≡ with_value first p false → tried.sides ≡ first.sides → ((q : Point) → IsTrue (at tried q) → ⊥)
    → IsGoing d n t first p 0 g left tried []
going_first d n t first tried p g left pic l ea ep el es none = record {
  axis = ea;
  start = ap (λ (k : List Point). slice_get k 0) ep;
  spreading = record {
    left_sides = ap (λ (L : Picture). L.sides) el;
    tried_sides = es;
    left = λ q a. (let c = cleared d first p q pic (in_sides first p l) (subst (λ (L : Picture). IsTrue (at L q)) el a) in
        (c.0, λ m. c.1 (alone q (subst (λ (k : List Point). Contains k q) ep m))));
    rest = λ q a. stays q a (same_or first p q (in_sides first p l) (in_sides first q a));
    taken = λ q m. subst (λ (z : Point). IsTrue (at first z)) (sym (alone q (subst (λ (k : List Point). Contains k q) ep m))) l;
    once = subst (AllPairs (λ a b. a ≡ b → ⊥)) (sym ep) (λ i j e a b. absurd (omega arith));
    grows = λ k q e. absurd (let f = ap (λ (z : List Point). slice_get z (suc k)) (sym ep) ∙ e in cc);
    tried = λ q a. absurd (none q a);
    apart = λ i j e a b. absurd (omega arith);
    refused = λ k r e. cc;
  };
  settled = λ j r h. absurd (omega arith);
}
  where
    stays : (q : Point) → IsTrue (at first q) → (q ≡ p) ⊎ (q ≡ p → ⊥) → IsTrue (at left q) ⊎ Contains g.points q
    stays q a (inl e) = inr (subst (λ (k : List Point). Contains k q) (sym ep) (0, omega arith, sym e))
    stays q a (inr n) = inl (subst (λ (L : Picture). IsTrue (at L q)) (sym el) (at_other first p q false (in_sides first p l) n ∙ a))

    alone : (q : Point) → Contains (p ∷ []) q → q ≡ p
    alone q (zero, h, e) = sym e
    alone q (suc k, h, e) = absurd (omega arith)

-- the neighbours of one point more were tried
pub going_more : (d n t : ℕ) (first : Picture) (p : Point) (k : ℕ) (old new : Grown) (q : Point) (left tried left' tried' : Picture)
    (refused refused' : List Refusal)
    → IsGoing d n t first p k old left tried refused → slice_get old.points k ≡ Some q → new.axis ≡ old.axis
    → IsLater (spread_of old.points left tried refused) (spread_of new.points left' tried' refused')
    → ((m : ℕ) → m < n → IsSettled (spread_of new.points left' tried' refused') (near_point q m))
    → ((x : Picture) → IsSpreading d old.axis x (spread_of old.points left tried refused)
    → IsSpreading d old.axis x (spread_of new.points left' tried' refused'))
    → IsGoing d n t first p (k + 1) new left' tried' refused'
going_more d n t first p k old new q left tried left' tried' refused refused' h e ea l settled spreads = record {
  axis = ea ∙ h.axis;
  start = subst (λ (z : List Point). slice_get z 0 ≡ Some p) (sym l.points) (get_front old.points l.more 0 p h.start);
  spreading = subst (λ (u : ℕ). IsSpreading d u first (spread_of new.points left' tried' refused')) h.axis
      (spreads first (subst (λ (u : ℕ). IsSpreading d u first (spread_of old.points left tried refused)) (sym h.axis) h.spreading));
  settled = λ j r b f m c. elim (ℕ_discrete j k) [
    | yes z ↦ (let g : r ≡ q =
        get_back old.points l.more k q r e
        (subst (λ (u : ℕ). slice_get (old.points ++ l.more) u ≡ Some r) z (subst (λ (u : List Point). slice_get u j ≡ Some r) l.points f)) in
        subst (λ (u : Point). IsSettled (spread_of new.points left' tried' refused') (near_point u m)) (sym g) (settled m c))
    | no z ↦ (let s = got_length old.points k q e in
        l.settled (near_point r m)
        (h.settled j r (omega (arith, b, z))
        (get_within old.points l.more j r (omega (arith, b, s)) (subst (λ (u : List Point). slice_get u j ≡ Some r) l.points f)) m c))
  ];
}

pub going_less : (d n t : ℕ) (first : Picture) (p : Point) (k m : ℕ) (g : Grown) (left tried : Picture) (refused : List Refusal) → m ≤ k
    → IsGoing d n t first p k g left tried refused → IsGoing d n t first p m g left tried refused
going_less d n t first p k m g left tried refused l h =
    record { axis = h.axis; start = h.start; spreading = h.spreading; settled = λ j r b f i c. h.settled j r (omega (arith, b, l)) f i c }

-- a point of the patch lies in the box
pub going_in_box : (d n t : ℕ) (first : Picture) (p : Point) (k : ℕ) (g : Grown) (left tried : Picture) (refused : List Refusal) (j : ℕ) (q : Point)
    → IsGoing d n t first p k g left tried refused → slice_get g.points j ≡ Some q → IsTrue (in_box left.sides q)
going_in_box d n t first p k g left tried refused j q h e =
    subst (λ (s : List ℕ). IsTrue (in_box s q)) (sym h.spreading.left_sides) (in_sides first q (h.spreading.taken q (got g.points j q e)))
