-- The points that are left, passed in raster order.
-- How a patch grows stands elsewhere.
use Rattle.std.proofs.Common.{◌≡◌, ℕ, zero, suc, ◌+◌, ◌-◌, ◌<◌, ◌≤◌, ◌⊎◌, inl, inr, Bool, true, false, refl, ap, sym, ◌∙◌, subst, arith, List, [], ◌∷◌, get_or}
use Rattle.std.specs.Prelude.{IsTrue, filter, replicate}
use Rattle.std.specs.Ordering.{nat_cmp}
use Rattle.std.specs.Cmp.{nat_cmp_is}
use Rattle.std.specs.declared.cmp.Ordering.TheVariants.{Less, Equal, Greater}
use Rattle.std.proofs.lemmas.Bool.{and_parts, false≢true}
use Rattle.std.proofs.lemmas.List.{drop_all, get_or-replicate}
use native.Mathlib.Decide.{ℕ_discrete}
use Rattle.shape_terms.specs.Points.{Point, in_box, box_count, box_points, raster_number, raster_point}
use Rattle.shape_terms.specs.Pictures.{Picture, at, blank, objects_from}
use Rattle.shape_terms.specs.Steps.{Before}
use Rattle.shape_terms.proofs.RasterOrder.{raster_rises}
use Rattle.shape_terms.proofs.Boxes.{raster_point_in, raster_number-raster_point, raster_point-raster_number, raster_below}
use Rattle.shape_terms.proofs.BoxLists.{at_raster_point, objects_next, objects_skip, length-box_points}
use Rattle.shape_terms.specs.Patches.{FoundPatch}
use Rattle.shape_plane.specs.Parting.{IsEmpty, IsPast, IsNextPatch, IsReady}
use Rattle.shape_plane.proofs.Spreading.{in_sides}

below : (a b : ℕ) → nat_cmp a b ≡ Less → a < b
below a b e = by_order (order a b)
  where
    order : (a b : ℕ) → (a < b) ⊎ ((a ≡ b) ⊎ (b < a))
    order a b = grind arith

    by_order : (a < b) ⊎ ((a ≡ b) ⊎ (b < a)) → a < b
    by_order (inl l) = l
    by_order (inr (inl q)) = absurd (let f : Equal ≡ nat_cmp a b = nat_cmp_is a b Equal q in let g : Equal ≡ Less = f ∙ e in cc)
    by_order (inr (inr l)) = absurd (let f : Greater ≡ nat_cmp a b = nat_cmp_is a b Greater l in let g : Greater ≡ Less = f ∙ e in cc)

none_from : (X : Picture) (i : ℕ) → box_count X.sides ≤ i → objects_from X i ≡ []
none_from X i l = ap (filter (at X)) (drop_all i (box_points X.sides) (omega (arith, length-box_points X.sides)))

none_some : {A : Type 0} (x : A) (xs : List A) → [] ≡ x ∷ xs → ⊥
none_some x xs e = cc

-- all points before the one with the number i are passed, and that one is left
pub record IsPastTo (left : Picture) (n i : ℕ) : Type 0 where
  pub low : n ≤ i
  pub there : at left (raster_point left.sides i) ≡ true
  pub past : IsPast left i

module _ (left : Picture) where
  -- no point that is left stands before the one with the next raster number
  pub none_before : (i : ℕ) (p : Point) → IsPast left i → IsTrue (in_box left.sides p) → raster_number left.sides p ≡ i → (q : Point) → IsTrue (at left q)
      → Before q p → ⊥
  none_before i p h b e q a l =
      let r = below (raster_number left.sides q) (raster_number left.sides p) (sym (raster_rises left.sides q p (in_sides left q a) b) ∙ l) in
      let s = h q a in
      omega (arith, r, s, e)

  -- one point more is passed
  passed : (i : ℕ) (p q : Point) → IsTrue (in_box left.sides p) → raster_number left.sides p ≡ i → IsTrue (in_box left.sides q) → (q ≡ p → ⊥)
      → i ≤ raster_number left.sides q → i + 1 ≤ raster_number left.sides q
  passed i p q bp ep bq n l = elim (ℕ_discrete (raster_number left.sides q) i) [
    | yes e ↦ absurd (n (sym (raster_point-raster_number left.sides q bq) ∙ ap (raster_point left.sides) (e ∙ sym ep)
        ∙ raster_point-raster_number left.sides p bp))
    | no m ↦ omega (arith, l, m)
  ]

  -- the point with the next raster number is not left
  past_none : (i : ℕ) → IsPast left i → i < box_count left.sides → at left (raster_point left.sides i) ≡ false → IsPast left (i + 1)
  past_none i h l f q a = passed i (raster_point left.sides i) q (raster_point_in left.sides i l) (raster_number-raster_point left.sides i l)
      (in_sides left q a) (λ z. (let g : false ≡ true = sym f ∙ (ap (at left) (sym z) ∙ a) in cc)) (h q a)

  to_next : (k n i : ℕ) → n + k ≡ box_count left.sides → i < box_count left.sides → objects_from left n ≡ raster_point left.sides i ∷ objects_from left (i + 1)
      → IsPast left n → IsPastTo left n i
  to_next zero n i e l h v = absurd (none_some _ _ (sym (none_from left n (omega arith)) ∙ h))
  to_next (suc k) n i e l h v = go (λ f w. to_next k (n + 1) i (omega arith) l f w) (get_or left.values n false) refl
    where
      go : (objects_from left (n + 1) ≡ raster_point left.sides i ∷ objects_from left (i + 1) → IsPast left (n + 1) → IsPastTo left (n + 1) i) → (b : Bool)
          → get_or left.values n false ≡ b → IsPastTo left n i
      go later true x =
          let m : n < box_count left.sides = omega arith in
          let p : raster_point left.sides n ≡ raster_point left.sides i = ap (λ (s : List Point). get_or s 0 []) (sym (objects_next left n m x) ∙ h) in
          let q : n ≡ i = sym (raster_number-raster_point left.sides n m) ∙ (ap (raster_number left.sides) p ∙ raster_number-raster_point left.sides i l) in
          record {
            low = omega arith;
            there = subst (λ (j : ℕ). at left (raster_point left.sides j) ≡ true) q (at_raster_point left n m ∙ x);
            past =
                subst (IsPast left) q v;
          }
      go later false x =
          let m : n < box_count left.sides = omega arith in
          let r = later (sym (objects_skip left n m x) ∙ h) (past_none n v m (at_raster_point left n m ∙ x)) in
          record { low = (let a = r.low in omega arith); there = r.there; past = r.past }

  pub past_next : (n i : ℕ) → n ≤ box_count left.sides → i < box_count left.sides → objects_from left n ≡ raster_point left.sides i ∷ objects_from left (i + 1)
      → IsPast left n → IsPastTo left n i
  past_next n i a l h v = to_next (box_count left.sides - n) n i (omega arith) l h v

  to_end : (k n : ℕ) → n + k ≡ box_count left.sides → objects_from left n ≡ [] → IsPast left n → IsPast left (box_count left.sides)
  to_end zero n e h v = subst (IsPast left) (let q : n ≡ box_count left.sides = omega arith in q) v
  to_end (suc k) n e h v = go (λ f w. to_end k (n + 1) (omega arith) f w) (get_or left.values n false) refl
    where
      go : (objects_from left (n + 1) ≡ [] → IsPast left (n + 1) → IsPast left (box_count left.sides)) → (b : Bool) → get_or left.values n false ≡ b
          → IsPast left (box_count left.sides)
      go later true x = absurd (none_some _ _ (sym h ∙ objects_next left n (omega arith) x))
      go later false x =
          let m : n < box_count left.sides = omega arith in
          later (sym (objects_skip left n m x) ∙ h) (past_none n v m (at_raster_point left n m ∙ x))

  -- no point is left where none has a raster number from n on
  pub past_end : (n : ℕ) → n ≤ box_count left.sides → objects_from left n ≡ [] → IsPast left n → IsEmpty left
  past_end n l h v q a =
      let b = raster_below left.sides q (in_sides left q a) in
      let p = to_end (box_count left.sides - n) n (omega arith) h v q a in
      omega (arith, b, p)

-- ---- a patch that begins with the point with the number i

pub ready_next : (d t : ℕ) (left tried left' tried' : Picture) (near : List ℕ) (n i : ℕ) (p : Point) (x : FoundPatch) → IsReady d t left tried near n
    → IsPast left i → i < box_count left.sides → IsTrue (in_box left.sides p) → raster_number left.sides p ≡ i
    → IsNextPatch d t left left' x → tried'.sides ≡ left'.sides → IsEmpty tried' → (IsTrue (at left' p) → ⊥) → IsReady d t left' tried' near (i + 1)
ready_next d t left tried left' tried' near n i p x h past l b e w et none out = record {
  axis = h.axis;
  tried_sides = et;
  near_sides = h.near_sides ∙ sym w.sides;
  none = none;
  within = (let s = ap box_count w.sides in omega (arith, l, s));
  past = λ q a. (let o = w.part.free q a in
      subst (λ (s : List ℕ). i + 1 ≤ raster_number s q) (sym w.sides)
      (passed left i p q b e (in_sides left q o.0) (λ z. out (subst (λ (v : Point). IsTrue (at left' v)) z a)) (past q o.0)));
}

-- ---- before the first patch

blank_empty : (sides : List ℕ) → IsEmpty (blank sides)
blank_empty sides q a =
    let b = and_parts (in_box sides q) (get_or (replicate (box_count sides) false) (raster_number sides q) false) a in
    false≢true (sym (get_or-replicate (box_count sides) (raster_number sides q) false false (raster_below sides q b.0)) ∙ b.1)

pub ready_first : (d t : ℕ) (left tried : Picture) (near sides : List ℕ) → t < d → sides ≡ left.sides → tried ≡ blank sides → near ≡ sides
    → IsReady d t left tried near 0
ready_first d t left tried near sides l e b n = record {
  axis = l;
  tried_sides = ap (λ (T : Picture). T.sides) b ∙ e;
  near_sides = n ∙ e;
  none = subst IsEmpty (sym b) (blank_empty sides);
  within = omega arith;
  past = λ q a. omega arith;
}
