-- What follows for a hull: it is that of any set that is the same, no side of it is a point, and where its set lies on no line it has three vertices.
-- Sets and turns alone.
use Rattle.std.proofs.Common.{◌≡◌, ◌⊎◌, inl, inr, ℕ, ◌+◌, ◌<◌, ◌≤◌, List, length, ap, sym, subst, ◌∙◌, arith}
use Rattle.std.proofs.Math.IntN.{ℤ, pos, ◌+ℤ◌, ◌-ℤ◌, ◌*ℤ◌, neg_ℤ}
use lib.Signed.{◌<ℤ◌, ◌≤ℤ◌}
use Rattle.std.proofs.lemmas.Int.{ints, by_lt_z}
use Rattle.std.proofs.lemmas.Bool.Decides.{nat_tests}
use Rattle.shape_terms.proofs.Products.{rings}
use Rattle.shape_terms.proofs.Order.{mul-nonneg, mul-lt_ℤ, cancel-le_ℤ}
use Rattle.measure_terms.specs.Hulls.{Corner, IsBefore, IsHull, IsUpTo, end, next, turn, vertex}
use Rattle.measure_terms.specs.Polygons.{squared_length}
use Rattle.measure_terms.specs.Widths.{HaveLengths}
use Rattle.measure_terms.proofs.Turns.{det, swap, less_left, share_x, share_y, between, other}

-- ---- no side is a point

square : (x : ℤ) → pos 0 ≤ℤ (x *ℤ x)
square x =
    by_lt_z x (pos 0)
    (λ (l : x <ℤ pos 0). let m = mul-nonneg (neg_ℤ x) (neg_ℤ x) (omega (arith, ints, l)) (omega (arith, ints, l)) in omega (arith, ints, rings, m))
    (λ (l : pos 0 ≤ℤ x). mul-nonneg x x l l)

positive : (x : ℤ) → pos 0 <ℤ x → pos 0 <ℤ (x *ℤ x)
positive x l = let m = mul-lt_ℤ x (pos 0) x l l in omega (arith, ints, rings, m)

some_length : (x y : ℤ) → pos 0 ≤ℤ y → (y ≡ pos 0 → pos 0 <ℤ x) → pos 0 <ℤ (x *ℤ x +ℤ y *ℤ y)
some_length x y h k =
    let a = square x in
    let b = square y in
    by_lt_z (pos 0) y
    (λ (l : pos 0 <ℤ y). let c = positive y l in omega (arith, ints, a, c))
    (λ (l : y ≤ℤ pos 0). let c = positive x (k (omega (arith, ints, h, l))) in omega (arith, ints, b, c))

apart : (p q : Corner) → IsBefore p q → pos 0 <ℤ squared_length p q
apart p q h =
    let r = h.row in
    some_length (q.x -ℤ p.x) (q.y -ℤ p.y) (omega (arith, ints, r)) (λ e. (let c = h.column (omega (arith, ints, e)) in omega (arith, ints, c)))

back : (x y : ℤ) → (neg_ℤ x *ℤ neg_ℤ x) +ℤ (neg_ℤ y *ℤ neg_ℤ y) ≡ x *ℤ x +ℤ y *ℤ y
back x y = omega (arith, ints, rings)

either_way : (p q : Corner) → squared_length p q ≡ squared_length q p
either_way p q = let e = other q.x p.x in let f = other q.y p.y in let g = back (p.x -ℤ q.x) (p.y -ℤ q.y) in cc

within : (n i : ℕ) → i + 1 < n → next n i ≡ i + 1
within n i l = grind (arith, nat_tests)

pub hull_lengths : (S : Corner → Type 0) (h : List Corner) → 2 ≤ length h → IsHull S h → HaveLengths h
hull_lengths S h some is = record {
  each = λ i l. (
      let n = length h in
      let c : (i < is.far) ⊎ (is.far ≤ i) = grind arith in
      let f = is.once.within in
      elim c [
        | inl m ↦ (
            let e = within n i (omega (arith, m, f)) in
            subst (λ k. pos 0 <ℤ squared_length (vertex h i) (vertex h k)) (sym e) (apart (vertex h i) (vertex h (i + 1)) (is.once.up i m)))
        | inr m ↦ subst (λ z. pos 0 <ℤ z) (sym (either_way (vertex h i) (end h i))) (apart (end h i) (vertex h i) (is.once.down i m l some))
      ]);
}

-- ---- the same set

pub same_hull : (S T : Corner → Type 0) (h : List Corner) → ((p : Corner) → S p → T p) → ((p : Corner) → T p → S p) → IsHull S h → IsHull T h
same_hull S T h to back is = record {
  of = λ i l. to (vertex h i) (is.of i l);
  left = λ i p l t. is.left i p l (back p t);
  turns = is.turns;
  far = is.far;
  once = is.once;
  first = λ p t. is.first p (back p t);
  last = λ p t. is.last p (back p t);
}

-- ---- how many vertices it has

pub same_corner : (p q : Corner) → IsUpTo p q → IsUpTo q p → p ≡ q
same_corner p q h k =
    let a = h.row in
    let b = k.row in
    let e : p.y ≡ q.y = omega (arith, ints, a, b) in
    let c = h.column e in
    let d = k.column (sym e) in
    let f : p.x ≡ q.x = omega (arith, ints, c, d) in
    λ i. record { x = f i; y = e i }

one_or_more : (n : ℕ) → 1 ≤ n → (n ≡ 1) ⊎ (2 ≤ n)
one_or_more n l = grind arith

two_or_more : (n : ℕ) → 2 ≤ n → (n ≡ 2) ⊎ (3 ≤ n)
two_or_more n l = grind arith

pub not_both : (p q : Corner) → IsBefore p q → IsUpTo q p → ⊥
not_both p q h k =
    let a = h.row in
    let b = k.row in
    let e : p.y ≡ q.y = omega (arith, ints, a, b) in
    let c = h.column e in
    let d = k.column (sym e) in
    absurd (omega (arith, ints, c, d))

-- a set of two corners has a hull of two vertices or more
pub hull_of_two : (S : Corner → Type 0) (h : List Corner) (p q : Corner) → IsHull S h → S p → S q → (p ≡ q → ⊥) → 2 ≤ length h
hull_of_two S h p q is a b apart =
    let w = is.once.within in
    elim (one_or_more (length h) (omega (arith, w))) [
      | inl e ↦ (
          let f : is.far ≡ 0 = omega (arith, w, e) in
          let same = λ (r : Corner) (s : S r). same_corner r (vertex h 0) (subst (λ k. IsUpTo r (vertex h k)) f (is.last r s)) (is.first r s) in
          absurd (apart (same p a ∙ sym (same q b))))
      | inr l ↦ l
    ]

-- two steps that do not turn from a third, which is no point, do not turn from one another
pub on_one_line : (dx dy ax ay bx by : ℤ) → pos 0 ≤ℤ dy → (dy ≡ pos 0 → pos 0 <ℤ dx) → det ax ay dx dy ≡ pos 0 → det bx by dx dy ≡ pos 0
    → det ax ay bx by ≡ pos 0
on_one_line dx dy ax ay bx by up right e f =
    by_lt_z (pos 0) dy
    (λ (l : pos 0 <ℤ dy). let s = share_y ax ay bx by dx dy in
    no_factor dy (det ax ay bx by) l (gone (det ax ay bx by) dy (det ax ay dx dy) by (det bx by dx dy) ay s e f))
    (λ (l : dy ≤ℤ pos 0). let s = share_x ax ay bx by dx dy in no_factor dx (det ax ay bx by) (right (omega (arith, ints, up, l)))
    (gone (det ax ay bx by) dx (det ax ay dx dy) bx (det bx by dx dy) ax s e f))
  where
    gone : (w z x u y v : ℤ) → w *ℤ z ≡ x *ℤ u -ℤ y *ℤ v → x ≡ pos 0 → y ≡ pos 0 → w *ℤ z ≡ pos 0
    gone w z x u y v s g h = let a = ap (λ t. t *ℤ u) g in let b = ap (λ t. t *ℤ v) h in omega (arith, ints, rings, s, a, b)

    no_factor : (w z : ℤ) → pos 0 <ℤ w → z *ℤ w ≡ pos 0 → z ≡ pos 0
    no_factor w z g h =
        let a = cancel-le_ℤ w z (pos 0) g (omega (arith, ints, rings, h)) in
        let b = cancel-le_ℤ w (pos 0) z g (omega (arith, ints, rings, h)) in
        omega (arith, ints, a, b)

-- where there are two vertices alone, no corner turns from their way
two_on_line : (S : Corner → Type 0) (h : List Corner) → IsHull S h → length h ≡ 2 → (p : Corner) → S p → turn (vertex h 0) (vertex h 1) p ≡ pos 0
two_on_line S h is e p s =
    let a = subst (λ k. pos 0 ≤ℤ turn (vertex h 0) (vertex h k) p) (goes (length h) e) (is.left 0 p (omega (arith, e)) s) in
    let b = subst (λ k. pos 0 ≤ℤ turn (vertex h 1) (vertex h k) p) (comes (length h) e) (is.left 1 p (omega (arith, e)) s) in
    let c = either_side (vertex h 0) (vertex h 1) p in
    omega (arith, ints, a, b, c)
  where
    goes : (n : ℕ) → n ≡ 2 → next n 0 ≡ 1
    goes n f = grind (arith, nat_tests)

    comes : (n : ℕ) → n ≡ 2 → next n 1 ≡ 0
    comes n f = grind (arith, nat_tests)

    turn_back : (ax ay cx cy : ℤ) → det (neg_ℤ ax) (neg_ℤ ay) (cx -ℤ ax) (cy -ℤ ay) ≡ neg_ℤ (det ax ay cx cy)
    turn_back ax ay cx cy = omega (arith, ints, rings)

    either_side : (q r t : Corner) → turn r q t ≡ neg_ℤ (turn q r t)
    either_side q r t =
        let f = other q.x r.x in let g = other q.y r.y in let i = between q.x r.x t.x in let j = between q.y r.y t.y in
        let m = turn_back (r.x -ℤ q.x) (r.y -ℤ q.y) (t.x -ℤ q.x) (t.y -ℤ q.y) in cc

-- the first of two vertices comes before the other
two_apart : (S : Corner → Type 0) (h : List Corner) → IsHull S h → length h ≡ 2 → IsBefore (vertex h 0) (vertex h 1)
two_apart S h is e =
    let w = is.once.within in
    let c : (is.far ≡ 0) ⊎ (is.far ≡ 1) = grind arith in
    elim c [
      | inl f ↦ absurd (
          let d = is.once.down 0 (omega (arith, f)) (omega (arith, e)) (omega (arith, e)) in
          let one : next (length h) 0 ≡ 1 = goes (length h) e in
          let b = subst (λ k. IsBefore (vertex h k) (vertex h 0)) one d in
          let a = is.first (vertex h 1) (is.of 1 (omega (arith, e))) in
          not_both (vertex h 1) (vertex h 0) b a)
      | inr f ↦ is.once.up 0 (omega (arith, f))
    ]
  where
    goes : (n : ℕ) → n ≡ 2 → next n 0 ≡ 1
    goes n f = grind (arith, nat_tests)

-- a set of three corners that turn has a hull of three vertices or more
pub hull_of_three : (S : Corner → Type 0) (h : List Corner) (p q r : Corner) → IsHull S h → S p → S q → S r → (turn p q r ≡ pos 0 → ⊥) → 3 ≤ length h
hull_of_three S h p q r is a b c turns =
    let many = hull_of_two S h p q is a b (λ e. turns (subst (λ z. turn p z r ≡ pos 0) e (stay p r))) in
    elim (two_or_more (length h) many) [
      | inl e ↦ absurd (turns
          (flat (vertex h 0) (vertex h 1) (two_apart S h is e) p q r (two_on_line S h is e p a) (two_on_line S h is e q b) (two_on_line S h is e r c)))
      | inr l ↦ l
    ]
  where
    stay : (t s : Corner) → turn t t s ≡ pos 0
    stay t s = omega (arith, ints, rings)

    along_line : (dx dy ux uy vx vy : ℤ) → det dx dy ux uy ≡ pos 0 → det dx dy vx vy ≡ pos 0 → det (vx -ℤ ux) (vy -ℤ uy) dx dy ≡ pos 0
    along_line dx dy ux uy vx vy e f = let a = less_left vx vy ux uy dx dy in let b = swap ux uy dx dy in let c = swap vx vy dx dy in
        omega (arith, ints, e, f, a, b, c)

    flat : (u v : Corner) → IsBefore u v → (x y z : Corner) → turn u v x ≡ pos 0 → turn u v y ≡ pos 0 → turn u v z ≡ pos 0 → turn x y z ≡ pos 0
    flat u v h x y z e f g =
        let up = h.row in
        let m = between u.x x.x y.x in let n = between u.y x.y y.y in let i = between u.x x.x z.x in let j = between u.y x.y z.y in
        let s = along_line (v.x -ℤ u.x) (v.y -ℤ u.y) (x.x -ℤ u.x) (x.y -ℤ u.y) (y.x -ℤ u.x) (y.y -ℤ u.y) e f in
        let t = along_line (v.x -ℤ u.x) (v.y -ℤ u.y) (x.x -ℤ u.x) (x.y -ℤ u.y) (z.x -ℤ u.x) (z.y -ℤ u.y) e g in
        let a : det (y.x -ℤ x.x) (y.y -ℤ x.y) (v.x -ℤ u.x) (v.y -ℤ u.y) ≡ pos 0 = cc in
        let b : det (z.x -ℤ x.x) (z.y -ℤ x.y) (v.x -ℤ u.x) (v.y -ℤ u.y) ≡ pos 0 = cc in
        on_one_line (v.x -ℤ u.x) (v.y -ℤ u.y) (y.x -ℤ x.x) (y.y -ℤ x.y) (z.x -ℤ x.x) (z.y -ℤ x.y) (omega (arith, ints, up))
        (λ o. (let c = h.column (omega (arith, ints, o)) in omega (arith, ints, c))) a b
