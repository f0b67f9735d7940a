-- A polygon's width across a side is the width of the whole set in the direction across: what no vertex exceeds no point does.
-- That no direction gives less is not told here.
use Rattle.std.proofs.Common.{◌≡◌, ◌⊎◌, inl, inr, ℕ, ◌+◌, ◌-◌, ◌<◌, ◌≤◌, List, length, ap, sym, subst, ◌∙◌, arith}
use Rattle.std.proofs.Math.IntN.{ℤ, pos, ◌+ℤ◌, ◌-ℤ◌, ◌*ℤ◌, neg_ℤ}
use lib.Signed.{◌<ℤ◌, ◌≤ℤ◌}
use Rattle.std.proofs.lemmas.Int.{ints}
use Rattle.std.proofs.lemmas.Bool.Decides.{nat_tests}
use Rattle.shape_terms.proofs.Products.{rings}
use Rattle.shape_terms.proofs.Triples.{rings3}
use Rattle.shape_terms.proofs.Order.{mul-nonneg, cancel-le_ℤ}
use Rattle.measure_terms.specs.Hulls.{Corner, IsHull, end, next, turn, vertex}
use Rattle.measure_terms.specs.Widths.{IsOfSide, IsWidth, Width, across_x, across_y, along}
use Rattle.measure_terms.proofs.Turns.{det, share_x, share_y}
use Rattle.measure_terms.proofs.Turns as Turns

-- ---- between two steps: z lies left of e and left of f, and e turns left to f

-- the share along a direction (a, b)
weighed : (d a z p f q e : ℤ) → d *ℤ z ≡ p *ℤ f -ℤ q *ℤ e → d *ℤ (a *ℤ z) ≡ p *ℤ (a *ℤ f) -ℤ q *ℤ (a *ℤ e)
weighed d a z p f q e h = let x = ap (λ (y : ℤ). a *ℤ y) h in omega (arith, ints, rings3, x)

added : (d x y p f g q e c : ℤ) → d *ℤ x ≡ p *ℤ f -ℤ q *ℤ e → d *ℤ y ≡ p *ℤ g -ℤ q *ℤ c → d *ℤ (x +ℤ y) ≡ p *ℤ (f +ℤ g) -ℤ q *ℤ (e +ℤ c)
added d x y p f g q e c h k = omega (arith, ints, rings, h, k)

shared : (d p q a b zx zy fx fy ex ey : ℤ) → d *ℤ zx ≡ p *ℤ fx -ℤ q *ℤ ex → d *ℤ zy ≡ p *ℤ fy -ℤ q *ℤ ey
    → d *ℤ (a *ℤ zx +ℤ b *ℤ zy) ≡ p *ℤ (a *ℤ fx +ℤ b *ℤ fy) -ℤ q *ℤ (a *ℤ ex +ℤ b *ℤ ey)
shared d p q a b zx zy fx fy ex ey h k =
    added d (a *ℤ zx) (b *ℤ zy) p (a *ℤ fx) (b *ℤ fy) q (a *ℤ ex) (b *ℤ ey) (weighed d a zx p fx q ex h) (weighed d b zy p fy q ey k)

sign : (d p q z f e : ℤ) → pos 0 <ℤ d → pos 0 ≤ℤ p → pos 0 ≤ℤ q → d *ℤ z ≡ p *ℤ f -ℤ q *ℤ e → pos 0 ≤ℤ e → f ≤ℤ pos 0 → z ≤ℤ pos 0
sign d p q z f e hd hp hq is he hf =
    let m = mul-nonneg p (neg_ℤ f) hp (omega (arith, ints, hf)) in
    let n = mul-nonneg q e hq he in
    cancel-le_ℤ d z (pos 0) hd (omega (arith, ints, rings, m, n, is))

no_more : (a b ex ey fx fy zx zy : ℤ) → pos 0 <ℤ det ex ey fx fy → pos 0 ≤ℤ det ex ey zx zy → pos 0 ≤ℤ det fx fy zx zy
    → pos 0 ≤ℤ (a *ℤ ex +ℤ b *ℤ ey) → (a *ℤ fx +ℤ b *ℤ fy) ≤ℤ pos 0 → (a *ℤ zx +ℤ b *ℤ zy) ≤ℤ pos 0
no_more a b ex ey fx fy zx zy d p q he hf =
    sign (det ex ey fx fy) (det ex ey zx zy) (det fx fy zx zy) (a *ℤ zx +ℤ b *ℤ zy) (a *ℤ fx +ℤ b *ℤ fy) (a *ℤ ex +ℤ b *ℤ ey) d p q
    (shared (det ex ey fx fy) (det ex ey zx zy) (det fx fy zx zy) a b zx zy fx fy ex ey (share_x ex ey fx fy zx zy) (share_y ex ey fx fy zx zy)) he hf

-- ---- along a direction

pub step_along : (a b : ℤ) (p q : Corner) → a *ℤ (q.x -ℤ p.x) +ℤ b *ℤ (q.y -ℤ p.y) ≡ along a b q -ℤ along a b p
step_along a b p q = omega (arith, ints, rings)

pub at_most : (a b : ℤ) (p q : Corner) → along a b q ≤ℤ along a b p → (a *ℤ (q.x -ℤ p.x) +ℤ b *ℤ (q.y -ℤ p.y)) ≤ℤ pos 0
at_most a b p q h = let e = step_along a b p q in omega (arith, ints, e, h)

pub at_least : (a b : ℤ) (p q : Corner) → along a b p ≤ℤ along a b q → pos 0 ≤ℤ (a *ℤ (q.x -ℤ p.x) +ℤ b *ℤ (q.y -ℤ p.y))
at_least a b p q h = let e = step_along a b p q in omega (arith, ints, e, h)

from_at_most : (a b : ℤ) (p q : Corner) → (a *ℤ (q.x -ℤ p.x) +ℤ b *ℤ (q.y -ℤ p.y)) ≤ℤ pos 0 → along a b q ≤ℤ along a b p
from_at_most a b p q h = let e = step_along a b p q in omega (arith, ints, e, h)

-- t is no less than the points before and behind it on a round that turns left there: no point left of both sides is more
pub corner_greatest : (a b : ℤ) (u t q s : Corner) → pos 0 <ℤ turn u t q → pos 0 ≤ℤ turn u t s → pos 0 ≤ℤ turn t q s → along a b u ≤ℤ along a b t
    → along a b q ≤ℤ along a b t → along a b s ≤ℤ along a b t
corner_greatest a b u t q s d p r before behind =
    from_at_most a b t s
    (no_more a b (t.x -ℤ u.x) (t.y -ℤ u.y) (q.x -ℤ t.x) (q.y -ℤ t.y) (s.x -ℤ t.x) (s.y -ℤ t.y)
    (subst (λ z. pos 0 <ℤ z) (sym (Turns.along u t q)) d) (subst (λ z. pos 0 ≤ℤ z) (sym (Turns.along u t s)) p) r (at_least a b u t before)
    (at_most a b t q behind))

-- ---- a place and the one before it

pub next_below : (n i : ℕ) → i < n → next n i < n
next_below n i l = grind (arith, nat_tests)

pub previous : (n k : ℕ) → k < n → (i : ℕ) × (i < n) × (next n i ≡ k)
previous n k l =
    let c : (k ≡ 0) ⊎ (1 ≤ k) = grind arith in
    elim c [
      | inl e ↦ (n - 1, omega (arith, l), wraps n (n - 1) k (omega (arith, l)) e)
      | inr m ↦ (k - 1, omega (arith, l, m), goes n (k - 1) k (omega (arith, m)) l)
    ]
  where
    wraps : (m i j : ℕ) → i + 1 ≡ m → j ≡ 0 → next m i ≡ j
    wraps m i j e f = grind (arith, nat_tests)

    goes : (m i j : ℕ) → i + 1 ≡ j → j < m → next m i ≡ j
    goes m i j e f = grind (arith, nat_tests)

-- ---- a vertex that no vertex exceeds along a direction no point of the set exceeds
pub greatest : (S : Corner → Type 0) (h : List Corner) (a b : ℤ) (k : ℕ) → IsHull S h → 3 ≤ length h → k < length h
    → ((j : ℕ) → j < length h → along a b (vertex h j) ≤ℤ along a b (vertex h k))
    → (s : Corner) → S s → along a b s ≤ℤ along a b (vertex h k)
greatest S h a b k is many l most s here =
    let n = length h in
    let before = previous n k l in
    let i = before.0 in
    let m = before.1 in
    let e = before.2 in
    let j = next n k in
    let d = subst (λ x. pos 0 <ℤ turn (vertex h i) (vertex h x) (vertex h (next n x))) e (is.turns i m many) in
    let p = subst (λ x. pos 0 ≤ℤ turn (vertex h i) (vertex h x) s) e (is.left i s m here) in
    corner_greatest a b (vertex h i) (vertex h k) (vertex h j) s d p (is.left k s l here) (most i m) (most j (next_below n k l))

-- ---- across a side

pub turn_along : (ax ay bx by px py : ℤ) → (neg_ℤ (by -ℤ ay) *ℤ px +ℤ (bx -ℤ ax) *ℤ py) -ℤ (neg_ℤ (by -ℤ ay) *ℤ ax +ℤ (bx -ℤ ax) *ℤ ay) ≡ det (bx -ℤ ax)
    (by -ℤ ay) (px -ℤ ax) (py -ℤ ay)
turn_along ax ay bx by px py = plain (bx -ℤ ax) (by -ℤ ay) px py ax ay
  where
    plain : (x y p q r s : ℤ) → (neg_ℤ y *ℤ p +ℤ x *ℤ q) -ℤ (neg_ℤ y *ℤ r +ℤ x *ℤ s) ≡ det x y (p -ℤ r) (q -ℤ s)
    plain x y p q r s = omega (arith, ints, rings)

pub side_width : (S : Corner → Type 0) (h : List Corner) (w : Width) → IsHull S h → 3 ≤ length h → IsOfSide h w
    → IsWidth S (neg_ℤ ((end h w.side).y -ℤ (vertex h w.side).y)) ((end h w.side).x -ℤ (vertex h w.side).x) w.across
side_width S h w is many o =
    let u = vertex h w.side in
    let v = end h w.side in
    let a = neg_ℤ (v.y -ℤ u.y) in
    let b = v.x -ℤ u.x in
    let t = vertex h o.far in
    let value = λ (p : Corner). turn_along u.x u.y v.x v.y p.x p.y in
    let top = value t in
    let across = o.across in
    let more = λ (j : ℕ) (l : j < length h).
    (compare (along a b (vertex h j)) (along a b t) (along a b u) (turn u v (vertex h j)) (turn u v t) (value (vertex h j)) top (o.reach.most j l)) in
    let most = greatest S h a b o.far is many o.reach.within more in
    record {
      most = λ p q s r. ranged (along a b p) (along a b q) (along a b t) (along a b u) (turn u v p) w.across (value p) (is.left w.side p o.side s) (most q r)
          (top ∙ sym across);
      from = u;
      to = t;
      from_in = is.of w.side o.side;
      to_in = is.of o.far o.reach.within;
      is = top ∙ sym across;
    }
  where
    compare : (x y z d e : ℤ) → x -ℤ z ≡ d → y -ℤ z ≡ e → d ≤ℤ e → x ≤ℤ y
    compare x y z d e f g l = omega (arith, ints, f, g, l)

    ranged : (x y t u d w : ℤ) → x -ℤ u ≡ d → pos 0 ≤ℤ d → y ≤ℤ t → t -ℤ u ≡ w → (y -ℤ x) ≤ℤ w
    ranged x y t u d w f g l k = omega (arith, ints, f, g, l, k)

-- the same by the direction across
pub width_across : (S : Corner → Type 0) (h : List Corner) (w : Width) → IsHull S h → 3 ≤ length h → IsOfSide h w
    → IsWidth S (across_x (vertex h w.side) (end h w.side)) (across_y (vertex h w.side) (end h w.side)) w.across
width_across S h w is many o =
    let u = vertex h w.side in
    let v = end h w.side in
    subst (λ a. IsWidth S a (v.x -ℤ u.x) w.across) (Turns.other u.y v.y) (side_width S h w is many o)
