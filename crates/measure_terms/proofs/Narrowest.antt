-- No direction gives a hull less width than the narrowest of its sides.
-- A direction is turned away from the way between its two farthest vertices, until a side lies across it.
use Rattle.std.proofs.Common.{◌≡◌, ◌⊎◌, inl, inr, ℕ, zero, suc, ◌+◌, ◌-◌, ◌<◌, ◌≤◌, List, length, ap, refl, sym, subst, ◌∙◌, arith}
use Rattle.std.proofs.Math.IntN.{ℤ, pos, ◌+ℤ◌, ◌-ℤ◌, ◌*ℤ◌, neg_ℤ}
use lib.Signed.{◌<ℤ◌, ◌≤ℤ◌}
use Rattle.std.proofs.lemmas.Int.{ints, by_lt_z}
use Rattle.shape_terms.proofs.Products.{rings}
use Rattle.shape_terms.proofs.Triples.{rings3}
use Rattle.shape_terms.proofs.Order.{mul-nonneg, mul-le_ℤ, mul-lt_ℤ, cancel-le_ℤ}
use Rattle.measure_terms.proofs.Turns.{det, swap}

-- ---- a direction and two steps

abbrev pub dot : (ax ay bx by : ℤ) → ℤ
dot ax ay bx by = ax *ℤ bx +ℤ ay *ℤ by

-- of three steps in the plane each is a sum of shares of the others
triple : (a b px py qx qy rx ry : ℤ) → dot a b px py *ℤ det qx qy rx ry ≡ dot a b qx qy *ℤ det px py rx ry -ℤ dot a b rx ry *ℤ det px py qx qy
triple a b px py qx qy rx ry = weighed a b (det qx qy rx ry) (det px py rx ry) (det px py qx qy) px py qx qy rx ry (share px py qx qy rx ry)
    (share' px py qx qy rx ry)
  where
    share : (ex ey fx fy zx zy : ℤ) → det fx fy zx zy *ℤ ex ≡ det ex ey zx zy *ℤ fx -ℤ det ex ey fx fy *ℤ zx
    share ex ey fx fy zx zy = omega (arith, ints, rings3)

    share' : (ex ey fx fy zx zy : ℤ) → det fx fy zx zy *ℤ ey ≡ det ex ey zx zy *ℤ fy -ℤ det ex ey fx fy *ℤ zy
    share' ex ey fx fy zx zy = omega (arith, ints, rings3)

    one : (c d e f x y z : ℤ) → d *ℤ x ≡ e *ℤ y -ℤ f *ℤ z → (c *ℤ x) *ℤ d ≡ (c *ℤ y) *ℤ e -ℤ (c *ℤ z) *ℤ f
    one c d e f x y z h = let k = ap (λ t. c *ℤ t) h in omega (arith, ints, rings3, k)

    sum : (d e f x y z u v w : ℤ) → x *ℤ d ≡ y *ℤ e -ℤ z *ℤ f → u *ℤ d ≡ v *ℤ e -ℤ w *ℤ f → (x +ℤ u) *ℤ d ≡ (y +ℤ v) *ℤ e -ℤ (z +ℤ w) *ℤ f
    sum d e f x y z u v w h k = omega (arith, ints, rings, h, k)

    weighed : (c g d e f x u y v z w : ℤ) → d *ℤ x ≡ e *ℤ y -ℤ f *ℤ z → d *ℤ u ≡ e *ℤ v -ℤ f *ℤ w
        → (c *ℤ x +ℤ g *ℤ u) *ℤ d ≡ (c *ℤ y +ℤ g *ℤ v) *ℤ e -ℤ (c *ℤ z +ℤ g *ℤ w) *ℤ f
    weighed c g d e f x u y v z w h k = sum d e f (c *ℤ x) (c *ℤ y) (c *ℤ z) (g *ℤ u) (g *ℤ v) (g *ℤ w) (one c d e f x y z h) (one g d e f u v w k)

-- a direction along which two steps that turn do not lead on is none
pub no_direction : (a b ex ey fx fy : ℤ) → dot a b ex ey ≡ pos 0 → dot a b fx fy ≡ pos 0 → pos 0 <ℤ det ex ey fx fy → (a ≡ pos 0) × (b ≡ pos 0)
no_direction a b ex ey fx fy e f d = (
  none (det ex ey fx fy) a (dot a b ex ey) (dot a b fx fy) fy ey d (first a b ex ey fx fy) e f,
  none (det ex ey fx fy) b (dot a b fx fy) (dot a b ex ey) ex
      fx d (second a b ex ey fx fy) f e,
)
  where
    first : (c g x y u v : ℤ) → c *ℤ det x y u v ≡ dot c g x y *ℤ v -ℤ dot c g u v *ℤ y
    first c g x y u v = omega (arith, ints, rings3)

    second : (c g x y u v : ℤ) → g *ℤ det x y u v ≡ dot c g u v *ℤ x -ℤ dot c g x y *ℤ u
    second c g x y u v = omega (arith, ints, rings3)

    none : (w z p q x y : ℤ) → pos 0 <ℤ w → z *ℤ w ≡ p *ℤ x -ℤ q *ℤ y → p ≡ pos 0 → q ≡ pos 0 → z ≡ pos 0
    none w z p q x y g h k m =
        let s = ap (λ t. t *ℤ x) k in
        let t = ap (λ t. t *ℤ y) m in
        let i = cancel-le_ℤ w z (pos 0) g (omega (arith, ints, rings, h, s, t)) in
        let j = cancel-le_ℤ w (pos 0) z g (omega (arith, ints, rings, h, s, t)) in
        omega (arith, ints, i, j)

-- ---- signs

-- a sum of three numbers of which none is below 0
no_less : (x y z : ℤ) → pos 0 ≤ℤ x → pos 0 ≤ℤ y → pos 0 ≤ℤ z → x ≡ neg_ℤ y -ℤ z → (x ≡ pos 0) × (y ≡ pos 0) × (z ≡ pos 0)
no_less x y z a b c e = (omega (arith, ints, a, b, c, e), omega (arith, ints, a, b, c, e), omega (arith, ints, a, b, c, e))

no_factor : (w z : ℤ) → pos 0 <ℤ w → z *ℤ w ≡ pos 0 → z ≡ pos 0
no_factor w z g h =
    let a = cancel-le_ℤ w z (pos 0) g (omega (arith, ints, rings, h)) in
    let b = cancel-le_ℤ w (pos 0) z g (omega (arith, ints, rings, h)) in
    omega (arith, ints, a, b)

up_up : (x y : ℤ) → pos 0 ≤ℤ x → pos 0 ≤ℤ y → pos 0 ≤ℤ (x *ℤ y)
up_up x y a b = mul-nonneg x y a b

down_down : (x y : ℤ) → x ≤ℤ pos 0 → y ≤ℤ pos 0 → pos 0 ≤ℤ (x *ℤ y)
down_down x y a b = let h = mul-nonneg (neg_ℤ x) (neg_ℤ y) (omega (arith, ints, a)) (omega (arith, ints, b)) in omega (arith, ints, rings, h)

-- ---- the vertices at both ends of a direction: e and f lead to and from the one that lies farthest along it, g and h to and from the one that lies least far

module _ (a b ex ey fx fy gx gy hx hy : ℤ) (some : (a ≡ pos 0) × (b ≡ pos 0) → ⊥) (to : pos 0 ≤ℤ dot a b ex ey) (from : dot a b fx fy ≤ℤ pos 0)
    (to' : dot a b gx gy ≤ℤ pos 0)
    (from' : pos 0 ≤ℤ dot a b hx hy) (bend : pos 0 <ℤ det ex ey fx fy) (bend' : pos 0 <ℤ det gx gy hx hy) where
  -- across the side that leads to the one the other is least, where the side that leads to that turns from it to the left
  pub least_across_to : pos 0 ≤ℤ det ex ey gx gy → det ex ey hx hy ≤ℤ pos 0
  least_across_to l =
      by_lt_z (pos 0) (det ex ey hx hy)
      (λ (m : pos 0 <ℤ det ex ey hx hy).
      let less : pos 0 ≤ℤ det ex ey hx hy = omega (arith, ints, m) in
      let t = triple a b ex ey gx gy hx hy in
      let r = no_less (dot a b ex ey *ℤ det gx gy hx hy) (neg_ℤ (dot a b gx gy *ℤ det ex ey hx hy)) (dot a b hx hy *ℤ det ex ey gx gy)
      (up_up (dot a b ex ey) (det gx gy hx hy) to (omega (arith, ints, bend'))) (down_up (dot a b gx gy) (det ex ey hx hy) to' less)
      (up_up (dot a b hx hy) (det ex ey gx gy) from' l)
      (same (dot a b ex ey *ℤ det gx gy hx hy) (dot a b gx gy *ℤ det ex ey hx hy) (dot a b hx hy *ℤ det ex ey gx gy) t) in
      let zero_to = no_factor (det gx gy hx hy) (dot a b ex ey) bend' r.0 in
      let s = triple a b ex ey fx fy hx hy in
      let first = ap (λ z. z *ℤ det fx fy hx hy) zero_to in
      let q = both (dot a b fx fy *ℤ det ex ey hx hy) (dot a b hx hy *ℤ det ex ey fx fy) (dot a b ex ey *ℤ det fx fy hx hy) s
      (zero_times (det fx fy hx hy) (dot a b ex ey) zero_to)
      (down_up (dot a b fx fy) (det ex ey hx hy) from less) (up_up (dot a b hx hy) (det ex ey fx fy) from' (omega (arith, ints, bend))) in
      let zero_from = no_factor (det ex ey hx hy) (dot a b fx fy) m q in
      absurd (some (no_direction a b ex ey fx fy zero_to zero_from bend)))
      (λ (m : det ex ey hx hy ≤ℤ pos 0). m)
    where
      down_up : (x y : ℤ) → x ≤ℤ pos 0 → pos 0 ≤ℤ y → pos 0 ≤ℤ neg_ℤ (x *ℤ y)
      down_up x y u v = let w = mul-nonneg (neg_ℤ x) y (omega (arith, ints, u)) v in omega (arith, ints, rings, w)

      same : (x y z : ℤ) → x ≡ y -ℤ z → x ≡ neg_ℤ (neg_ℤ y) -ℤ z
      same x y z e = omega (arith, ints, e)

      zero_times : (w z : ℤ) → z ≡ pos 0 → z *ℤ w ≡ pos 0
      zero_times w z e = let k = ap (λ t. t *ℤ w) e in omega (arith, ints, rings, k)

      both : (y z x : ℤ) → x ≡ y -ℤ z → x ≡ pos 0 → pos 0 ≤ℤ neg_ℤ y → pos 0 ≤ℤ z → y ≡ pos 0
      both y z x e o u v = omega (arith, ints, e, o, u, v)

  -- and the other way round, across the side that leads from the one
  pub least_across_from : det fx fy hx hy ≤ℤ pos 0 → pos 0 ≤ℤ det fx fy gx gy
  least_across_from l =
      by_lt_z (det fx fy gx gy) (pos 0)
      (λ (m : det fx fy gx gy <ℤ pos 0).
      let less : det fx fy gx gy ≤ℤ pos 0 = omega (arith, ints, m) in
      let t = triple a b fx fy gx gy hx hy in
      let r = all (dot a b fx fy *ℤ det gx gy hx hy) (dot a b gx gy *ℤ det fx fy hx hy) (dot a b hx hy *ℤ det fx fy gx gy) t
      (down_up (dot a b fx fy) (det gx gy hx hy) from (omega (arith, ints, bend'))) (down_down (dot a b gx gy) (det fx fy hx hy) to' l)
      (up_down (dot a b hx hy) (det fx fy gx gy) from' less) in
      let zero_from = no_factor (det gx gy hx hy) (dot a b fx fy) bend' r in
      let s = triple a b ex ey fx fy gx gy in
      let q = both (dot a b ex ey *ℤ det fx fy gx gy) (dot a b fx fy *ℤ det ex ey gx gy) (dot a b gx gy *ℤ det ex ey fx fy) s
      (zero_times (det ex ey gx gy) (dot a b fx fy) zero_from)
      (up_down (dot a b ex ey) (det fx fy gx gy) to less) (down_up (dot a b gx gy) (det ex ey fx fy) to' (omega (arith, ints, bend))) in
      let zero_to = no_factor (neg_ℤ (det fx fy gx gy)) (dot a b ex ey) (omega (arith, ints, m)) (negated (dot a b ex ey) (det fx fy gx gy) q) in
      absurd (some (no_direction a b ex ey fx fy zero_to zero_from bend)))
      (λ (m : pos 0 ≤ℤ det fx fy gx gy). m)
    where
      down_up : (x y : ℤ) → x ≤ℤ pos 0 → pos 0 ≤ℤ y → (x *ℤ y) ≤ℤ pos 0
      down_up x y u v = let w = mul-nonneg (neg_ℤ x) y (omega (arith, ints, u)) v in omega (arith, ints, rings, w)

      up_down : (x y : ℤ) → pos 0 ≤ℤ x → y ≤ℤ pos 0 → (x *ℤ y) ≤ℤ pos 0
      up_down x y u v = let w = mul-nonneg x (neg_ℤ y) u (omega (arith, ints, v)) in omega (arith, ints, rings, w)

      all : (x y z : ℤ) → x ≡ y -ℤ z → x ≤ℤ pos 0 → pos 0 ≤ℤ y → z ≤ℤ pos 0 → x ≡ pos 0
      all x y z e u v w = omega (arith, ints, e, u, v, w)

      zero_times : (w z : ℤ) → z ≡ pos 0 → z *ℤ w ≡ pos 0
      zero_times w z e = let k = ap (λ t. t *ℤ w) e in omega (arith, ints, rings, k)

      both : (x y z : ℤ) → x ≡ y -ℤ z → y ≡ pos 0 → x ≤ℤ pos 0 → z ≤ℤ pos 0 → x ≡ pos 0
      both x y z e o u v = omega (arith, ints, e, o, u, v)

      negated : (x y : ℤ) → x *ℤ y ≡ pos 0 → x *ℤ neg_ℤ y ≡ pos 0
      negated x y e = omega (arith, ints, rings, e)

-- ---- a direction turned away from a step shortens it

-- of numbers p / A and q / B that are cosines, with r and s their sines: where the angle grows, the cosine falls
smaller : (p q r s m n k : ℤ) → m *ℤ k ≡ p *ℤ p +ℤ r *ℤ r → n *ℤ k ≡ q *ℤ q +ℤ s *ℤ s → pos 0 <ℤ k → pos 0 ≤ℤ p → pos 0 ≤ℤ s → (p *ℤ s) ≤ℤ (q *ℤ r)
    → ((p *ℤ p) *ℤ n) ≤ℤ ((q *ℤ q) *ℤ m)
smaller p q r s m n k e f some u v l =
    let g = squares (p *ℤ s) (q *ℤ r) (mul-nonneg p s u v) l in
    cancel-le_ℤ k ((p *ℤ p) *ℤ n) ((q *ℤ q) *ℤ m) some (weighed (p *ℤ p) (q *ℤ q) (r *ℤ r) (s *ℤ s) m n k e f (order p q r s g))
  where
    squares : (x y : ℤ) → pos 0 ≤ℤ x → x ≤ℤ y → (x *ℤ x) ≤ℤ (y *ℤ y)
    squares x y a b =
        let c = mul-le_ℤ x x y a b in
        let d = mul-le_ℤ y x y (omega (arith, ints, a, b)) b in
        omega (arith, ints, rings, c, d)

    assoc : (x y z : ℤ) → (x *ℤ y) *ℤ z ≡ x *ℤ (y *ℤ z)
    assoc x y z = omega (arith, ints, rings3)

    inner : (x y : ℤ) → y *ℤ (x *ℤ y) ≡ x *ℤ (y *ℤ y)
    inner x y = omega (arith, ints, rings3)

    -- (p s)(p s) = (p p)(s s)
    regroup : (x y : ℤ) → (x *ℤ y) *ℤ (x *ℤ y) ≡ (x *ℤ x) *ℤ (y *ℤ y)
    regroup x y = assoc x y (x *ℤ y) ∙ ap (λ t. x *ℤ t) (inner x y) ∙ sym (assoc x x (y *ℤ y))

    order : (x y z w : ℤ) → ((x *ℤ w) *ℤ (x *ℤ w)) ≤ℤ ((y *ℤ z) *ℤ (y *ℤ z)) → ((x *ℤ x) *ℤ (w *ℤ w)) ≤ℤ ((y *ℤ y) *ℤ (z *ℤ z))
    order x y z w h = let c = regroup x w in let d = regroup y z in omega (arith, ints, c, d, h)

    -- with the squares as numbers
    weighed : (x y z w i j o : ℤ) → i *ℤ o ≡ x +ℤ z → j *ℤ o ≡ y +ℤ w → (x *ℤ w) ≤ℤ (y *ℤ z) → (o *ℤ (x *ℤ j)) ≤ℤ (o *ℤ (y *ℤ i))
    weighed x y z w i j o g h t =
        let c = ap (λ a. x *ℤ a) h in
        let d = ap (λ a. y *ℤ a) g in
        omega (arith, ints, rings3, c, d, t)

-- the same of steps: u turned to v, away from d
lagrange : (a b x y : ℤ) → (a *ℤ a +ℤ b *ℤ b) *ℤ (x *ℤ x +ℤ y *ℤ y) ≡ dot a b x y *ℤ dot a b x y +ℤ det a b x y *ℤ det a b x y
lagrange a b x y =
    let n = x *ℤ x +ℤ y *ℤ y in
    let e = first a b x y in
    let f = second a b x y in
    apart a b n ∙ both a b (a *ℤ n) (b *ℤ n) (dot a b x y) (det a b x y) x y e f ∙ whole a b x y (dot a b x y) (det a b x y)
  where
    apart : (c g o : ℤ) → (c *ℤ c +ℤ g *ℤ g) *ℤ o ≡ c *ℤ (c *ℤ o) +ℤ g *ℤ (g *ℤ o)
    apart c g o = omega (arith, ints, rings3)

    first : (c g z w : ℤ) → c *ℤ (z *ℤ z +ℤ w *ℤ w) ≡ dot c g z w *ℤ z +ℤ det c g z w *ℤ w
    first c g z w = omega (arith, ints, rings3)

    second : (c g z w : ℤ) → g *ℤ (z *ℤ z +ℤ w *ℤ w) ≡ dot c g z w *ℤ w -ℤ det c g z w *ℤ z
    second c g z w = omega (arith, ints, rings3)

    both : (c g i j q s z w : ℤ) → i ≡ q *ℤ z +ℤ s *ℤ w → j ≡ q *ℤ w -ℤ s *ℤ z → c *ℤ i +ℤ g *ℤ j ≡ c *ℤ (q *ℤ z +ℤ s *ℤ w) +ℤ g *ℤ (q *ℤ w -ℤ s *ℤ z)
    both c g i j q s z w h k = λ o. c *ℤ h o +ℤ g *ℤ k o

    whole : (c g z w q s : ℤ) → c *ℤ (q *ℤ z +ℤ s *ℤ w) +ℤ g *ℤ (q *ℤ w -ℤ s *ℤ z) ≡ q *ℤ dot c g z w +ℤ s *ℤ det c g z w
    whole c g z w q s = omega (arith, ints, rings3)

-- (u.d) det(v, d) - (v.d) det(u, d) = det(v, u) |d|^2
turned_by : (a b c g x y : ℤ) → det c g a b *ℤ (x *ℤ x +ℤ y *ℤ y) ≡ dot a b x y *ℤ det c g x y -ℤ dot c g x y *ℤ det a b x y
turned_by a b c g x y =
    let n = x *ℤ x +ℤ y *ℤ y in
    apart a b c g n ∙ (λ i. c *ℤ second a b x y i -ℤ g *ℤ first a b x y i) ∙ whole c g x y (dot a b x y) (det a b x y)
    ∙ either (dot a b x y *ℤ det c g x y) (det a b x y) (dot c g x y)
  where
    either : (z s p : ℤ) → z -ℤ s *ℤ p ≡ z -ℤ p *ℤ s
    either z s p = omega (arith, ints, rings)

    apart : (i j o p m : ℤ) → (o *ℤ j -ℤ p *ℤ i) *ℤ m ≡ o *ℤ (j *ℤ m) -ℤ p *ℤ (i *ℤ m)
    apart i j o p m = omega (arith, ints, rings3)

    first : (i j z w : ℤ) → i *ℤ (z *ℤ z +ℤ w *ℤ w) ≡ dot i j z w *ℤ z +ℤ det i j z w *ℤ w
    first i j z w = omega (arith, ints, rings3)

    second : (i j z w : ℤ) → j *ℤ (z *ℤ z +ℤ w *ℤ w) ≡ dot i j z w *ℤ w -ℤ det i j z w *ℤ z
    second i j z w = omega (arith, ints, rings3)

    whole : (o p z w q s : ℤ) → o *ℤ (q *ℤ w -ℤ s *ℤ z) -ℤ p *ℤ (q *ℤ z +ℤ s *ℤ w) ≡ q *ℤ det o p z w -ℤ s *ℤ dot o p z w
    whole o p z w q s = omega (arith, ints, rings3)

square : (x : ℤ) → pos 0 ≤ℤ (x *ℤ x)
square x =
    by_lt_z x (pos 0)
    (λ (l : x <ℤ pos 0). down_down x x (omega (arith, ints, l)) (omega (arith, ints, l)))
    (λ (l : pos 0 ≤ℤ x). mul-nonneg x x l l)

-- only a step that is none has no length
no_square : (x y : ℤ) → (x *ℤ x +ℤ y *ℤ y) ≤ℤ pos 0 → x ≡ pos 0
no_square x y l =
    let b = square y in
    by_lt_z x (pos 0)
    (λ (m : x <ℤ pos 0). absurd
    (let c = mul-lt_ℤ (neg_ℤ x) (pos 0) (neg_ℤ x) (omega (arith, ints, m)) (omega (arith, ints, m)) in omega (arith, ints, rings, c, b, l)))
    (λ (m : pos 0 ≤ℤ x). by_lt_z (pos 0) x
    (λ (o : pos 0 <ℤ x). absurd (let c = mul-lt_ℤ x (pos 0) x o o in omega (arith, ints, rings, c, b, l)))
    (λ (o : x ≤ℤ pos 0). omega (arith, ints, m, o)))

pub some_square : (a b x y : ℤ) → pos 0 <ℤ dot a b x y → pos 0 <ℤ (x *ℤ x +ℤ y *ℤ y)
some_square a b x y l =
    by_lt_z (pos 0) (x *ℤ x +ℤ y *ℤ y)
    (λ (m : pos 0 <ℤ (x *ℤ x +ℤ y *ℤ y)). m)
    (λ (m : (x *ℤ x +ℤ y *ℤ y) ≤ℤ pos 0). absurd
    (let e = ap (λ t. a *ℤ t) (no_square x y m) in let f = ap (λ t. b *ℤ t) (no_square y x (omega (arith, ints, m))) in
    omega (arith, ints, rings, e, f, l)))

-- the direction across the side s is reached by turning u away from d: so it gives no more width
pub shorter : (a b sx sy x y p : ℤ) → p ≡ dot sy (neg_ℤ sx) x y → pos 0 ≤ℤ p → pos 0 ≤ℤ det a b x y → pos 0 ≤ℤ dot a b sx sy → pos 0 <ℤ (x *ℤ x +ℤ y *ℤ y)
    → ((p *ℤ p) *ℤ (a *ℤ a +ℤ b *ℤ b)) ≤ℤ ((dot a b x y *ℤ dot a b x y) *ℤ (sx *ℤ sx +ℤ sy *ℤ sy))
shorter a b sx sy x y p is up turn side some =
    let r = det sy (neg_ℤ sx) x y in
    let l = lagrange sy (neg_ℤ sx) x y in
    let t = turned_by a b sy (neg_ℤ sx) x y in
    let n = mul-nonneg (dot a b sx sy) (x *ℤ x +ℤ y *ℤ y) side (omega (arith, ints, some)) in
    smaller p (dot a b x y) r (det a b x y) (sx *ℤ sx +ℤ sy *ℤ sy) (a *ℤ a +ℤ b *ℤ b) (x *ℤ x +ℤ y *ℤ y)
    (ap (λ z. z *ℤ (x *ℤ x +ℤ y *ℤ y)) (length sx sy) ∙ l ∙ ap (λ z. z *ℤ z +ℤ r *ℤ r) (sym is)) (lagrange a b x y) some up turn
    (order (dot a b sx sy *ℤ (x *ℤ x +ℤ y *ℤ y)) (dot a b x y *ℤ r) (p *ℤ det a b x y)
    (ap (λ z. z *ℤ (x *ℤ x +ℤ y *ℤ y)) (across a b sx sy) ∙ t ∙ ap (λ z. dot a b x y *ℤ r -ℤ z *ℤ det a b x y) (sym is)) n)
  where
    length : (z w : ℤ) → z *ℤ z +ℤ w *ℤ w ≡ w *ℤ w +ℤ neg_ℤ z *ℤ neg_ℤ z
    length z w = omega (arith, ints, rings)

    across : (c g z w : ℤ) → dot c g z w ≡ det w (neg_ℤ z) c g
    across c g z w = omega (arith, ints, rings)

    order : (o z w : ℤ) → o ≡ z -ℤ w → pos 0 ≤ℤ o → w ≤ℤ z
    order o z w e m = omega (arith, ints, e, m)

-- and the other way round
pub shorter' : (a b sx sy x y p : ℤ) → p ≡ dot sy (neg_ℤ sx) x y → pos 0 ≤ℤ p → det a b x y ≤ℤ pos 0 → dot a b sx sy ≤ℤ pos 0 → pos 0 <ℤ (x *ℤ x +ℤ y *ℤ y)
    → ((p *ℤ p) *ℤ (a *ℤ a +ℤ b *ℤ b)) ≤ℤ ((dot a b x y *ℤ dot a b x y) *ℤ (sx *ℤ sx +ℤ sy *ℤ sy))
shorter' a b sx sy x y p is up turn side some =
    let e = mirror_dot a b x y in
    let k = shorter (neg_ℤ a) b sx (neg_ℤ sy) (neg_ℤ x) y p (is ∙ mirror_p sx sy x y) up (mirror_turn a b x y turn) (mirror_side a b sx sy side)
    (subst (λ z. pos 0 <ℤ z) (mirror_some x y) some) in
    finish ((p *ℤ p)) (a *ℤ a +ℤ b *ℤ b) (neg_ℤ a *ℤ neg_ℤ a +ℤ b *ℤ b) (dot a b x y) (dot (neg_ℤ a) b (neg_ℤ x) y) (sx *ℤ sx +ℤ sy *ℤ sy)
    (sx *ℤ sx +ℤ neg_ℤ sy *ℤ neg_ℤ sy) (lengths a b) e (mirror_length sx sy) k
  where
    mirror_dot : (c g z w : ℤ) → dot c g z w ≡ dot (neg_ℤ c) g (neg_ℤ z) w
    mirror_dot c g z w = omega (arith, ints, rings)

    finish : (o i i' j j' l l' : ℤ) → i ≡ i' → j ≡ j' → l ≡ l' → (o *ℤ i') ≤ℤ ((j' *ℤ j') *ℤ l') → (o *ℤ i) ≤ℤ ((j *ℤ j) *ℤ l)
    finish o i i' j j' l l' e f g h = subst (λ z. (o *ℤ z) ≤ℤ ((j *ℤ j) *ℤ l)) (sym e)
        (subst (λ z. (o *ℤ i') ≤ℤ ((z *ℤ z) *ℤ l)) (sym f) (subst (λ z. (o *ℤ i') ≤ℤ ((j' *ℤ j') *ℤ z)) (sym g) h))

    lengths : (c g : ℤ) → c *ℤ c +ℤ g *ℤ g ≡ neg_ℤ c *ℤ neg_ℤ c +ℤ g *ℤ g
    lengths c g = omega (arith, ints, rings)

    mirror_p : (z w c g : ℤ) → dot w (neg_ℤ z) c g ≡ dot (neg_ℤ w) (neg_ℤ z) (neg_ℤ c) g
    mirror_p z w c g = omega (arith, ints, rings)

    mirror_turn : (c g z w : ℤ) → det c g z w ≤ℤ pos 0 → pos 0 ≤ℤ det (neg_ℤ c) g (neg_ℤ z) w
    mirror_turn c g z w h = omega (arith, ints, rings, h)

    mirror_side : (c g z w : ℤ) → dot c g z w ≤ℤ pos 0 → pos 0 ≤ℤ dot (neg_ℤ c) g z (neg_ℤ w)
    mirror_side c g z w h = omega (arith, ints, rings, h)

    mirror_some : (z w : ℤ) → z *ℤ z +ℤ w *ℤ w ≡ neg_ℤ z *ℤ neg_ℤ z +ℤ w *ℤ w
    mirror_some z w = omega (arith, ints, rings)

    mirror_length : (z w : ℤ) → z *ℤ z +ℤ w *ℤ w ≡ z *ℤ z +ℤ neg_ℤ w *ℤ neg_ℤ w
    mirror_length z w = omega (arith, ints, rings)
