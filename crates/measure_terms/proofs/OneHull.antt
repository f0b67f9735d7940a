-- A set has one hull: two rounds that are hulls of it have the same vertices.
-- Vertices are found one after the other, from the first corner of the set on.
use Rattle.std.proofs.Common.{◌≡◌, ◌⊎◌, inl, inr, ℕ, zero, suc, ◌+◌, ◌-◌, ◌<◌, ◌≤◌, List, length, ap, sym, subst, ◌∙◌, arith}
use Rattle.std.proofs.Math.IntN.{ℤ, pos, ◌-ℤ◌, ◌*ℤ◌, neg_ℤ}
use lib.Signed.{◌<ℤ◌, ◌≤ℤ◌}
use Rattle.std.proofs.lemmas.Int.{ints, by_lt_z}
use Rattle.std.proofs.lemmas.Bool.Decides.{nat_tests}
use Rattle.std.proofs.lemmas.List.{ext_get_or}
use Rattle.shape_terms.proofs.Products.{rings}
use Rattle.shape_terms.proofs.Order.{mul-nonneg, mul-le_ℤ, cancel-le_ℤ}
use Rattle.measure_terms.specs.Hulls.{Corner, IsBefore, IsHull, IsUpTo, end, next, origin, turn, vertex}
use Rattle.measure_terms.proofs.Turns.{det, swap, share_x, share_y, less_left, less_right, along, between}
use Rattle.measure_terms.proofs.Hulled.{same_corner, not_both}

-- ---- two steps along one line, of which neither goes farther than the other

-- x / e = y / d with 0 ≤ y ≤ d, and the other way round
no_longer : (x e d y : ℤ) → pos 0 <ℤ d → pos 0 ≤ℤ y → y ≤ℤ d → x *ℤ d ≡ e *ℤ y → pos 0 ≤ℤ e → (pos 0 ≤ℤ x) × (x ≤ℤ e)
no_longer x e d y p q r h l =
    let m = mul-nonneg e y l q in
    let n = mul-nonneg e (d -ℤ y) l (omega (arith, ints, r)) in
    (cancel-le_ℤ d (pos 0) x p (omega (arith, ints, rings, m, h)), cancel-le_ℤ d x e p (omega (arith, ints, rings, n, h)))

equal_up : (x e d y g z : ℤ) → pos 0 <ℤ d → pos 0 ≤ℤ y → y ≤ℤ d → pos 0 <ℤ g → pos 0 ≤ℤ z → z ≤ℤ g → x *ℤ d ≡ e *ℤ y → e *ℤ g ≡ x *ℤ z → pos 0 ≤ℤ e → x ≡ e
equal_up x e d y g z p q r s t u h k l =
    let a = no_longer x e d y p q r h l in
    let b = no_longer e x g z s t u k a.0 in
    let c = a.1 in
    let f = b.1 in
    omega (arith, ints, c, f)

negated : (x d e y : ℤ) → x *ℤ d ≡ e *ℤ y → neg_ℤ x *ℤ d ≡ neg_ℤ e *ℤ y
negated x d e y h = omega (arith, ints, rings, h)

unnegated : (x e : ℤ) → neg_ℤ x ≡ neg_ℤ e → x ≡ e
unnegated x e h = omega (arith, ints, h)

equal_steps : (x e d y g z : ℤ) → pos 0 <ℤ d → pos 0 ≤ℤ y → y ≤ℤ d → pos 0 <ℤ g → pos 0 ≤ℤ z → z ≤ℤ g → x *ℤ d ≡ e *ℤ y → e *ℤ g ≡ x *ℤ z → x ≡ e
equal_steps x e d y g z p q r s t u h k =
    by_lt_z e (pos 0)
    (λ (l : e <ℤ pos 0). unnegated x e (equal_up (neg_ℤ x) (neg_ℤ e) d y g z p q r s t u (negated x d e y h) (negated e g x z k) (omega (arith, ints, l))))
    (λ (l : pos 0 ≤ℤ e). equal_up x e d y g z p q r s t u h k l)

-- the share of a step along another of its line
share : (w z x u y v : ℤ) → w *ℤ z ≡ x *ℤ u -ℤ y *ℤ v → x ≡ pos 0 → z *ℤ w ≡ v *ℤ neg_ℤ y
share w z x u y v s e = let a = ap (λ t. t *ℤ u) e in omega (arith, ints, rings, s, a)

-- ---- the next vertex

-- from p the rounds go to q and to r, and from there on to s and to t
module _ (p q r s t : Corner) (one : pos 0 ≤ℤ turn p q r) (other : pos 0 ≤ℤ turn p r q) (bend : pos 0 <ℤ turn p q s) (bend' : pos 0 <ℤ turn p r t)
    (far : pos 0 ≤ℤ turn q s r) (far' : pos 0 ≤ℤ turn r t q) (side : pos 0 ≤ℤ turn p r s) (side' : pos 0 ≤ℤ turn p q t) where
  abbrev ex : ℤ
  ex = q.x -ℤ p.x

  abbrev ey : ℤ
  ey = q.y -ℤ p.y

  abbrev gx : ℤ
  gx = r.x -ℤ p.x

  abbrev gy : ℤ
  gy = r.y -ℤ p.y

  abbrev fx : ℤ
  fx = s.x -ℤ p.x

  abbrev fy : ℤ
  fy = s.y -ℤ p.y

  abbrev hx : ℤ
  hx = t.x -ℤ p.x

  abbrev hy : ℤ
  hy = t.y -ℤ p.y

  -- both next vertices lie on one line with p
  level : det ex ey gx gy ≡ pos 0
  level = let a = swap ex ey gx gy in omega (arith, ints, a, one, other)

  level' : det gx gy ex ey ≡ pos 0
  level' = let a = swap ex ey gx gy in omega (arith, ints, a, one, other)

  -- (s - q) from (r - q)
  beyond : (ax ay bx by cx cy : ℤ) → det (bx -ℤ ax) (by -ℤ ay) (cx -ℤ ax) (cy -ℤ ay) ≡ det bx by cx cy -ℤ det bx by ax ay -ℤ det ax ay cx cy
  beyond ax ay bx by cx cy =
      let a = less_left bx by ax ay (cx -ℤ ax) (cy -ℤ ay) in
      let b = less_right cx cy ax ay bx by in
      let c = less_right cx cy ax ay ax ay in
      let d = swap ax ay ax ay in
      omega (arith, ints, a, b, c, d)

  turn_from : (o a b c : Corner) → turn a b c ≡ det ((b.x -ℤ o.x) -ℤ (a.x -ℤ o.x)) ((b.y -ℤ o.y) -ℤ (a.y -ℤ o.y)) ((c.x -ℤ o.x) -ℤ (a.x -ℤ o.x))
      ((c.y -ℤ o.y) -ℤ (a.y -ℤ o.y))
  turn_from o a b c = let x = between o.x a.x b.x in let y = between o.y a.y b.y in let u = between o.x a.x c.x in let v = between o.y a.y c.y in cc

  no_more : det gx gy fx fy ≤ℤ det ex ey fx fy
  no_more =
      let a = turn_from p q s r in
      let b = beyond ex ey fx fy gx gy in
      let c = swap fx fy gx gy in
      let d = swap fx fy ex ey in
      let e = level in
      omega (arith, ints, a, b, c, d, e, far)

  no_more' : det ex ey hx hy ≤ℤ det gx gy hx hy
  no_more' =
      let a = turn_from p r t q in
      let b = beyond gx gy hx hy ex ey in
      let c = swap hx hy ex ey in
      let d = swap hx hy gx gy in
      let e = level' in
      omega (arith, ints, a, b, c, d, e, far')

  -- det e f * g = det e g * f - det f g * e
  column : gx ≡ ex
  column =
      let a = share (det ex ey fx fy) gx (det ex ey gx gy) fx (det fx fy gx gy) ex (share_x ex ey fx fy gx gy) level in
      let b = share (det gx gy hx hy) ex (det gx gy ex ey) hx (det hx hy ex ey) gx (share_x gx gy hx hy ex ey) level' in
      let c = swap gx gy fx fy in
      let d = swap ex ey hx hy in
      equal_steps gx ex (det ex ey fx fy) (det gx gy fx fy) (det gx gy hx hy) (det ex ey hx hy) bend side no_more bend' side' no_more'
      (a ∙ ap (λ z. ex *ℤ z) (sym c)) (b ∙ ap (λ z. gx *ℤ z) (sym d))

  row : gy ≡ ey
  row =
      let a = share (det ex ey fx fy) gy (det ex ey gx gy) fy (det fx fy gx gy) ey (share_y ex ey fx fy gx gy) level in
      let b = share (det gx gy hx hy) ey (det gx gy ex ey) hy (det hx hy ex ey) gy (share_y gx gy hx hy ex ey) level' in
      let c = swap gx gy fx fy in
      let d = swap ex ey hx hy in
      equal_steps gy ey (det ex ey fx fy) (det gx gy fx fy) (det gx gy hx hy) (det ex ey hx hy) bend side no_more bend' side' no_more'
      (a ∙ ap (λ z. ey *ℤ z) (sym c)) (b ∙ ap (λ z. gy *ℤ z) (sym d))

  pub same_next : r ≡ q
  same_next =
      let c = column in
      let d = row in
      let x : r.x ≡ q.x = omega (arith, ints, c) in
      let y : r.y ≡ q.y = omega (arith, ints, d) in
      λ i. record { x = x i; y = y i }

-- ---- no vertex but the first is the first

within : (n i : ℕ) → i + 1 < n → next n i ≡ i + 1
within n i l = grind (arith, nat_tests)

wraps : (n i : ℕ) → i + 1 ≡ n → next n i ≡ 0
wraps n i e = grind (arith, nat_tests)

next_below : (n j : ℕ) → j < n → next n j < n
next_below n j m = grind (arith, nat_tests)

-- the first corner of the set comes before each vertex behind the first
later : (S : Corner → Type 0) (h : List Corner) → IsHull S h → (i : ℕ) → i + 1 < length h → vertex h (i + 1) ≡ vertex h 0 → ⊥
later S h is i l e =
    let c : (i < is.far) ⊎ (is.far ≤ i) = grind arith in
    elim c [
      | inl m ↦ not_both (vertex h i) (vertex h (i + 1)) (is.once.up i m)
          (subst (λ p. IsUpTo p (vertex h i)) (sym e) (is.first (vertex h i) (is.of i (omega (arith, l)))))
      | inr m ↦ (
          let d = is.once.down (i + 1) (omega (arith, m)) l (omega (arith, l)) in
          not_both (end h (i + 1)) (vertex h (i + 1)) d
          (subst (λ p. IsUpTo p (end h (i + 1))) (sym e) (is.first (end h (i + 1)) (is.of (next (length h) (i + 1)) (next_below (length h) (i + 1) l)))))
    ]

-- ---- the same rounds

module _ (S : Corner → Type 0) (h k : List Corner) (a : IsHull S h) (b : IsHull S k) (many : 3 ≤ length h) (many' : 3 ≤ length k) where
  first : vertex h 0 ≡ vertex k 0
  first = same_corner (vertex h 0) (vertex k 0) (a.first (vertex k 0) (b.of 0 (omega (arith, many')))) (b.first (vertex h 0) (a.of 0 (omega (arith, many))))

  -- where both have the same vertex at a place, their sides from there end alike
  ends : (i : ℕ) → i < length h → i < length k → vertex h i ≡ vertex k i → end k i ≡ end h i
  ends i l m e =
      let n = length h in
      let n' = length k in
      let in_h = λ (j : ℕ) (g : j < n). a.of (next n j) (next_below n j g) in
      let in_k = λ (j : ℕ) (g : j < n'). b.of (next n' j) (next_below n' j g) in
      let j = next n i in
      let j' = next n' i in
      let w = next_below n i l in
      let w' = next_below n' i m in
      let to_h = λ (x y : Corner) (s : pos 0 ≤ℤ turn (vertex k i) x y). subst (λ z. pos 0 ≤ℤ turn z x y) (sym e) s in
      same_next (vertex h i) (end h i) (end k i) (end h j) (end k j')
      (a.left i (end k i) l (in_k i m)) (to_h (end k i) (end h i) (b.left i (end h i) m (in_h i l)))
      (a.turns i l many) (subst (λ z. pos 0 <ℤ turn z (end k i) (end k j')) (sym e) (b.turns i m many'))
      (a.left j (end k i) w (in_k i m)) (b.left j' (end h i) w' (in_h i l))
      (to_h (end k i) (end h j) (b.left i (end h j) m (in_h j w))) (a.left i (end k j') l (in_k j' w'))

  -- neither round ends before the other
  go_on : (i : ℕ) → i + 1 < length h → i < length k → vertex h i ≡ vertex k i → i + 1 < length k
  go_on i l m e =
      let c : (i + 1 < length k) ⊎ (i + 1 ≡ length k) = grind arith in
      elim c [
        | inl g ↦ g
        | inr g ↦ absurd (
            let f = ends i (omega (arith, l)) m e in
            let x = ap (vertex k) (wraps (length k) i g) in
            let y = ap (vertex h) (within (length h) i l) in
            later S h a i l (sym y ∙ sym f ∙ x ∙ sym first))
      ]

  agree : (i : ℕ) → i < length h → (i < length k) × (vertex h i ≡ vertex k i)
  agree zero l = (omega (arith, many'), first)
  agree (suc i) l =
      let r = agree i (omega (arith, l)) in
      let g : i + 1 < length h = omega (arith, l) in
      let m = go_on i g r.0 r.1 in
      let f = ends i (omega (arith, l)) r.0 r.1 in
      let x = ap (vertex k) (within (length k) i m) in
      let y = ap (vertex h) (within (length h) i g) in
      let s : i + 1 ≡ suc i = omega arith in
      (omega (arith, m), subst (λ j. vertex h j ≡ vertex k j) s (sym y ∙ sym f ∙ x))

  pub no_more_vertices : length h ≤ length k
  no_more_vertices = (let r = (agree (length h - 1) (omega (arith, many))).0 in omega (arith, r))

pub one_hull : (S : Corner → Type 0) (h k : List Corner) → IsHull S h → IsHull S k → 3 ≤ length h → 3 ≤ length k → h ≡ k
one_hull S h k a b l m =
    let x = no_more_vertices S h k a b l m in
    let y = no_more_vertices S k h b a m l in
    ext_get_or origin h k (omega (arith, x, y)) (λ i g. (agree S h k a b l m i g).1)
