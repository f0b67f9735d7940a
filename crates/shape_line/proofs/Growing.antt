-- How a run goes on to its next point: the line stays, or the slope becomes that from a first leaning point to the new one.
-- Heights may rise or fall; nothing is said of the axes of the plane.
use Rattle.std.proofs.Common.{◌≡◌, refl, ap, arith}
use Rattle.std.proofs.Math.IntN.{ℤ, pos, ◌+ℤ◌, ◌-ℤ◌, ◌*ℤ◌, neg_ℤ}
use lib.Signed.{◌<ℤ◌, ◌≤ℤ◌}
use Rattle.std.proofs.lemmas.Int.{ints, by_lt_z}
use Rattle.shape_terms.proofs.Products.{rings}
use Rattle.shape_terms.proofs.Order.{mul-le_ℤ, mul-nonneg, cancel-le_ℤ, cancel-lt_ℤ}
use Rattle.shape_terms.proofs.Triples.{rings3}
use Rattle.shape_line.specs.Segments.{Seg, rest, IsTaken, IsSegment, longer, raised, IsLonger}

-- ---- multiples of b

-- where a*d + 1 is a multiple of b, b divides n as soon as it divides a*n
pub divides : (a b d k n m : ℤ) → a *ℤ d +ℤ pos 1 ≡ b *ℤ k → a *ℤ n ≡ b *ℤ m → n ≡ b *ℤ (k *ℤ n -ℤ d *ℤ m)
divides a b d k n m h e =
    let x = ap (λ (z : ℤ). z *ℤ n) h in
    let y = ap (λ (z : ℤ). d *ℤ z) e in
    omega (arith, ints, rings3, x, y)

-- a multiple of b above 0 is at least b
pub least_multiple : (b n m : ℤ) → pos 0 <ℤ b → n ≡ b *ℤ m → pos 0 <ℤ n → b ≤ℤ n
least_multiple b n m hb e hn =
    by_lt_z (pos 0) m
    (λ (l : pos 0 <ℤ m). let k = mul-le_ℤ b (pos 1) m (omega (arith, ints)) (omega (arith, ints)) in omega (arith, ints, rings, k))
    (λ (l : m ≤ℤ pos 0). let k = mul-le_ℤ b m (pos 0) (omega (arith, ints)) l in absurd (omega (arith, ints, rings, k)))

-- ---- the new line holds the old points

-- a' = M.y - U.y, b' = M.x - U.x; (dx, dy) from U; e its remainder less mu
key : (a b a' b' dx dy e : ℤ) → b *ℤ a' ≡ a *ℤ b' +ℤ pos 1 → e ≡ a *ℤ dx -ℤ b *ℤ dy → b *ℤ (a' *ℤ dx -ℤ b' *ℤ dy) ≡ b' *ℤ e +ℤ dx
key a b a' b' dx dy e h k =
    let x = ap (λ (z : ℤ). z *ℤ dx) h in
    let y = ap (λ (z : ℤ). b' *ℤ z) k in
    omega (arith, ints, rings3, x, y)

-- q is between 0 and b' - 1
q_low : (b b' q e dx : ℤ) → pos 0 <ℤ b → b *ℤ q ≡ b' *ℤ e +ℤ dx → (neg_ℤ b) <ℤ (b' *ℤ e +ℤ dx) → pos 0 ≤ℤ q
q_low b b' q e dx hb h k =
    by_lt_z q (pos 0)
    (λ (l : q <ℤ pos 0). let m = mul-le_ℤ b q (neg_ℤ (pos 1)) (omega (arith, ints)) (omega (arith, ints)) in absurd (omega (arith, ints, rings, m)))
    (λ l. l)

q_high : (b b' q e dx : ℤ) → pos 0 <ℤ b → pos 0 <ℤ b' → b *ℤ q ≡ b' *ℤ e +ℤ dx → e <ℤ b → dx <ℤ b' → q <ℤ b'
q_high b b' q e dx hb hb' h he hd =
    let m = mul-le_ℤ b' e (b -ℤ pos 1) (omega (arith, ints)) (omega (arith, ints)) in
    cancel-lt_ℤ b q b' hb (omega (arith, ints, rings, m))

-- a remainder as seen from another point
rest-from : (a b x y u v : ℤ) → rest a b x y ≡ rest a b u v +ℤ (a *ℤ (x -ℤ u) -ℤ b *ℤ (y -ℤ v))
rest-from a b x y u v = omega (arith, ints, rings)

from_upper : (a b mu ux uy x y : ℤ) → rest a b ux uy ≡ mu → rest a b x y -ℤ mu ≡ a *ℤ (x -ℤ ux) -ℤ b *ℤ (y -ℤ uy)
from_upper a b mu ux uy x y hu = omega (arith, ints, rings, hu)

-- the new vector turns by one
turn : (a b mu ux uy mx my : ℤ) → rest a b ux uy ≡ mu → rest a b mx my ≡ mu -ℤ pos 1 → b *ℤ (my -ℤ uy) ≡ a *ℤ (mx -ℤ ux) +ℤ pos 1
turn a b mu ux uy mx my hu hm = omega (arith, ints, rings, hu, hm)

-- the remainder in the new vector, as far as e and dx tell
between : (b b' q e dx r r' : ℤ) → pos 0 <ℤ b → pos 0 <ℤ b' → b *ℤ q ≡ b' *ℤ e +ℤ dx → pos 0 ≤ℤ e → e <ℤ b → dx <ℤ b' → (dx <ℤ pos 0 → pos 1 ≤ℤ e)
    → neg_ℤ dx <ℤ b → r ≡ r' +ℤ q → (r' ≤ℤ r) × (r <ℤ (r' +ℤ b'))
between b b' q e dx r r' hb hb' g low high hd early near is =
    let v = q_low b b' q e dx hb g above in
    let w = q_high b b' q e dx hb hb' g high hd in
    (omega (arith, ints, is, v), omega (arith, ints, is, w))
  where
    less : (m n : ℤ) → m <ℤ n → m ≤ℤ n
    less m n l = omega (arith, ints, l)

    before : (m : ℤ) → (b' *ℤ pos 1) ≤ℤ m → neg_ℤ b <ℤ (m +ℤ dx)
    before m l = omega (arith, ints, rings, l, near, hb')

    behind : (m : ℤ) → pos 0 ≤ℤ m → neg_ℤ b <ℤ (m +ℤ dx)
    behind m l = omega (arith, ints, l, near)

    above : neg_ℤ b <ℤ (b' *ℤ e +ℤ dx)
    above = by_lt_z dx (pos 0)
        (λ (l : dx <ℤ pos 0). early_above (early l))
        (λ (l : pos 0 ≤ℤ dx). behind (b' *ℤ e) (mul-nonneg b' e (less (pos 0) b' hb') low))
      where
        early_above : pos 1 ≤ℤ e → neg_ℤ b <ℤ (b' *ℤ e +ℤ dx)
        early_above k = before (b' *ℤ e) (mul-le_ℤ b' (pos 1) e (less (pos 0) b' hb') k)

apart_low : (m r : ℤ) → m ≤ℤ r → pos 0 ≤ℤ (r -ℤ m)
apart_low m r l = omega (arith, ints, l)

apart_high : (m r b : ℤ) → r <ℤ (m +ℤ b) → (r -ℤ m) <ℤ b
apart_high m r b l = omega (arith, ints, l)

apart_more : (m r : ℤ) → (m +ℤ pos 1) ≤ℤ r → pos 1 ≤ℤ (r -ℤ m)
apart_more m r l = omega (arith, ints, l)

over : (u x : ℤ) → u <ℤ x → pos 0 <ℤ (x -ℤ u)
over u x l = omega (arith, ints, l)

back : (u x : ℤ) → (x -ℤ u) <ℤ pos 0 → x <ℤ u
back u x l = omega (arith, ints, l)

shorter : (u x m : ℤ) → x <ℤ m → (x -ℤ u) <ℤ (m -ℤ u)
shorter u x m l = omega (arith, ints, l)

turned : (u x b : ℤ) → (u -ℤ x) <ℤ b → neg_ℤ (x -ℤ u) <ℤ b
turned u x b l = omega (arith, ints, l)

-- the point taken has the remainder mu - 1; U is the first upper leaning point
holds_above : (a b mu ux uy mx my x y : ℤ) → pos 0 <ℤ b → rest a b ux uy ≡ mu → rest a b mx my ≡ mu -ℤ pos 1 → ux <ℤ mx → x <ℤ mx → mu ≤ℤ rest a b x y
    → rest a b x y <ℤ (mu +ℤ b) → (x <ℤ ux → (mu +ℤ pos 1) ≤ℤ rest a b x y) → (ux -ℤ x) <ℤ b
    → (rest (my -ℤ uy) (mx -ℤ ux) ux uy ≤ℤ rest (my -ℤ uy) (mx -ℤ ux) x y)
    × (rest (my -ℤ uy) (mx -ℤ ux) x y <ℤ (rest (my -ℤ uy) (mx -ℤ ux) ux uy +ℤ (mx -ℤ ux)))
holds_above a b mu ux uy mx my x y hb hu hm um xm lo hi before near =
    between b (mx -ℤ ux) ((my -ℤ uy) *ℤ (x -ℤ ux) -ℤ (mx -ℤ ux) *ℤ (y -ℤ uy)) (rest a b x y -ℤ mu) (x -ℤ ux) (rest (my -ℤ uy) (mx -ℤ ux) x y)
    (rest (my -ℤ uy) (mx -ℤ ux) ux uy) hb (over ux mx um)
    (key a b (my -ℤ uy) (mx -ℤ ux) (x -ℤ ux) (y -ℤ uy) (rest a b x y -ℤ mu) (turn a b mu ux uy mx my hu hm) (from_upper a b mu ux uy x y hu))
    (apart_low mu (rest a b x y) lo) (apart_high mu (rest a b x y) b hi) (shorter ux x mx xm) (λ l. apart_more mu (rest a b x y) (before (back ux x l)))
    (turned ux x b near) (rest-from (my -ℤ uy) (mx -ℤ ux) x y ux uy)

-- ---- leaning points

-- an upper and a lower one show that a and b have no common factor
pub bezout : (a b mu ux uy lx ly : ℤ) → rest a b ux uy ≡ mu → rest a b lx ly ≡ mu +ℤ b -ℤ pos 1 → a *ℤ (lx -ℤ ux) +ℤ pos 1 ≡ b *ℤ ((ly -ℤ uy) +ℤ pos 1)
bezout a b mu ux uy lx ly hu hl = omega (arith, ints, rings, hu, hl)

-- points whose remainders differ by c * b: their distance in x is a multiple of b
apart : (a b mu ux uy lx ly px py qx qy r c : ℤ) → pos 0 <ℤ b → rest a b ux uy ≡ mu → rest a b lx ly ≡ mu +ℤ b -ℤ pos 1 → rest a b px py ≡ r
    → rest a b qx qy ≡ r +ℤ c *ℤ b → px <ℤ qx → b ≤ℤ (qx -ℤ px)
apart a b mu ux uy lx ly px py qx qy r c hb hu hl hp hq lt =
    let e = bezout a b mu ux uy lx ly hu hl in
    let f : a *ℤ (qx -ℤ px) ≡ b *ℤ ((qy -ℤ py) +ℤ c) = omega (arith, ints, rings, hp, hq) in
    let n = qx -ℤ px in
    let d = lx -ℤ ux in
    let k = (ly -ℤ uy) +ℤ pos 1 in
    let m = (qy -ℤ py) +ℤ c in
    least_multiple b n (k *ℤ n -ℤ d *ℤ m) hb (divides a b d k n m e f) (omega (arith, ints))

-- leaning points are taken
module _ (s : Seg) (is : IsSegment s) where
  upper_taken : (x y : ℤ) → s.x0 ≤ℤ x → x ≤ℤ s.x1 → rest s.a s.b x y ≡ s.mu → IsTaken s x y
  upper_taken x y f g e = let b = is.b_pos in record { from = f; to = g; low = omega (arith, ints, e); high = omega (arith, ints, e, b) }

  lower_taken : (x y : ℤ) → s.x0 ≤ℤ x → x ≤ℤ s.x1 → rest s.a s.b x y ≡ s.mu +ℤ s.b -ℤ pos 1 → IsTaken s x y
  lower_taken x y f g e = let b = is.b_pos in record { from = f; to = g; low = omega (arith, ints, e, b); high = omega (arith, ints, e) }

  pub u_taken : IsTaken s s.ux s.uy
  u_taken = let a = is.u_k in let b = is.k_to in upper_taken s.ux s.uy is.u_from (omega (arith, ints, a, b)) is.u_is

  pub k_taken : IsTaken s s.kx s.ky
  k_taken = let a = is.u_k in let b = is.u_from in lower_taken s.kx s.ky (omega (arith, ints, a, b)) is.k_to is.k_is

  pub l_taken : IsTaken s s.lx s.ly
  l_taken = let a = is.l_v in let b = is.v_to in lower_taken s.lx s.ly is.l_from (omega (arith, ints, a, b)) is.l_is

  pub v_taken : IsTaken s s.vx s.vy
  v_taken = let a = is.l_v in let b = is.l_from in upper_taken s.vx s.vy (omega (arith, ints, a, b)) is.v_to is.v_is

-- ---- the point is on the line
module _ (s : Seg) (is : IsSegment s) (mx my : ℤ) (next : mx ≡ s.x1 +ℤ pos 1) (low : s.mu ≤ℤ rest s.a s.b mx my) (high : rest s.a s.b mx my <ℤ (s.mu +ℤ s.b))
  where
    -- where M does not lean above, the last upper leaning point stays near
    pub v_near : (s.mu <ℤ rest s.a s.b mx my) → (mx -ℤ s.vx) <ℤ s.b
    v_near l = by_lt_z (mx -ℤ s.vx) s.b (λ (h : (mx -ℤ s.vx) <ℤ s.b). h) (λ (h : s.b ≤ℤ (mx -ℤ s.vx)).
        let n = rest s.a s.b mx my -ℤ s.mu in
        let d : mx -ℤ s.vx ≡ s.b = omega (arith, ints, h, is.v_last, next) in
        let e : n ≡ s.b *ℤ (s.a -ℤ (my -ℤ s.vy)) = first s.a s.b s.mu mx my s.vx s.vy is.v_is d in
        let f = least_multiple s.b n (s.a -ℤ (my -ℤ s.vy)) is.b_pos e (omega (arith, ints, l)) in
        absurd (omega (arith, ints, f, high)))
      where
        first : (a b mu mx my vx vy : ℤ) → rest a b vx vy ≡ mu → mx -ℤ vx ≡ b → rest a b mx my -ℤ mu ≡ b *ℤ (a -ℤ (my -ℤ vy))
        first a b mu mx my vx vy h d = let k = ap (λ (z : ℤ). a *ℤ z) d in omega (arith, ints, rings, h, k)

    pub k_near : (rest s.a s.b mx my <ℤ (s.mu +ℤ s.b -ℤ pos 1)) → (mx -ℤ s.kx) <ℤ s.b
    k_near l = by_lt_z (mx -ℤ s.kx) s.b (λ (h : (mx -ℤ s.kx) <ℤ s.b). h) (λ (h : s.b ≤ℤ (mx -ℤ s.kx)).
        let n = (s.mu +ℤ s.b -ℤ pos 1) -ℤ rest s.a s.b mx my in
        let d : mx -ℤ s.kx ≡ s.b = omega (arith, ints, h, is.k_last, next) in
        let e : n ≡ s.b *ℤ ((my -ℤ s.ky) -ℤ s.a) = first s.a s.b s.mu mx my s.kx s.ky is.k_is d in
        let f = least_multiple s.b n ((my -ℤ s.ky) -ℤ s.a) is.b_pos e (omega (arith, ints, l)) in
        absurd (omega (arith, ints, f, low)))
      where
        first : (a b mu mx my vx vy : ℤ) → rest a b vx vy ≡ mu +ℤ b -ℤ pos 1 → mx -ℤ vx ≡ b → (mu +ℤ b -ℤ pos 1) -ℤ rest a b mx my ≡ b *ℤ ((my -ℤ vy) -ℤ a)
        first a b mu mx my vx vy h d = let k = ap (λ (z : ℤ). a *ℤ z) d in omega (arith, ints, rings, h, k)

    -- the last leaning points are these
    pub with_last : (vx vy kx ky : ℤ) → rest s.a s.b vx vy ≡ s.mu → rest s.a s.b kx ky ≡ s.mu +ℤ s.b -ℤ pos 1 → s.vx ≤ℤ vx → vx ≤ℤ mx → (mx -ℤ vx) <ℤ s.b
        → s.kx ≤ℤ kx → kx ≤ℤ mx → (mx -ℤ kx) <ℤ s.b → IsLonger s mx my (longer s mx vx vy kx ky)
    with_last vx vy kx ky hv hk v1 v2 v3 k1 k2 k3 = record {
      is = record {
        b_pos = is.b_pos;
        a_low = is.a_low;
        a_high = is.a_high;
        b_short = (let h = is.b_short in omega (arith, ints, h, next));
        u_is = is.u_is;
        v_is = hv;
        l_is = is.l_is;
        k_is = hk;
        u_from = is.u_from;
        u_first = is.u_first;
        v_to = v2;
        v_last = v3;
        l_from = is.l_from;
        l_first = is.l_first;
        k_to = k2;
        k_last = k3;
        u_k = (let h = is.u_k in omega (arith, ints, h, k1));
        l_v = (let h = is.l_v in omega (arith, ints, h, v1));
      };
      same_start = refl;
      ends = refl;
      old = λ x y t. record { from = t.from; to = (let h = t.to in omega (arith, ints, h, next)); low = t.low; high = t.high };
      new = record {
        from = (let h = is.u_from in let k = is.u_k in let l = is.k_to in omega (arith, ints, h, k, l, next));
        to = omega (arith, ints);
        low = low;
        high = high;
      };
    }

-- ---- the point has the remainder mu - 1

-- the end of the new vector leans as its start does
same_rest : (ux uy mx my : ℤ) → rest (my -ℤ uy) (mx -ℤ ux) mx my ≡ rest (my -ℤ uy) (mx -ℤ ux) ux uy
same_rest ux uy mx my = omega (arith, ints, rings)

-- the slope stays between the diagonals
steep_high : (a b a' b' : ℤ) → pos 0 <ℤ b → pos 0 <ℤ b' → a <ℤ b → b *ℤ a' ≡ a *ℤ b' +ℤ pos 1 → a' ≤ℤ b'
steep_high a b a' b' hb hb' ha e =
    let m = mul-le_ℤ b' a (b -ℤ pos 1) (omega (arith, ints)) (omega (arith, ints)) in
    cancel-le_ℤ b a' b' hb (omega (arith, ints, rings, m, e))

steep_low : (a b a' b' : ℤ) → pos 0 <ℤ b → pos 0 <ℤ b' → neg_ℤ b ≤ℤ a → b *ℤ a' ≡ a *ℤ b' +ℤ pos 1 → neg_ℤ b' ≤ℤ a'
steep_low a b a' b' hb hb' ha e =
    let m = mul-le_ℤ b' (neg_ℤ b) a (omega (arith, ints)) ha in
    cancel-le_ℤ b (neg_ℤ b') a' hb (omega (arith, ints, rings, m, e))

-- the old last lower leaning point leans below the new line
k_leans : (a b mu ux uy mx my kx ky : ℤ) → pos 0 <ℤ b → rest a b ux uy ≡ mu → rest a b mx my ≡ mu -ℤ pos 1 → rest a b kx ky ≡ mu +ℤ b -ℤ pos 1 → mx -ℤ kx ≡ b
    → rest (my -ℤ uy) (mx -ℤ ux) kx ky ≡ rest (my -ℤ uy) (mx -ℤ ux) ux uy +ℤ (mx -ℤ ux) -ℤ pos 1
k_leans a b mu ux uy mx my kx ky hb hu hm hk d =
    let a' = my -ℤ uy in
    let b' = mx -ℤ ux in
    let q = a' *ℤ (kx -ℤ ux) -ℤ b' *ℤ (ky -ℤ uy) in
    let f = key a b a' b' (kx -ℤ ux) (ky -ℤ uy) (b -ℤ pos 1) (turn a b mu ux uy mx my hu hm) (second a b mu ux uy kx ky hu hk) in
    let g = rest-from a' b' kx ky ux uy in
    let h : kx -ℤ ux ≡ b' -ℤ b = omega (arith, ints, d) in
    let same : q ≡ b' -ℤ pos 1 = third b b' q (kx -ℤ ux) hb f h in
    omega (arith, ints, g, same)
  where
    second : (a b mu ux uy kx ky : ℤ) → rest a b ux uy ≡ mu → rest a b kx ky ≡ mu +ℤ b -ℤ pos 1 → b -ℤ pos 1 ≡ a *ℤ (kx -ℤ ux) -ℤ b *ℤ (ky -ℤ uy)
    second a b mu ux uy kx ky hu hk = omega (arith, ints, rings, hu, hk)

    third : (b b' q dx : ℤ) → pos 0 <ℤ b → b *ℤ q ≡ b' *ℤ (b -ℤ pos 1) +ℤ dx → dx ≡ b' -ℤ b → q ≡ b' -ℤ pos 1
    third b b' q dx hb e h =
        let l = cancel-le_ℤ b q (b' -ℤ pos 1) hb (omega (arith, ints, rings, e, h)) in
        let r = cancel-le_ℤ b (b' -ℤ pos 1) q hb (omega (arith, ints, rings, e, h)) in
        omega (arith, ints, l, r)

-- before the first upper leaning point no remainder is mu
before_u : (s : Seg) → IsSegment s → (x y : ℤ) → IsTaken s x y → x <ℤ s.ux → (s.mu +ℤ pos 1) ≤ℤ rest s.a s.b x y
before_u s is x y t l = by_lt_z s.mu (rest s.a s.b x y) (λ (h : s.mu <ℤ rest s.a s.b x y). omega (arith, ints, h)) (λ (h : rest s.a s.b x y ≤ℤ s.mu).
    let e : rest s.a s.b x y ≡ s.mu = (let g = t.low in omega (arith, ints, h, g)) in
    let far = apart s.a s.b s.mu s.ux s.uy s.lx s.ly x y s.ux s.uy s.mu (pos 0) is.b_pos is.u_is is.l_is e (let v = is.u_is in omega (arith, ints, rings, v)) l
    in
    let f = is.u_first in
    let g = t.from in
    absurd (omega (arith, ints, far, f, g)))

-- the last point is on the line, and the height rises by at most 1: how far the remainder falls
falls : (a b mu x1 y1 my : ℤ) → pos 0 ≤ℤ b → mu ≤ℤ rest a b x1 y1 → my ≤ℤ (y1 +ℤ pos 1) → (mu +ℤ a -ℤ b) ≤ℤ rest a b (x1 +ℤ pos 1) my
falls a b mu x1 y1 my hb h k = let m = mul-le_ℤ b my (y1 +ℤ pos 1) hb k in omega (arith, ints, rings, h, m)

flatter : (a b mu x1 y1 mx my : ℤ) → pos 0 <ℤ b → mu ≤ℤ rest a b x1 y1 → my ≤ℤ (y1 +ℤ pos 1) → mx ≡ x1 +ℤ pos 1 → rest a b mx my ≡ mu -ℤ pos 1 → a <ℤ b
flatter a b mu x1 y1 mx my hb h k e hm =
    let f = falls a b mu x1 y1 my (omega (arith, ints, hb)) h k in
    let g : rest a b mx my ≡ rest a b (x1 +ℤ pos 1) my = ap (λ (z : ℤ). rest a b z my) e in
    omega (arith, ints, f, g, hm)

module _ (s : Seg) (is : IsSegment s) (y1 mx my : ℤ) (last : IsTaken s s.x1 y1) (next : mx ≡ s.x1 +ℤ pos 1) (step : my ≤ℤ (y1 +ℤ pos 1))
    (hm : rest s.a s.b mx my ≡ s.mu -ℤ pos 1) where
  -- the point lies b past the last lower leaning point
  k_exact : mx -ℤ s.kx ≡ s.b
  k_exact =
      let k_is = is.k_is in
      let k_to = is.k_to in
      let k_last = is.k_last in
      let far = apart s.a s.b s.mu s.ux s.uy s.kx s.ky s.kx s.ky mx my (s.mu +ℤ s.b -ℤ pos 1) (neg_ℤ (pos 1)) is.b_pos is.u_is k_is k_is
      (omega (arith, ints, rings, hm)) (omega (arith, ints, k_to, next)) in
      omega (arith, ints, far, k_last, next)

  -- the new main coefficient is greater
  wider : s.b <ℤ (mx -ℤ s.ux)
  wider = let k = k_exact in let u = is.u_k in omega (arith, ints, k, u)

  u_before : s.ux <ℤ mx
  u_before = let w = wider in let b = is.b_pos in omega (arith, ints, w, b)

  raised_old : (x y : ℤ) → IsTaken s x y → IsTaken (raised s mx my) x y
  raised_old x y t =
      let to = t.to in
      let from = t.from in
      let u_first = is.u_first in
      let h = holds_above s.a s.b s.mu s.ux s.uy mx my x y is.b_pos is.u_is hm u_before (omega (arith, ints, to, next)) t.low t.high (before_u s is x y t)
      (omega (arith, ints, u_first, from)) in
      record { from = t.from; to = omega (arith, ints, to, next); low = h.0; high = h.1 }

  raised_new : IsTaken (raised s mx my) mx my
  raised_new =
      let e = same_rest s.ux s.uy mx my in
      let p = u_before in
      let f = is.u_from in
      record { from = omega (arith, ints, f, p); to = omega (arith, ints); low = omega (arith, ints, e); high = omega (arith, ints, e, p) }

  raised_is : IsSegment (raised s mx my)
  raised_is =
      let w = wider in
      let b = is.b_pos in
      let p : pos 0 <ℤ (mx -ℤ s.ux) = omega (arith, ints, w, b) in
      let t = turn s.a s.b s.mu s.ux s.uy mx my is.u_is hm in
      let d = k_exact in
      let u_from = is.u_from in
      let u_first = is.u_first in
      let u_k = is.u_k in
      let k_to = is.k_to in
      let k = k_leans s.a s.b s.mu s.ux s.uy mx my s.kx s.ky is.b_pos is.u_is hm is.k_is d in
      record {
        b_pos = p;
        a_low = steep_low s.a s.b (my -ℤ s.uy) (mx -ℤ s.ux) b p is.a_low t;
        a_high = steep_high s.a s.b (my -ℤ s.uy) (mx -ℤ s.ux) b p (flatter s.a s.b s.mu s.x1 y1 mx my b last.low step next hm) t;
        b_short = omega (arith, ints, u_from);
        u_is = refl;
        v_is = same_rest s.ux s.uy mx my;
        l_is = k;
        k_is = k;
        u_from = u_from;
        u_first = omega (arith, ints, u_first, w);
        v_to = omega (arith, ints);
        v_last = omega (arith, ints, p);
        l_from = omega (arith, ints, u_from, u_k);
        l_first = omega (arith, ints, d, u_first);
        k_to = omega (arith, ints, k_to, next);
        k_last = omega (arith, ints, d, w);
        u_k = u_k;
        l_v = omega (arith, ints, d, b);
      }

  pub raises : IsLonger s mx my (raised s mx my)
  raises = record { is = raised_is; same_start = refl; ends = refl; old = raised_old; new = raised_new }

-- ---- the mirror: heights change their sign, upper and lower change places
pub flip_rest : (a b x y : ℤ) → rest (neg_ℤ a) b x (neg_ℤ y) ≡ neg_ℤ (rest a b x y)
flip_rest a b x y = omega (arith, ints, rings)

abbrev pub flip : Seg → Seg
flip s = record {
  a = neg_ℤ s.a;
  b = s.b;
  mu = pos 1 -ℤ s.mu -ℤ s.b;
  x0 = s.x0;
  x1 = s.x1;
  ux = s.lx;
  uy = neg_ℤ s.ly;
  vx = s.kx;
  vy = neg_ℤ s.ky;
  lx = s.ux;
  ly = neg_ℤ s.uy;
  kx = s.vx;
  ky = neg_ℤ s.vy;
}

pub flip_taken : (s : Seg) (x y : ℤ) → IsTaken s x y → IsTaken (flip s) x (neg_ℤ y)
flip_taken s x y t = let e = flip_rest s.a s.b x y in let l = t.low in let h = t.high in
    record { from = t.from; to = t.to; low = omega (arith, ints, e, h); high = omega (arith, ints, e, l) }

pub flip_is : (s : Seg) → IsSegment s → IsSegment (flip s)
flip_is s is =
    let low = is.a_low in
    let high = is.a_high in
    record {
      b_pos = is.b_pos;
      a_low = omega (arith, ints, high);
      a_high = omega (arith, ints, low);
      b_short = is.b_short;
      u_is = (let e = flip_rest s.a s.b s.lx s.ly in let f = is.l_is in omega (arith, ints, e, f));
      v_is = (let e = flip_rest s.a s.b s.kx s.ky in let f = is.k_is in omega (arith, ints, e, f));
      l_is = (let e = flip_rest s.a s.b s.ux s.uy in let f = is.u_is in omega (arith, ints, e, f));
      k_is = (let e = flip_rest s.a s.b s.vx s.vy in let f = is.v_is in omega (arith, ints, e, f));
      u_from = is.l_from;
      u_first = is.l_first;
      v_to = is.k_to;
      v_last = is.k_last;
      l_from = is.u_from;
      l_first = is.u_first;
      k_to = is.v_to;
      k_last = is.v_last;
      u_k = is.l_v;
      l_v = is.u_k;
    }
