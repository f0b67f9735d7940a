-- Whole numbers whose multiple is at most a bound: those up to a quotient, rounded down.
-- Plain variables alone stand here.
use Rattle.std.proofs.Common.{◌≡◌, ℕ, ◌+◌, ◌*◌, ◌/◌, ◌<◌, ◌≤◌, ap, sym, subst, arith}
use Rattle.std.proofs.Math.IntN.{ℤ, pos, negsuc, ◌+ℤ◌, ◌-ℤ◌, ◌*ℤ◌, neg_ℤ}
use Rattle.std.specs.Prelude.{◌↔◌}
use lib.Signed.{◌<ℤ◌, ◌≤ℤ◌}
use Rattle.std.proofs.lemmas.Int.{ints, by_lt_z}
use Rattle.shape_terms.proofs.Products.{rings}
use Rattle.shape_terms.proofs.Order.{mul-le_ℤ, cancel-lt_ℤ}
use Rattle.shape_terms.specs.Slopes.{IsFloor, IsIn, IsSlope}

pub floor_is : (n s q : ℤ) → pos 1 ≤ℤ s → IsFloor n s q → (a : ℤ) → (a *ℤ s) ≤ℤ n ↔ a ≤ℤ q
floor_is n s q some h a = (to, from)
  where
    to : (a *ℤ s) ≤ℤ n → a ≤ℤ q
    to l =
        let k : (s *ℤ a) <ℤ (s *ℤ (q +ℤ pos 1)) = (let f = h.high in omega (arith, ints, rings, f, l)) in
        let m = cancel-lt_ℤ s a (q +ℤ pos 1) (omega (arith, ints, some)) k in
        omega (arith, ints, m)

    from : a ≤ℤ q → (a *ℤ s) ≤ℤ n
    from l = let m = mul-le_ℤ s a q (omega (arith, ints, some)) l in let f = h.low in omega (arith, ints, rings, m, f)

-- of a number below 0, from its mirror
pub floor_below : (n s q : ℤ) → IsFloor (negsuc 0 -ℤ n) s q → IsFloor n s (negsuc 0 -ℤ q)
floor_below n s q h = let l = h.low in let k = h.high in record { low = omega (arith, ints, rings, l, k); high = omega (arith, ints, rings, l, k) }

-- of natural numbers
pub floor_pos : (n s : ℕ) → 1 ≤ s → IsFloor (pos n) (pos s) (pos (n / s))
floor_pos n s some = record { low = low; high = high }
  where
    low : (pos (n / s) *ℤ pos s) ≤ℤ pos n
    low = let a : (n / s) * s ≤ n = omega arith in omega (arith, ints, a)

    high : pos n <ℤ (pos (n / s) *ℤ pos s +ℤ pos s)
    high = let a : n < (n / s) * s + s = omega arith in omega (arith, ints, a)

-- ---- ranges

-- what the narrowing says of each number
abbrev pub IsNarrowed : ℤ → ℤ → ℤ → ℤ → ℤ → ℤ → Type 0
IsNarrowed low high side n l h = (a : ℤ) → IsIn l h a ↔ (IsIn low high a × ((a *ℤ side) ≤ℤ n))

pub narrow_up : (low high side n q l h : ℤ) → pos 0 <ℤ side → IsFloor n side q → ((a : ℤ) → IsIn l h a ↔ (IsIn low high a × (a ≤ℤ q)))
    → IsNarrowed low high side n l h
narrow_up low high side n q l h some f g a =
    let e = floor_is n side q (omega (arith, ints, some)) f a in
    ((λ i. let x = (g a).0 i in (x.0, e.1 x.1)), λ x. (g a).1 (x.0, e.0 x.1))

pub narrow_down : (low high side m n q v l h : ℤ) → side <ℤ pos 0 → m ≡ neg_ℤ side → v ≡ neg_ℤ q → IsFloor n m q
    → ((a : ℤ) → IsIn l h a ↔ (IsIn low high a × (v ≤ℤ a))) → IsNarrowed low high side n l h
narrow_down low high side m n q v l h some ms vq f g a =
    let e = floor_is n m q (omega (arith, ints, some, ms)) f (neg_ℤ a) in
    let k = ap (λ (z : ℤ). neg_ℤ a *ℤ z) ms in
    let to : (v ≤ℤ a) → (a *ℤ side) ≤ℤ n = (λ o. let y = e.1 (omega (arith, ints, o, vq)) in omega (arith, ints, rings, y, k)) in
    let back : ((a *ℤ side) ≤ℤ n) → v ≤ℤ a = (λ o. let y = e.0 (omega (arith, ints, rings, o, k)) in omega (arith, ints, y, vq)) in
    ((λ i. let x = (g a).0 i in (x.0, to x.1)), λ x. (g a).1 (x.0, back x.1))

flat : (side : ℤ) → (pos 0 <ℤ side → ⊥) → (side <ℤ pos 0 → ⊥) → side ≡ pos 0
flat side p q = by_lt_z side (pos 0) (λ k. absurd (q k)) (λ k. by_lt_z (pos 0) side (λ m. absurd (p m)) (λ m. omega (arith, ints, k, m)))

pub narrow_none : (low high side n : ℤ) → (pos 0 <ℤ side → ⊥) → (side <ℤ pos 0 → ⊥) → n <ℤ pos 0 → IsNarrowed low high side n (pos 1) (pos 0)
narrow_none low high side n p q l a = (
  λ i. absurd (let x = i.from in let y = i.to in omega (arith, ints, x, y)),
  λ x. absurd (let f = ap (λ (z : ℤ). a *ℤ z) (flat side p q) in let y = x.1 in omega (arith, ints, rings, f, y, l)),
)

-- ---- slopes with a denominator

module _ (b s1 r1 s2 r2 : ℤ) (some : pos 1 ≤ℤ b) (n1 n2 : ℤ) (e1 : n1 ≡ b *ℤ r1 -ℤ pos 1) (e2 : n2 ≡ b *ℤ r2 -ℤ pos 1) (l h l1 h1 l2 h2 : ℤ) (low : l ≡ neg_ℤ b)
    (high : h ≡ b) (f : IsNarrowed l h s1 n1 l1 h1) (g : IsNarrowed l1 h1 s2 n2 l2 h2) where
  pub slope_in : l2 ≤ℤ h2 → (c : ℤ) × IsSlope s1 r1 s2 r2 c b
  slope_in k =
      let y = (g l2).0 (record { from = omega (arith, ints); to = k }) in
      let x = (f l2).0 y.0 in
      let from = x.0.from in
      let to = x.0.to in
      let p = x.1 in
      let q = y.1 in (
        l2,
        record {
          some = some;
          low = omega (arith, ints, from, low);
          high = omega (arith, ints, to, high);
          first = omega (arith, ints, p, e1);
          second =
              omega (arith, ints, q, e2);
        },
      )

  pub in_slope : ((c : ℤ) × IsSlope s1 r1 s2 r2 c b) → l2 ≤ℤ h2
  in_slope k =
      let s = k.1 in
      let sl = s.low in
      let sh = s.high in
      let s1 = s.first in
      let s2 = s.second in
      let x = (f k.0).1 (record { from = omega (arith, ints, sl, low); to = omega (arith, ints, sh, high) }, omega (arith, ints, s1, e1)) in
      let y = (g k.0).1 (x, omega (arith, ints, s2, e2)) in
      let from = y.from in
      let to = y.to in
      omega (arith, ints, from, to)

-- ---- through natural numbers
pub floor_value : (n s : ℤ) (m d q : ℕ) (r : ℤ) → pos m ≡ n → pos d ≡ s → pos 1 ≤ℤ s → q ≡ m / d → r ≡ pos q → IsFloor n s r
floor_value n s m d q r em ed some eq er =
    let k : 1 ≤ d = omega (arith, ints, ed, some) in
    subst (λ (z : ℤ). IsFloor z s r) em
    (subst (λ (z : ℤ). IsFloor (pos m) z r) ed
    (subst (λ (z : ℤ). IsFloor (pos m) (pos d) z) (sym er) (subst (λ (z : ℕ). IsFloor (pos m) (pos d) (pos z)) (sym eq) (floor_pos m d k))))

pub floor_mirrored : (n s m q r : ℤ) → m ≡ negsuc 0 -ℤ n → r ≡ negsuc 0 -ℤ q → IsFloor m s q → IsFloor n s r
floor_mirrored n s m q r em er h = subst (λ (z : ℤ). IsFloor n s z) (sym er) (floor_below n s q (subst (λ (z : ℤ). IsFloor z s q) em h))
