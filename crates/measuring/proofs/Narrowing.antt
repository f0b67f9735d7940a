-- The farthest vertex from a side, and the narrowest side, with one more.
-- Fractions are compared by products; no size is told of.
use Rattle.std.proofs.Common.{◌≡◌, ◌⊎◌, inl, inr, ℕ, ◌+◌, ◌<◌, List, ap, sym, subst, ◌∙◌, arith}
use Rattle.std.proofs.Math.IntN.{ℤ, pos, ◌*ℤ◌}
use lib.Signed.{◌<ℤ◌, ◌≤ℤ◌}
use Rattle.std.proofs.lemmas.Int.{ints}
use Rattle.shape_terms.proofs.Products.{rings}
use Rattle.shape_terms.proofs.Order.{mul-le_ℤ, mul-lt_ℤ, cancel-le_ℤ, cancel-lt_ℤ}
use Rattle.measure_terms.specs.Hulls.{Corner, end, turn, vertex}
use Rattle.measure_terms.specs.Widths.{HaveLengths, IsLeastSide, IsLess, IsNoMore, IsOfSide, IsReach, Width}
use Rattle.measure_terms.proofs.OneWidth.{one_across, one_length}
use Rattle.measuring.specs.Narrower.{IsFarther, IsNarrower}

before_or_at : (i n : ℕ) → i < n + 1 → (i < n) ⊎ (i ≡ n)
before_or_at i n l = grind arith

-- ---- the farthest vertex

-- the turn from a side to a vertex
abbrev at : List Corner → ℕ → ℕ → ℤ
at h i k = turn (vertex h i) (end h i) (vertex h k)

at_most : (a b : ℤ) → a ≡ b → a ≤ℤ b
at_most a b e = omega (arith, ints, e)

less_then : (a b c : ℤ) → a ≤ℤ b → b <ℤ c → a ≤ℤ c
less_then a b c h k = omega (arith, ints, h, k)

pub first_reach : (h : List Corner) (i : ℕ) → IsReach h i 1 0
first_reach h i = record { within = omega arith; most = λ k l. (let e : k ≡ 0 = omega (arith, l) in at_most (at h i k) (at h i 0) (ap (at h i) e)) }

pub next_reach : (h : List Corner) (i far k r : ℕ) → IsReach h i k far → IsFarther h i far k r → IsReach h i (k + 1) r
next_reach h i far k r old new =
    elim new.one [
      | inl (e, g) ↦ subst (IsReach h i (k + 1)) (sym e) (record {
        within = (let w = old.within in omega (arith, w));
        most = λ j l. elim (before_or_at j k l) [
          | inl m ↦ old.most j m
          | inr f ↦ subst (λ n. at h i n ≤ℤ at h i far) (sym f) g
        ];
      })
      | inr (e, g) ↦ subst (IsReach h i (k + 1)) (sym e) (record {
        within = omega arith;
        most = λ j l. elim (before_or_at j k l) [
          | inl m ↦ less_then (at h i j) (at h i far) (at h i k) (old.most j m) g
          | inr f ↦ at_most (at h i j) (at h i k) (ap (at h i) f)
        ];
      })
    ]

-- ---- fractions

-- a / x < b / y ≤ c / z, and so a / x < c / z
between : (a x b y c z : ℤ) → pos 0 <ℤ x → pos 0 <ℤ y → pos 0 <ℤ z → (a *ℤ y) <ℤ (b *ℤ x) → (b *ℤ z) ≤ℤ (c *ℤ y) → (a *ℤ z) <ℤ (c *ℤ x)
between a x b y c z p q r h k =
    let m = mul-lt_ℤ z (a *ℤ y) (b *ℤ x) r h in
    let n = mul-le_ℤ x (b *ℤ z) (c *ℤ y) (omega (arith, ints, p)) k in
    cancel-lt_ℤ y (a *ℤ z) (c *ℤ x) q (omega (arith, ints, rings, m, n))

lengthy : (h : List Corner) (w : Width) → HaveLengths h → IsOfSide h w → pos 0 <ℤ w.length
lengthy h w l o = subst (λ z. pos 0 <ℤ z) (sym o.squared) (l.each w.side o.side)

less_than_more : (h : List Corner) (u v w : Width) → HaveLengths h → IsOfSide h u → IsOfSide h v → IsOfSide h w → IsLess u v → IsNoMore v w → IsLess u w
less_than_more h u v w l a b c p q = record {
  less = between (u.across *ℤ u.across) u.length (v.across *ℤ v.across) v.length (w.across *ℤ w.across) w.length (lengthy h u l a) (lengthy h v l b)
      (lengthy h w l c) p.less q.less;
}

no_more : (u v : Width) → IsLess u v → IsNoMore u v
no_more u v p = let l = p.less in record { less = omega (arith, ints, l) }

-- ---- one side has one width

same_width : (h : List Corner) (v w : Width) → IsOfSide h v → IsOfSide h w → v.side ≡ w.side → IsNoMore v w
same_width h v w a b e =
    let x = one_across h v w a b e in
    let y = one_length h v w a b e in
    record {
      less = at_most ((v.across *ℤ v.across) *ℤ w.length) ((w.across *ℤ w.across) *ℤ v.length)
          (ap (λ z. (z *ℤ z) *ℤ w.length) x ∙ ap (λ z. (w.across *ℤ w.across) *ℤ z) (sym y));
    }

-- ---- the narrowest side

pub first_side : (h : List Corner) (w : Width) → IsOfSide h w → w.side ≡ 0 → IsLeastSide h 1 w
first_side h w o e = record {
  is = o;
  within = omega (arith, e);
  least = λ v p l. same_width h w v o p (omega (arith, l, e));
  first = λ v p l. absurd (omega (arith, l, e));
}

pub next_side : (h : List Corner) (n : ℕ) (old new w : Width) → HaveLengths h → IsLeastSide h n old → IsOfSide h new → new.side ≡ n → IsNarrower old new w
    → IsLeastSide h (n + 1) w
next_side h n old new w l o p e c =
    elim c.one [
      | inl (f, g) ↦ subst (IsLeastSide h (n + 1)) (sym f) (record {
        is = o.is;
        within = (let m = o.within in omega (arith, m));
        least = λ v q k. elim (before_or_at v.side n k) [
          | inl m ↦ o.least v q m
          | inr m ↦ swapped old new v g (same_width h new v p q (e ∙ sym m)) (lengthy h old l o.is) (lengthy h new l p) (lengthy h v l q)
        ];
        first = o.first;
      })
      | inr (f, g) ↦ subst (IsLeastSide h (n + 1)) (sym f) (record {
        is = p;
        within = omega (arith, e);
        least = λ v q k. elim (before_or_at v.side n k) [
          | inl m ↦ no_more new v (less_than_more h new old v l p o.is q g (o.least v q m))
          | inr m ↦ same_width h new v p q (e ∙ sym m)
        ];
        first = λ v q k. less_than_more h new old v l p o.is q g (o.least v q (omega (arith, k, e)));
      })
    ]
  where
    -- a / x ≤ b / y ≤ c / z
    chained : (a x b y c z : ℤ) → pos 0 <ℤ x → pos 0 <ℤ y → pos 0 <ℤ z → (a *ℤ y) ≤ℤ (b *ℤ x) → (b *ℤ z) ≤ℤ (c *ℤ y) → (a *ℤ z) ≤ℤ (c *ℤ x)
    chained a x b y c z p q r h k =
        let m = mul-le_ℤ z (a *ℤ y) (b *ℤ x) (omega (arith, ints, r)) h in
        let n = mul-le_ℤ x (b *ℤ z) (c *ℤ y) (omega (arith, ints, p)) k in
        cancel-le_ℤ y (a *ℤ z) (c *ℤ x) q (omega (arith, ints, rings, m, n))

    swapped : (u v x : Width) → IsNoMore u v → IsNoMore v x → pos 0 <ℤ u.length → pos 0 <ℤ v.length → pos 0 <ℤ x.length → IsNoMore u x
    swapped u v x p q a b c =
        record { less = chained (u.across *ℤ u.across) u.length (v.across *ℤ v.across) v.length (x.across *ℤ x.across) x.length a b c p.less q.less }
