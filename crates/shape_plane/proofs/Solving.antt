-- Slopes that meet all rows, back from the bounds of the first and of the second.
-- How the bounds are found belongs elsewhere.
use Rattle.std.proofs.Common.{◌*◌, ◌≡◌, ℕ, zero, suc, ◌+◌, ◌<◌, ◌≤◌, ◌⊎◌, inl, inr, List, length, refl, ap, arith}
use Rattle.std.specs.Prelude.{ℤ, pos, neg_ℤ, negsuc, ◌+ℤ◌, ◌-ℤ◌, ◌*ℤ◌, ◌≤ℤ◌, ◌<ℤ◌, unsigned_abs}
use Rattle.std.proofs.lemmas.Int.{ints, unsigned_abs-mul}
use Rattle.std.proofs.lemmas.Nat.{mul-le}
use Rattle.shape_terms.specs.Limits.{plane_gap, plane_row, plane_span, plane_coefficient}
use Rattle.shape_plane.specs.declared.row.Row.{Row}
use Rattle.shape_space.specs.declared.frac.Frac.{Frac}
use Rattle.shape_plane.specs.declared.span.Span.{Span}
use Rattle.shape_plane.specs.declared.range.Range.{Range}
use Rattle.shape_plane.specs.declared.combination.Combination.{Combination}
use Rattle.shape_plane.specs.declared.eliminate.Solution.{Solution}
use Rattle.shape_plane.specs.Rows.{row_at, IsGap, level, Meets, MeetsRow, IsSystem}
use Rattle.shape_plane.specs.Combinations.{IsCombination}
use Rattle.shape_plane.specs.Ranges.{IsInside, IsRange, LeavesRoom, IsMet, IsWhole}
use Rattle.shape_plane.specs.Spans.{MeetsAt, IsSpan, IsAmid, IsSmallSlope, IsTight}
use Rattle.shape_plane.specs.Solutions.{IsSolution, IsExcluded}
use Rattle.shape_terms.proofs.Products.{rings}
use Rattle.shape_terms.proofs.Order.{mul-lt_ℤ}

order : (a b : ℕ) → (a < b) ⊎ ((a ≡ b) ⊎ (b < a))
order a b = grind arith

-- ---- room for the second slope

turned : (y z l m : ℤ) → (z *ℤ l) <ℤ (y *ℤ m) → (l *ℤ z) <ℤ (m *ℤ y)
turned y z l m h = omega (arith, ints, h)

room_between : (rows : List Row) (p q : ℤ) (l u : ℕ) → 2 ≤ l → 2 ≤ u → l < length rows → u < length rows → ((j : ℕ) → j < length rows → IsMet rows j p q)
    → (row_at rows l).y <ℤ pos 0 → pos 0 <ℤ (row_at rows u).y → LeavesRoom p q (row_at rows l) (row_at rows u)
room_between rows p q l u hl hu ll lu met a b = by_order (order l u)
  where
    both : (v w : ℕ) → (row_at rows v).y <ℤ pos 0 → v ≡ w → pos 0 <ℤ (row_at rows w).y → ⊥
    both v w f e r = let g = ap (λ (k : ℕ). (row_at rows k).y) e in omega (arith, ints, f, r, g)

    by_order : (l < u) ⊎ ((l ≡ u) ⊎ (u < l)) → LeavesRoom p q (row_at rows l) (row_at rows u)
    by_order (inl h) = ((met u lu).room l hl h).0
    by_order (inr (inl e)) = absurd (both l u a e b)
    by_order (inr (inr h)) = ((met l ll).room u hu h).1

pub span_room : (rows : List Row) (f : Frac) (r : Range) (s : Span) → IsSmallSlope f → IsWhole rows (length rows) r → IsInside f.num f.den r → IsSpan rows s
    → (level f.num f.den (row_at rows s.lower) *ℤ (row_at rows s.upper).y) <ℤ (level f.num f.den (row_at rows s.upper) *ℤ (row_at rows s.lower).y)
span_room rows f r s z w i h =
    turned (row_at rows s.lower).y (row_at rows s.upper).y (level f.num f.den (row_at rows s.lower)) (level f.num f.den (row_at rows s.upper))
    (room_between rows f.num f.den s.lower s.upper h.lower_second h.upper_second h.lower_place h.upper_place
    (λ j a. w.met j a f.num f.den (let d = z.den in omega (arith, ints, d)) i) h.falls h.rises h.falls h.rises)

pub small_slope : (rows : List Row) (r : Range) (f : Frac) → IsRange rows r → pos 1 ≤ℤ f.den
    → unsigned_abs f.num ≤ unsigned_abs r.lower.bound.z + unsigned_abs r.upper.bound.z
    → unsigned_abs f.den ≤ unsigned_abs r.lower.bound.x + unsigned_abs r.upper.bound.x → IsSmallSlope f
small_slope rows r f h d n m =
    record { den = d; num_small = omega (arith, n, h.lower.z_small, h.upper.z_small); den_small = omega (arith, m, h.lower.x_small, h.upper.x_small) }

-- ---- the slopes over one denominator

expand : (x y z p q n m : ℤ) → x *ℤ (p *ℤ m) +ℤ y *ℤ n +ℤ z *ℤ (q *ℤ m) ≡ y *ℤ n +ℤ (x *ℤ p +ℤ z *ℤ q) *ℤ m
expand x y z p q n m = omega (arith, ints, rings)

row_met : (rows : List Row) (f : Frac) (n m a b c : ℤ) (i : ℕ) → a ≡ f.num *ℤ m → b ≡ n → c ≡ f.den *ℤ m → MeetsAt rows f n m i → MeetsRow a b c (row_at rows i)
row_met rows f n m a b c i ea eb ec h = rw (ea, eb, ec, expand (row_at rows i).x (row_at rows i).y (row_at rows i).z f.num f.den n m) h

-- a row in which the second slope does not stand
flat_met : (x y z p q n m : ℤ) → y ≡ pos 0 → pos 0 <ℤ m → (x *ℤ p +ℤ z *ℤ q) <ℤ pos 0 → Meets n m y (x *ℤ p +ℤ z *ℤ q)
flat_met x y z p q n m e hm h = let a = mul-lt_ℤ m (x *ℤ p +ℤ z *ℤ q) (pos 0) hm h in let b = ap (λ (t : ℤ). t *ℤ n) e in
    below (y *ℤ n) (x *ℤ p +ℤ z *ℤ q) m b a
  where
    below : (u l m : ℤ) → u ≡ pos 0 *ℤ n → (m *ℤ l) <ℤ (m *ℤ pos 0) → (u +ℤ l *ℤ m) <ℤ pos 0
    below u l m e h = omega (arith, ints, e, h)

pub solution_is : (rows : List Row) (f : Frac) (r : Range) (s : Span) (g : Frac) (o : Solution) → IsSmallSlope f → IsWhole rows (length rows) r
    → IsInside f.num f.den r → IsTight rows f (length rows) s
    → IsAmid rows f g.num g.den s → pos 1 ≤ℤ g.den → unsigned_abs g.num ≤ 2 * plane_span → unsigned_abs g.den ≤ 2 * plane_gap → o.a ≡ f.num *ℤ g.den
    → o.b ≡ g.num → o.c ≡ f.den *ℤ g.den → IsSolution rows o
solution_is rows f r s g o z w i t am hg sg sm ea eb ec = record {
  main = some f.den g.den o.c z.den hg ec;
  met = λ k l. row_met rows f g.num g.den o.a o.b o.c k ea eb ec (each k l (is_zero (row_at rows k).y));
  a_small = small f.num z.num_small o.a ea;
  b_small = omega (arith, sg, ap unsigned_abs eb);
  c_small = small f.den z.den_small o.c ec;
}
  where
    some : (q m c : ℤ) → pos 1 ≤ℤ q → pos 1 ≤ℤ m → c ≡ q *ℤ m → pos 1 ≤ℤ c
    some q m c h k e = let a = mul-lt_ℤ q (pos 0) m (omega (arith, ints, h)) (omega (arith, ints, k)) in omega (arith, ints, e, a)

    small : (v : ℤ) → unsigned_abs v ≤ 2 * plane_row → (x : ℤ) → x ≡ v *ℤ g.den → unsigned_abs x ≤ plane_coefficient
    small v h x e = let m = mul-le (unsigned_abs v) (unsigned_abs g.den) (2 * plane_row) (2 * plane_gap) h sm in
        omega (arith, m, ap unsigned_abs e, unsigned_abs-mul v g.den)

    is_zero : (v : ℤ) → (v ≡ pos 0) ⊎ (v ≡ pos 0 → ⊥)
    is_zero (pos zero) = inl refl
    is_zero (pos (suc v)) = inr (λ e. omega (arith, ints, e))
    is_zero (negsuc v) = inr (λ e. omega (arith, ints, e))

    each : (k : ℕ) → k < length rows → ((row_at rows k).y ≡ pos 0) ⊎ ((row_at rows k).y ≡ pos 0 → ⊥) → MeetsAt rows f g.num g.den k
    each k l (inr n) = t.met k l g.num g.den (omega (arith, ints, hg)) am n
    each k l (inl e) =
        flat_met (row_at rows k).x (row_at rows k).y (row_at rows k).z f.num f.den g.num g.den e (omega (arith, ints, hg))
        ((w.met k l f.num f.den (let d = z.den in omega (arith, ints, d)) i).flat e)

-- ---- no slopes

-- two bounds that leave no room are not both bounds of the first slope alone
some_pair : (rows : List Row) (r : Range) → IsSystem rows → IsRange rows r → (r.upper.bound.z *ℤ r.lower.bound.x) ≤ℤ (r.lower.bound.z *ℤ r.upper.bound.x)
    → IsGap (row_at rows r.lower.second).cause ⊎ IsGap (row_at rows r.upper.second).cause
some_pair rows r s h f = by_sides (falls r.lower h.lower) (falls r.upper h.upper)
  where
    z_of : (k : ℕ) → k < 4 → (row_at rows k).z ≡ negsuc 0
    z_of zero l = s.plus_first.z
    z_of (suc zero) l = s.minus_first.z
    z_of (suc (suc zero)) l = s.plus_second.z
    z_of (suc (suc (suc zero))) l = s.minus_second.z
    z_of (suc (suc (suc (suc k)))) l = absurd (omega arith)

    under : (z v a w b : ℤ) → z ≡ v *ℤ a +ℤ w *ℤ b → v ≡ pos 0 → b ≡ negsuc 0 → pos 1 ≤ℤ w → z <ℤ pos 0
    under z v a w b h e g l = let p = ap (λ (t : ℤ). t *ℤ a) e in let q = ap (λ (t : ℤ). w *ℤ t) g in omega (arith, ints, h, p, q, l)

    bounds : (k : ℕ) → (k < 4) ⊎ (4 ≤ k)
    bounds k = grind arith

    falls : (c : Combination) → IsCombination rows c → (c.bound.z <ℤ pos 0) ⊎ IsGap (row_at rows c.second).cause
    falls c h = by_kind h.kind (bounds c.second)
      where
        by_kind : (c.first_weight ≡ pos 0) ⊎ IsGap (row_at rows c.second).cause → (c.second < 4) ⊎ (4 ≤ c.second)
            → (c.bound.z <ℤ pos 0) ⊎ IsGap (row_at rows c.second).cause
        by_kind (inr g) l = inr g
        by_kind (inl e) (inr l) = inr (s.gaps c.second l h.second)
        by_kind (inl e) (inl l) =
            inl (under c.bound.z c.first_weight (row_at rows c.first).z c.second_weight (row_at rows c.second).z h.z e (z_of c.second l) h.second_low)

    apart : (lx lz ux uz : ℤ) → lx <ℤ pos 0 → lz <ℤ pos 0 → pos 0 <ℤ ux → uz <ℤ pos 0 → (uz *ℤ lx) ≤ℤ (lz *ℤ ux) → ⊥
    apart lx lz ux uz a b c d f = let m = mul-lt_ℤ (neg_ℤ uz) lx (pos 0) (omega (arith, ints, d)) a in let n = mul-lt_ℤ ux lz (pos 0) c b in
        omega (arith, ints, rings, f, m, n)

    by_sides : (r.lower.bound.z <ℤ pos 0) ⊎ IsGap (row_at rows r.lower.second).cause → (r.upper.bound.z <ℤ pos 0) ⊎ IsGap (row_at rows r.upper.second).cause
        → IsGap (row_at rows r.lower.second).cause ⊎ IsGap (row_at rows r.upper.second).cause
    by_sides (inr a) b = inl a
    by_sides (inl a) (inr b) = inr b
    by_sides (inl a) (inl b) = absurd (apart r.lower.bound.x r.lower.bound.z r.upper.bound.x r.upper.bound.z h.falls a h.rises b f)

pub two_exclude : (rows : List Row) (r : Range) (w rest : ℤ) → IsSystem rows → IsRange rows r
    → (r.upper.bound.z *ℤ r.lower.bound.x) ≤ℤ (r.lower.bound.z *ℤ r.upper.bound.x) → w ≡ neg_ℤ r.lower.bound.x
    → rest ≡ r.lower.bound.z *ℤ r.upper.bound.x -ℤ r.upper.bound.z *ℤ r.lower.bound.x → unsigned_abs rest ≤ 2 * plane_row * plane_row
    → IsExcluded rows (record {
      first = record { combination = r.lower; times = r.upper.bound.x };
      second = record { combination = r.upper; times = w };
      rest = rest;
    })
two_exclude rows r w rest s h f ew er small = record {
  first = record { combination = h.lower; low = (let g = h.rises in omega (arith, ints, g)); high = h.upper.x_small };
  second = record {
    combination = h.upper;
    low = (let g = h.falls in omega (arith, ints, ew, g));
    high =
        (let g = h.lower.x_small in size r.lower.bound.x w ew g);
  };
  gone = gone r.upper.bound.x r.lower.bound.x w ew;
  rest = left r.upper.bound.x r.lower.bound.z r.lower.bound.x r.upper.bound.z w rest ew er;
  rest_low = omega (arith, ints, er, f);
  rest_high = small;
  pair = either (some_pair rows r s h f);
}
  where
    size : (x w : ℤ) → w ≡ neg_ℤ x → unsigned_abs x ≤ plane_row → unsigned_abs w ≤ plane_row
    size x w e h = omega (arith, ints, e, h)

    gone : (u l w : ℤ) → w ≡ neg_ℤ l → pos 0 ≡ u *ℤ l +ℤ w *ℤ u
    gone u l w e = let a = ap (λ (t : ℤ). t *ℤ u) e in omega (arith, ints, rings, a)

    left : (ux lz lx uz w rest : ℤ) → w ≡ neg_ℤ lx → rest ≡ lz *ℤ ux -ℤ uz *ℤ lx → rest ≡ ux *ℤ lz +ℤ w *ℤ uz
    left ux lz lx uz w rest e er = let a = ap (λ (t : ℤ). t *ℤ uz) e in omega (arith, ints, rings, a, er)

    either : IsGap (row_at rows r.lower.second).cause ⊎ IsGap (row_at rows r.upper.second).cause
        → (IsGap (row_at rows r.lower.second).cause × (pos 1 ≤ℤ r.upper.bound.x)) ⊎ (IsGap (row_at rows r.upper.second).cause × (pos 1 ≤ℤ w))
    either (inl a) = inl (a, (let g = h.rises in omega (arith, ints, g)))
    either (inr a) = inr (a, (let g = h.falls in omega (arith, ints, ew, g)))
