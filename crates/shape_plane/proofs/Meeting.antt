-- Coefficients that meet pairs, as slopes that meet rows, and the other way round.
-- How slopes are found belongs elsewhere.
use Rattle.std.proofs.Common.{◌≡◌, ◌≢◌, ℕ, zero, suc, ◌<◌, ◌≤◌, ◌⊎◌, inl, inr, List, [], ◌∷◌, length, take, get_or, refl, ap, sym, subst, ◌∙◌, arith}
use Rattle.std.specs.Prelude.{◌↔◌, ℤ, pos, negsuc, ◌+ℤ◌, ◌-ℤ◌, ◌*ℤ◌, ◌≤ℤ◌, ◌<ℤ◌, All, nat_abs, unsigned_abs}
use Rattle.std.proofs.lemmas.Int.{ints}
use Rattle.std.proofs.lemmas.List.{length-map, get_or-map, get_or-take, get_or_past, get_or_default, length-take-le}
use Rattle.std.proofs.lemmas.List.Elements.{All-append, All-map}
use Rattle.shape_terms.specs.Limits.{plane_coefficient}
use Rattle.shape_terms.specs.Points.{Point, coordinate}
use Rattle.shape_terms.specs.Vectors.{times, difference, dot}
use Rattle.shape_terms.specs.Refutations.{point_at}
use Rattle.shape_terms.proofs.Linear.{dot_none}
use Rattle.shape_refute.proofs.Meet.{coordinate-difference, length-moved, length-times}
use Rattle.shape_plane.specs.declared.pair.Pair.{Pair}
use Rattle.shape_plane.specs.declared.row.Row.{Row}
use Rattle.shape_plane.specs.declared.combination.Combination.{Combination}
use Rattle.shape_plane.specs.declared.eliminate.Solution.{Solution}
use Rattle.shape_plane.specs.declared.eliminate.Excluded.{Excluded}
use Rattle.shape_plane.specs.Rows.{row_at, IsGap, MeetsRow}
use Rattle.shape_plane.specs.Combinations.{IsCombination}
use Rattle.shape_plane.specs.Solutions.{IsSolution, IsTaken, IsExcluded, IsSlopesOf}
use Rattle.shape_plane.specs.Pairs.{MeetsPair, AreSlopes, AreSmallCoefficients, first_axis, second_axis, gap, pair_row}
use Rattle.shape_plane.specs.Systems.{bounding_rows, rows_for}
use Rattle.shape_terms.proofs.Products.{rings}
use Rattle.shape_terms.proofs.Order.{mul-le_ℤ, mul-lt_ℤ, mul-nonneg}
use Rattle.shape_plane.proofs.Together.{regrouped}
use Rattle.shape_plane.proofs.Certified.{few_axes, low_axis, first_low, each_axis, first_other, second_other}

-- ---- the scalar product, axis by axis

dot_three : (a p : List ℤ) → length p ≤ 3 → dot a p ≡ coordinate a 0 *ℤ coordinate p 0 +ℤ (coordinate a 1 *ℤ coordinate p 1 +ℤ coordinate a 2 *ℤ coordinate p 2)
dot_three a (x ∷ y ∷ z ∷ w ∷ p) h = absurd (omega arith)
dot_three (a ∷ b ∷ c ∷ r) p h = let e = dot_none r in omega (arith, ints, e)
dot_three a p h = omega (arith, ints)

pub dot_by_axes : (t : ℕ) (a p : List ℤ) → t < 3 → length p ≤ 3
    → dot a p ≡ (coordinate a (first_axis t) *ℤ coordinate p (first_axis t) +ℤ coordinate a (second_axis t) *ℤ coordinate p (second_axis t)) +ℤ coordinate a t
    *ℤ coordinate p t
dot_by_axes zero a p h l = let e = dot_three a p l in omega (arith, ints, e)
dot_by_axes (suc zero) a p h l = let e = dot_three a p l in omega (arith, ints, e)
dot_by_axes (suc (suc zero)) a p h l = let e = dot_three a p l in omega (arith, ints, e)
dot_by_axes (suc (suc (suc t))) a p h l = absurd (omega arith)

-- ---- a pair and its row

pub pair_value : (d t : ℕ) (points : List Point) (pair : Pair) (a : List ℤ) → d ≤ 3 → t < 3 → length (point_at points pair.high) ≡ d
    → length (point_at points pair.low) ≡ d
    → dot a (difference (point_at points pair.high) (point_at points pair.low)) -ℤ coordinate a t
    ≡ ((pair_row t points pair).x *ℤ coordinate a (first_axis t) +ℤ (pair_row t points pair).y *ℤ coordinate a (second_axis t)) +ℤ (pair_row t points pair).z *ℤ
    coordinate a t
pair_value d t points pair a few axis lh ll =
    let p = point_at points pair.high in
    let q = point_at points pair.low in
    let long : length (difference p q) ≡ d = length-moved d p (times (negsuc 0) q) lh (omega (arith, length-times (negsuc 0) q, ll)) in
    let e = dot_by_axes t a (difference p q) axis (omega (arith, long, few)) in
    sums (dot a (difference p q)) (coordinate a (first_axis t)) (coordinate (difference p q) (first_axis t)) (coordinate a (second_axis t))
    (coordinate (difference p q) (second_axis t)) (coordinate a t) (coordinate (difference p q) t) _ _ _ e
    (coordinate-difference p q (first_axis t)) (coordinate-difference p q (second_axis t)) (coordinate-difference p q t)
  where
    sums : (s a x b y c z x' y' z' : ℤ) → s ≡ (a *ℤ x +ℤ b *ℤ y) +ℤ c *ℤ z → x ≡ x' → y ≡ y' → z ≡ z' → s -ℤ c ≡ (x' *ℤ a +ℤ y' *ℤ b) +ℤ (z' -ℤ pos 1) *ℤ c
    sums s a x b y c z x' y' z' e ex ey ez = rw (sym ex, sym ey, sym ez) (omega (arith, ints, rings, e))

pub row_meets : (d t : ℕ) (points : List Point) (pair : Pair) (a : List ℤ) → d ≤ 3 → t < 3 → length (point_at points pair.high) ≡ d
    → length (point_at points pair.low) ≡ d
    → MeetsRow (coordinate a (first_axis t)) (coordinate a (second_axis t)) (coordinate a t) (pair_row t points pair) ↔ MeetsPair t points a pair
row_meets d t points pair a few axis lh ll = let e = pair_value d t points pair a few axis lh ll in
    below (dot a (difference (point_at points pair.high) (point_at points pair.low))) (coordinate a t) _ e
  where
    below : (s c r : ℤ) → s -ℤ c ≡ r → r <ℤ pos 0 ↔ s <ℤ c
    below s c r e = (λ h. omega (arith, ints, e, h), λ h. omega (arith, ints, e, h))

-- ---- slopes that meet the rows

-- each place of a pair is that of a point of d axes
abbrev pub AreLong : ℕ → List Point → List Pair → Type 0
AreLong d points pairs = All (λ (pair : Pair). (length (point_at points pair.low) ≡ d) × (length (point_at points pair.high) ≡ d)) pairs

pub slopes_meet : (d t : ℕ) (points : List Point) (pairs : List Pair) (s : Solution) (a : List ℤ) → (d ≡ 2) ⊎ (d ≡ 3) → t < d → AreLong d points pairs
    → IsSolution (rows_for t points pairs) s → IsSlopesOf d t s a → AreSlopes t points pairs (take d a)
slopes_meet d t points pairs s a two axis long h o = record {
  proper = record { main = subst (λ (z : ℤ). pos 1 ≤ℤ z) (sym main) h.main; others = λ u n. others u n (inside u) };
  meets = λ j p l. (row_meets d t points (get_or pairs j p) (take d a) few three (long j p l).1 (long j p l).0).0 (pair_met j p l);
}
  where
    few : d ≤ 3
    few = few_axes d two

    three : t < 3
    three = omega (arith, few, axis)

    within : (u : ℕ) → u < d → coordinate (take d a) u ≡ coordinate a u
    within u l = get_or-take d a u (pos 0) l

    past : (u : ℕ) → d ≤ u → coordinate (take d a) u ≡ pos 0
    past u l = get_or_past (take d a) u (pos 0) (let e = length-take-le d a (let k = o.three in omega (arith, k, few)) in omega (arith, e, l))

    main : coordinate (take d a) t ≡ s.c
    main = within t axis ∙ o.main

    first : coordinate (take d a) (first_axis t) ≡ s.a
    first = within (first_axis t) (first_low d t two) ∙ o.first

    inside : (u : ℕ) → (u < d) ⊎ (d ≤ u)
    inside u = grind arith

    -- by the rows that bound the slopes
    a_within : pos (nat_abs s.a) ≤ℤ s.c
    a_within = let u = h.met 0 (omega arith) in let v = h.met 1 (omega arith) in omega (arith, ints, u, v)

    b_within : pos (nat_abs s.b) ≤ℤ s.c
    b_within = let u = h.met 2 (omega arith) in let v = h.met 3 (omega arith) in omega (arith, ints, u, v)

    is_within : (u : ℕ) (v : ℤ) → coordinate (take d a) u ≡ v → pos (nat_abs v) ≤ℤ s.c → pos (nat_abs (coordinate (take d a) u)) ≤ℤ coordinate (take d a) t
    is_within u v e l = rw (e, main) l

    zero_within : pos (nat_abs (pos 0)) ≤ℤ s.c
    zero_within = let m = h.main in omega (arith, ints, m)

    by_axis : (u : ℕ) → u ≢ t → u < d → (u ≡ t) ⊎ ((u ≡ first_axis t) ⊎ (u ≡ second_axis t))
        → pos (nat_abs (coordinate (take d a) u)) ≤ℤ coordinate (take d a) t
    by_axis u n l (inl e) = absurd (n e)
    by_axis u n l (inr (inl e)) = is_within u s.a (within u l ∙ ap (coordinate a) e ∙ o.first) a_within
    by_axis u n l (inr (inr e)) = is_within u s.b (within u l ∙ ap (coordinate a) e ∙ o.second (omega (arith, e, l))) b_within

    others : (u : ℕ) → u ≢ t → (u < d) ⊎ (d ≤ u) → pos (nat_abs (coordinate (take d a) u)) ≤ℤ coordinate (take d a) t
    others u n (inl l) = by_axis u n l (each_axis t u three (omega (arith, few, l)))
    others u n (inr l) = is_within u (pos 0) (past u l) zero_within

    pair_met : (j : ℕ) (p : Pair) → j < length pairs
        → MeetsRow (coordinate (take d a) (first_axis t)) (coordinate (take d a) (second_axis t)) (coordinate (take d a) t)
        (pair_row t points (get_or pairs j p))
    pair_met j p l = replaced (by_second (inside (second_axis t)))
      where
        q : Pair
        q = get_or pairs j p

        met : MeetsRow s.a s.b s.c (pair_row t points q)
        met = subst (MeetsRow s.a s.b s.c) (get_or-map (pair_row t points) pairs j p _ l)
            (h.met (suc (suc (suc (suc j)))) (let e = length-map pairs (pair_row t points) in omega (arith, l, e)))

        no_gap : d ≤ second_axis t → gap points q (second_axis t) ≡ pos 0
        no_gap k =
            let x = get_or_past (point_at points q.high) (second_axis t) (pos 0) (let e = (long j p l).1 in omega (arith, e, k)) in
            let y = get_or_past (point_at points q.low) (second_axis t) (pos 0) (let e = (long j p l).0 in omega (arith, e, k)) in
            omega (arith, ints, x, y)

        same : (y b b' : ℤ) → y ≡ pos 0 → y *ℤ b ≡ y *ℤ b'
        same y b b' e = rw e (omega (arith, ints))

        by_second : (second_axis t < d) ⊎ (d ≤ second_axis t)
            → gap points q (second_axis t) *ℤ coordinate (take d a) (second_axis t) ≡ gap points q (second_axis t) *ℤ s.b
        by_second (inl k) = ap (λ (z : ℤ). gap points q (second_axis t) *ℤ z) (within (second_axis t) k ∙ o.second k)
        by_second (inr k) = same (gap points q (second_axis t)) (coordinate (take d a) (second_axis t)) s.b (no_gap k)

        replaced : gap points q (second_axis t) *ℤ coordinate (take d a) (second_axis t) ≡ gap points q (second_axis t) *ℤ s.b
            → MeetsRow (coordinate (take d a) (first_axis t)) (coordinate (take d a) (second_axis t)) (coordinate (take d a) t) (pair_row t points q)
        replaced e = rw (first, main, e) met

-- ---- no slopes meet the pairs

-- the value of a row at the slopes p and q over r
abbrev pub value : ℤ → ℤ → ℤ → Row → ℤ
value p q r c = c.x *ℤ p +ℤ c.y *ℤ q +ℤ c.z *ℤ r

-- a proper line or plane whose slopes meet the row, strictly where it is that of a pair
abbrev pub IsLow : ℤ → ℤ → ℤ → Row → Type 0
IsLow p q r c = (value p q r c ≤ℤ pos 0) × (IsGap c.cause → value p q r c <ℤ pos 0)

bound_low : (t : ℕ) (p q r : ℤ) → pos (nat_abs p) ≤ℤ r → pos (nat_abs q) ≤ℤ r → All (IsLow p q r) (bounding_rows t)
bound_low t p q r h k (suc (suc (suc (suc i)))) d l = absurd (omega arith)
bound_low t p q r h k i d l = (omega (arith, ints, h, k), λ g. absurd g)

combination_value : (v w x1 y1 z1 x2 y2 z2 x z p q r : ℤ) → x ≡ v *ℤ x1 +ℤ w *ℤ x2 → pos 0 ≡ v *ℤ y1 +ℤ w *ℤ y2 → z ≡ v *ℤ z1 +ℤ w *ℤ z2
    → x *ℤ p +ℤ z *ℤ r ≡ v *ℤ (x1 *ℤ p +ℤ y1 *ℤ q +ℤ z1 *ℤ r) +ℤ w *ℤ (x2 *ℤ p +ℤ y2 *ℤ q +ℤ z2 *ℤ r)
combination_value v w x1 y1 z1 x2 y2 z2 x z p q r ex ey ez =
    let e : pos 0 *ℤ q ≡ (v *ℤ y1 +ℤ w *ℤ y2) *ℤ q = ap (λ (m : ℤ). m *ℤ q) ey in
    rw (ex, ez) (omega (arith, ints, rings, e))

-- slopes that meet all rows meet each combination, strictly where a pair stands in it
combination_low : (rows : List Row) (c : Combination) (p q r : ℤ) → IsCombination rows c → ((i : ℕ) → i < length rows → IsLow p q r (row_at rows i))
    → ((c.bound.x *ℤ p +ℤ c.bound.z *ℤ r) ≤ℤ pos 0) × (IsGap (row_at rows c.second).cause → (c.bound.x *ℤ p +ℤ c.bound.z *ℤ r) <ℤ pos 0)
combination_low rows c p q r h low =
    let e = combination_value c.first_weight c.second_weight (row_at rows c.first).x (row_at rows c.first).y (row_at rows c.first).z (row_at rows c.second).x
    (row_at rows c.second).y (row_at rows c.second).z c.bound.x c.bound.z p q r h.x h.y h.z in
    let m = mul-le_ℤ c.first_weight (value p q r (row_at rows c.first)) (pos 0) h.first_low (low c.first h.first).0 in
    let w : pos 0 <ℤ c.second_weight = (let l = h.second_low in omega (arith, ints, l)) in
    let b = low c.second h.second in
    let s = sums (c.bound.x *ℤ p +ℤ c.bound.z *ℤ r) _ (value p q r (row_at rows c.second)) c.first_weight c.second_weight e m w b.0 in
    (s.0, λ g. s.1 (b.1 g))
  where
    sums : (s m n v w : ℤ) → s ≡ m +ℤ w *ℤ n → m ≤ℤ (v *ℤ pos 0) → pos 0 <ℤ w → n ≤ℤ pos 0 → (s ≤ℤ pos 0) × (n <ℤ pos 0 → s <ℤ pos 0)
    sums s m n v w e a l b = (
      let g = mul-le_ℤ w n (pos 0) (omega (arith, ints, l)) b in omega (arith, ints, e, a, g),
      λ k. (let g = mul-lt_ℤ w n (pos 0) l k in omega (arith, ints, e, a, g)),
    )

pub excluded_rows : (rows : List Row) (k : Excluded) (p q r : ℤ) → IsExcluded rows k → pos 1 ≤ℤ r → ((i : ℕ) → i < length rows → IsLow p q r (row_at rows i))
    → ⊥
excluded_rows rows k p q r x hr low =
    let a = combination_low rows k.first.combination p q r x.first.combination low in
    let b = combination_low rows k.second.combination p q r x.second.combination low in
    sums (k.first.combination.bound.x *ℤ p +ℤ k.first.combination.bound.z *ℤ r) (k.second.combination.bound.x *ℤ p +ℤ k.second.combination.bound.z *ℤ r)
    (k.rest *ℤ r) k.first.times k.second.times total over x.first.low x.second.low a.0 b.0 (by_pair a.1 b.1 x.pair)
  where
    total : k.first.times *ℤ (k.first.combination.bound.x *ℤ p +ℤ k.first.combination.bound.z *ℤ r) +ℤ k.second.times *ℤ
        (k.second.combination.bound.x *ℤ p +ℤ k.second.combination.bound.z *ℤ r) ≡ k.rest *ℤ r
    total = expand k.first.times k.second.times k.first.combination.bound.x k.first.combination.bound.z k.second.combination.bound.x
        k.second.combination.bound.z k.rest p r x.gone x.rest
      where
        expand : (v w x1 z1 x2 z2 s p r : ℤ) → pos 0 ≡ v *ℤ x1 +ℤ w *ℤ x2 → s ≡ v *ℤ z1 +ℤ w *ℤ z2
            → v *ℤ (x1 *ℤ p +ℤ z1 *ℤ r) +ℤ w *ℤ (x2 *ℤ p +ℤ z2 *ℤ r) ≡ s *ℤ r
        expand v w x1 z1 x2 z2 s p r e f = let g = ap (λ (m : ℤ). m *ℤ p) e in let t = regrouped v w x1 z1 x2 z2 p r in rw f (omega (arith, ints, t, g))

    over : pos 0 ≤ℤ (k.rest *ℤ r)
    over = mul-nonneg k.rest r x.rest_low (omega (arith, ints, hr))

    sums : (a b s v w : ℤ) → v *ℤ a +ℤ w *ℤ b ≡ s → pos 0 ≤ℤ s → pos 0 ≤ℤ v → pos 0 ≤ℤ w → a ≤ℤ pos 0 → b ≤ℤ pos 0
        → ((a <ℤ pos 0) × (pos 1 ≤ℤ v)) ⊎ ((b <ℤ pos 0) × (pos 1 ≤ℤ w)) → ⊥
    sums a b s v w e h hv hw la lb (inl l) = let m = mul-lt_ℤ v a (pos 0) (omega (arith, ints, l.1)) l.0 in let n = mul-le_ℤ w b (pos 0) hw lb in
        omega (arith, ints, e, h, m, n)
    sums a b s v w e h hv hw la lb (inr l) = let m = mul-le_ℤ v a (pos 0) hv la in let n = mul-lt_ℤ w b (pos 0) (omega (arith, ints, l.1)) l.0 in
        omega (arith, ints, e, h, m, n)

    by_pair : {A B : Type 0} → (IsGap (row_at rows k.first.combination.second).cause → A) → (IsGap (row_at rows k.second.combination.second).cause → B)
        → IsTaken rows k.first ⊎ IsTaken rows k.second → (A × (pos 1 ≤ℤ k.first.times)) ⊎ (B × (pos 1 ≤ℤ k.second.times))
    by_pair f g (inl l) = inl (f l.0, l.1)
    by_pair f g (inr l) = inr (g l.0, l.1)

-- no proper coefficients meet the pairs
pub excluded_slopes : (d t : ℕ) (points : List Point) (pairs : List Pair) (k : Excluded) (a : List ℤ) → d ≤ 3 → t < 3 → AreLong d points pairs
    → IsExcluded (rows_for t points pairs) k → AreSlopes t points pairs a → ⊥
excluded_slopes d t points pairs k a few three long x h =
    excluded_rows (rows_for t points pairs) k (coordinate a (first_axis t)) (coordinate a (second_axis t)) (coordinate a t) x h.proper.main (λ i l. all i _ l)
  where
    Low : Row → Type 0
    Low = IsLow (coordinate a (first_axis t)) (coordinate a (second_axis t)) (coordinate a t)

    weak : (z : ℤ) → z <ℤ pos 0 → z ≤ℤ pos 0
    weak z h = omega (arith, ints, h)

    each : All (λ (pair : Pair). Low (pair_row t points pair)) pairs
    each j p l = let m = (row_meets d t points (get_or pairs j p) a few three (long j p l).1 (long j p l).0).1 (h.meets j p l) in (weak _ m, λ g. m)

    all : All Low (rows_for t points pairs)
    all = All-append Low (bounding_rows t) _
        (bound_low t _ _ _ (h.proper.others (first_axis t) (first_other t)) (h.proper.others (second_axis t) (second_other t)))
        (All-map Low (pair_row t points) pairs each)

-- ---- coefficients in their places

past_three : (d : ℕ) (a b c : ℤ) → (d ≡ 2) ⊎ (d ≡ 3) → (d ≡ 2 → c ≡ pos 0) → (k : ℕ) → d ≤ k → coordinate (a ∷ b ∷ c ∷ []) k ≡ pos 0
past_three d a b c two flat (suc (suc (suc k))) h = refl
past_three d a b c (inl e) flat (suc (suc zero)) h = flat e
past_three d a b c (inr e) flat (suc (suc zero)) h = absurd (omega (arith, e, h))
past_three d a b c (inl e) flat k h = absurd (omega (arith, e, h))
past_three d a b c (inr e) flat k h = absurd (omega (arith, e, h))

in_space : (d : ℕ) → (d ≡ 2) ⊎ (d ≡ 3) → 2 < d → d ≡ 3
in_space d (inl e) h = absurd (omega (arith, e, h))
in_space d (inr e) h = e

pub slopes_x : (d t : ℕ) (s : Solution) (z : ℤ) → (d ≡ 2) ⊎ (d ≡ 3) → t ≡ 0 → (d ≡ 3 → z ≡ s.b) → (d ≡ 2 → z ≡ pos 0) → IsSlopesOf d t s (s.c ∷ s.a ∷ z ∷ [])
slopes_x d t s z two e solid flat = subst (λ (v : ℕ). IsSlopesOf d v s (s.c ∷ s.a ∷ z ∷ [])) (sym e)
    (record { three = refl; first = refl; second = λ l. solid (in_space d two l); main = refl; past = past_three d s.c s.a z two flat })

pub slopes_y : (d t : ℕ) (s : Solution) (z : ℤ) → (d ≡ 2) ⊎ (d ≡ 3) → t ≡ 1 → (d ≡ 3 → z ≡ s.b) → (d ≡ 2 → z ≡ pos 0) → IsSlopesOf d t s (s.a ∷ s.c ∷ z ∷ [])
slopes_y d t s z two e solid flat = subst (λ (v : ℕ). IsSlopesOf d v s (s.a ∷ s.c ∷ z ∷ [])) (sym e)
    (record { three = refl; first = refl; second = λ l. solid (in_space d two l); main = refl; past = past_three d s.a s.c z two flat })

pub slopes_z : (d t : ℕ) (s : Solution) (z : ℤ) → (d ≡ 2) ⊎ (d ≡ 3) → t < d → (t ≡ 0 → ⊥) → (t ≡ 1 → ⊥) → (d ≡ 3 → z ≡ s.b)
    → IsSlopesOf d t s (s.a ∷ z ∷ s.c ∷ [])
slopes_z d t s z (inl e) l n m solid = absurd (omega (arith, e, l, n, m))
slopes_z d t s z (inr e) l n m solid = subst (λ (v : ℕ). IsSlopesOf d v s (s.a ∷ z ∷ s.c ∷ [])) (sym at)
    (record { three = refl; first = refl; second = λ k. solid e; main = refl; past = past_three d s.a z s.c (inr e) (λ h. absurd (omega (arith, e, h))) })
  where
    at : t ≡ 2
    at = omega (arith, e, l, n, m)

pub small_slopes : (d t : ℕ) (s : Solution) (a : List ℤ) → (d ≡ 2) ⊎ (d ≡ 3) → t < d → unsigned_abs s.a ≤ plane_coefficient
    → unsigned_abs s.b ≤ plane_coefficient → unsigned_abs s.c ≤ plane_coefficient → IsSlopesOf d t s a → AreSmallCoefficients d a
small_slopes d t s a two axis ha hb hc o = record {
  three = o.three;
  past = o.past;
  small = λ k x l. (let e = get_or_default a k x (pos 0) l in let h = at k (each_axis t k (low_axis d t two axis) (let n = o.three in omega (arith, n, l)))
      (inside (second_axis t)) in omega (arith, ap nat_abs e, h));
}
  where
    inside : (u : ℕ) → (u < d) ⊎ (d ≤ u)
    inside u = grind arith

    at : (k : ℕ) → (k ≡ t) ⊎ ((k ≡ first_axis t) ⊎ (k ≡ second_axis t)) → (second_axis t < d) ⊎ (d ≤ second_axis t)
        → nat_abs (coordinate a k) ≤ plane_coefficient
    at k (inl e) l = rw (e, o.main) hc
    at k (inr (inl e)) l = rw (e, o.first) ha
    at k (inr (inr e)) (inl l) = rw (e, o.second l) hb
    at k (inr (inr e)) (inr l) = rw (e, o.past (second_axis t) l) (omega (arith, ints))
