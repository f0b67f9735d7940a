-- A corner of a set is a vertex of its hull, or from each place a vertex is farther.
-- Sets of corners and whole numbers alone.
use Rattle.std.proofs.Common.{◌≡◌, ◌⊎◌, inl, inr, ℕ, zero, suc, ◌<◌, ◌≤◌, List, [], ◌∷◌, length, ap, sym, subst, ◌∙◌, arith}
use Rattle.std.proofs.Math.IntN.{ℤ, pos, ◌+ℤ◌, ◌-ℤ◌, ◌*ℤ◌, neg_ℤ}
use lib.Signed.{◌<ℤ◌, ◌≤ℤ◌}
use Rattle.std.proofs.lemmas.Int.{ints, by_lt_z}
use Rattle.shape_terms.proofs.Products.{rings}
use Rattle.shape_terms.proofs.Triples.{rings3}
use Rattle.shape_terms.proofs.Order.{mul-nonneg, mul-le_ℤ, cancel-le_ℤ}
use Rattle.measure_terms.specs.Hulls.{Corner, IsHull, IsUpTo, turn, vertex}
use Rattle.measure_terms.specs.Widths.{along}
use Rattle.measure_terms.proofs.Turns.{det}
use Rattle.measure_terms.proofs.Across.{greatest, step_along}

-- ---- one of a list is greatest

pub record HasGreatest (f : ℕ → ℤ) (n : ℕ) : Type 0 where
  pub place : ℕ
  pub within : place < n
  pub most : (j : ℕ) → j < n → f j ≤ℤ f place

pub one_greatest : (f : ℕ → ℤ) (n : ℕ) → 1 ≤ n → HasGreatest f n
one_greatest f zero l = absurd (omega (arith, l))
one_greatest f (suc zero) l = record {
  place = 0;
  within = omega arith;
  most = λ j m. (let e : j ≡ 0 = omega (arith, m) in subst (λ i. f i ≤ℤ f 0) (sym e) (omega (arith, ints)));
}
one_greatest f (suc (suc n)) l =
    let r = one_greatest f (suc n) (omega arith) in
    let w = r.within in
    by_lt_z (f r.place) (f (suc n))
    (λ g. record {
      place = suc n;
      within = omega arith;
      most = λ j m. (
          let split : (j ≡ suc n) ⊎ (j < suc n) = grind arith in
          elim split [ inl e ↦ subst (λ i. f i ≤ℤ f (suc n)) (sym e) (omega (arith, ints)) | inr k ↦ (let o = r.most j k in omega (arith, ints, o, g)) ]);
    })
    (λ g. record {
      place = r.place;
      within = omega (arith, w);
      most = λ j m. (
          let split : (j ≡ suc n) ⊎ (j < suc n) = grind arith in
          elim split [ inl e ↦ subst (λ i. f i ≤ℤ f r.place) (sym e) g | inr k ↦ r.most j k ]);
    })

-- ---- between two points of a line

-- z lies on the way along e, and the direction (a, b) gives it no more than the begin or the end
on_the_way : (a b ex ey zx zy : ℤ) → pos 0 ≤ℤ det ex ey zx zy → det ex ey zx zy ≤ℤ pos 0 → pos 0 ≤ℤ zy → (zy ≡ pos 0 → pos 0 ≤ℤ zx) → zy ≤ℤ ey
    → (zy ≡ ey → zx ≤ℤ ex)
    → ((a *ℤ zx +ℤ b *ℤ zy) ≤ℤ pos 0) ⊎ ((a *ℤ zx +ℤ b *ℤ zy) ≤ℤ (a *ℤ ex +ℤ b *ℤ ey))
on_the_way a b ex ey zx zy p q low first high last =
    by_lt_z (pos 0) ey
    (λ up. by_lt_z (pos 0) (a *ℤ ex +ℤ b *ℤ ey)
    (λ more. inr (cancel-le_ℤ ey (a *ℤ zx +ℤ b *ℤ zy) (a *ℤ ex +ℤ b *ℤ ey) up (
    let e = share a b ex ey zx zy p q in
    let m = mul-le_ℤ (a *ℤ ex +ℤ b *ℤ ey) zy ey (omega (arith, ints, more)) high in
    moved (ey *ℤ (a *ℤ zx +ℤ b *ℤ zy)) (ey *ℤ (a *ℤ ex +ℤ b *ℤ ey)) (a *ℤ ex +ℤ b *ℤ ey) zy ey e (turned ey (a *ℤ ex +ℤ b *ℤ ey)) m)))
    (λ less. inl (cancel-le_ℤ ey (a *ℤ zx +ℤ b *ℤ zy) (pos 0) up (
    let e = share a b ex ey zx zy p q in
    let m = mul-nonneg zy (neg_ℤ (a *ℤ ex +ℤ b *ℤ ey)) low (omega (arith, ints, less)) in
    under (ey *ℤ (a *ℤ zx +ℤ b *ℤ zy)) (a *ℤ ex +ℤ b *ℤ ey) zy ey e m))))
    (λ flat.
    let y : zy ≡ pos 0 = omega (arith, ints, low, high, flat) in
    let x = first y in
    let z = last (omega (arith, ints, low, high, flat)) in
    by_lt_z (pos 0) a
    (λ more. inr (let m = mul-le_ℤ a zx ex (omega (arith, ints, more)) z in row a b ex ey zx zy y (omega (arith, ints, low, high, flat)) m))
    (λ less. inl (let m = mul-nonneg (neg_ℤ a) zx (omega (arith, ints, less)) x in still a b zx zy y m)))
  where
    share : (a b ex ey zx zy : ℤ) → pos 0 ≤ℤ det ex ey zx zy → det ex ey zx zy ≤ℤ pos 0 → ey *ℤ (a *ℤ zx +ℤ b *ℤ zy) ≡ (a *ℤ ex +ℤ b *ℤ ey) *ℤ zy
    share a b ex ey zx zy p q =
        let d : ey *ℤ zx ≡ ex *ℤ zy = omega (arith, ints, rings, p, q) in
        let m = ap (λ (t : ℤ). a *ℤ t) d in
        omega (arith, ints, rings3, m)

    turned : (x y : ℤ) → x *ℤ y ≡ y *ℤ x
    turned x y = omega (arith, ints, rings)

    moved : (l r d zy ey : ℤ) → l ≡ d *ℤ zy → r ≡ d *ℤ ey → (d *ℤ zy) ≤ℤ (d *ℤ ey) → l ≤ℤ r
    moved l r d zy ey e f m = omega (arith, ints, e, f, m)

    under : (l d zy ey : ℤ) → l ≡ d *ℤ zy → pos 0 ≤ℤ (zy *ℤ neg_ℤ d) → l ≤ℤ (ey *ℤ pos 0)
    under l d zy ey e m = omega (arith, ints, rings, e, m)

    row : (a b ex ey zx zy : ℤ) → zy ≡ pos 0 → ey ≡ pos 0 → (a *ℤ zx) ≤ℤ (a *ℤ ex) → (a *ℤ zx +ℤ b *ℤ zy) ≤ℤ (a *ℤ ex +ℤ b *ℤ ey)
    row a b ex ey zx zy e f m = (let g = ap (λ (t : ℤ). b *ℤ t) (e ∙ sym f) in omega (arith, ints, m, g))

    still : (a b zx zy : ℤ) → zy ≡ pos 0 → pos 0 ≤ℤ (neg_ℤ a *ℤ zx) → (a *ℤ zx +ℤ b *ℤ zy) ≤ℤ pos 0
    still a b zx zy e m = (let g = ap (λ (t : ℤ). b *ℤ t) e in let h = nought b in omega (arith, ints, rings, m, g, h))
      where
        nought : (b : ℤ) → b *ℤ pos 0 ≡ pos 0
        nought b = omega (arith, ints, rings)

-- ---- a vertex that no corner of the set exceeds along a direction

pub record HasMost (S : Corner → Type 0) (h : List Corner) (a b : ℤ) (p : Corner) : Type 0 where
  pub place : ℕ
  pub within : place < length h
  pub most : along a b p ≤ℤ along a b (vertex h place)

-- the same corner
at_vertex : (S : Corner → Type 0) (h : List Corner) (a b : ℤ) (p : Corner) (k : ℕ) → k < length h → p.x ≡ (vertex h k).x → p.y ≡ (vertex h k).y
    → HasMost S h a b p
at_vertex S h a b p k l x y =
    record { place = k; within = l; most = (let e = ap (λ (t : ℤ). a *ℤ t) x in let f = ap (λ (t : ℤ). b *ℤ t) y in omega (arith, ints, e, f)) }

between_two : (S : Corner → Type 0) (u v : Corner) (a b : ℤ) (p : Corner) → pos 0 ≤ℤ turn u v p → pos 0 ≤ℤ turn v u p → IsUpTo u p → IsUpTo p v
    → HasMost S (u ∷ v ∷ []) a b p
between_two S u v a b p left right low high =
    let lr = low.row in
    let hr = high.row in
    elim (on_the_way a b (v.x -ℤ u.x) (v.y -ℤ u.y) (p.x -ℤ u.x) (p.y -ℤ u.y) left (other u.x u.y v.x v.y p.x p.y right) (omega (arith, ints, lr))
    (λ e. (let c = low.column (omega (arith, ints, e)) in omega (arith, ints, c))) (omega (arith, ints, hr))
    (λ e. (let c = high.column (omega (arith, ints, e)) in omega (arith, ints, c)))) [
      | inl m ↦ record { place = 0; within = omega arith; most = (let e = step_along a b u p in omega (arith, ints, e, m)) }
      | inr m ↦ record { place = 1; within = omega arith; most = (let e = step_along a b u p in let f = step_along a b u v in omega (arith, ints, e, f, m)) }
    ]
  where
    other : (ux uy vx vy px py : ℤ) → pos 0 ≤ℤ ((ux -ℤ vx) *ℤ (py -ℤ vy) -ℤ (uy -ℤ vy) *ℤ (px -ℤ vx)) → det (vx -ℤ ux) (vy -ℤ uy) (px -ℤ ux) (py -ℤ uy) ≤ℤ pos 0
    other ux uy vx vy px py h =
        let a : ux -ℤ vx ≡ neg_ℤ (vx -ℤ ux) = omega (arith, ints) in
        let b : uy -ℤ vy ≡ neg_ℤ (vy -ℤ uy) = omega (arith, ints) in
        let c : py -ℤ vy ≡ (py -ℤ uy) -ℤ (vy -ℤ uy) = omega (arith, ints) in
        let d : px -ℤ vx ≡ (px -ℤ ux) -ℤ (vx -ℤ ux) = omega (arith, ints) in
        negated ((ux -ℤ vx) *ℤ (py -ℤ vy) -ℤ (uy -ℤ vy) *ℤ (px -ℤ vx)) (det (vx -ℤ ux) (vy -ℤ uy) (px -ℤ ux) (py -ℤ uy))
        ((λ i. a i *ℤ c i -ℤ b i *ℤ d i) ∙ flipped (vx -ℤ ux) (vy -ℤ uy) (px -ℤ ux) (py -ℤ uy)) h
      where
        flipped : (ex ey zx zy : ℤ) → neg_ℤ ex *ℤ (zy -ℤ ey) -ℤ neg_ℤ ey *ℤ (zx -ℤ ex) ≡ neg_ℤ (det ex ey zx zy)
        flipped ex ey zx zy = (let p = apart ex zy ey in let q = apart ey zx ex in let r = swapped ex ey in omega (arith, ints, p, q, r))
          where
            apart : (a b c : ℤ) → neg_ℤ a *ℤ (b -ℤ c) ≡ a *ℤ c -ℤ a *ℤ b
            apart a b c = omega (arith, ints, rings)

            swapped : (a b : ℤ) → a *ℤ b ≡ b *ℤ a
            swapped a b = omega (arith, ints, rings)

        negated : (s t : ℤ) → s ≡ neg_ℤ t → pos 0 ≤ℤ s → t ≤ℤ pos 0
        negated s t e h = omega (arith, ints, e, h)

pub most_of_hull : (S : Corner → Type 0) (h : List Corner) (a b : ℤ) (p : Corner) → IsHull S h → S p → HasMost S h a b p
most_of_hull S [] a b p is here = absurd (let w = is.once.within in omega (arith, w))
most_of_hull S (u ∷ []) a b p is here =
    let w = is.once.within in
    let zero_far : is.far ≡ 0 = omega (arith, w) in
    let low = is.first p here in
    let high : IsUpTo p u = subst (λ n. IsUpTo p (vertex (u ∷ []) n)) zero_far (is.last p here) in
    let r = low.row in let s = high.row in
    let y : p.y ≡ u.y = omega (arith, ints, r, s) in
    let c = low.column (sym y) in let d = high.column y in
    at_vertex S (u ∷ []) a b p 0 (omega arith) (omega (arith, ints, c, d)) y
most_of_hull S (u ∷ v ∷ []) a b p is here =
    let w = is.once.within in
    let split : (is.far ≡ 0) ⊎ (is.far ≡ 1) = grind arith in
    elim split [
      | inl e ↦ (
          let low = is.first p here in
          let high : IsUpTo p u = subst (λ n. IsUpTo p (vertex (u ∷ v ∷ []) n)) e (is.last p here) in
          let r = low.row in let s = high.row in
          let y : p.y ≡ u.y = omega (arith, ints, r, s) in
          let c = low.column (sym y) in let d = high.column y in
          at_vertex S (u ∷ v ∷ []) a b p 0 (omega arith) (omega (arith, ints, c, d)) y)
      | inr e ↦ between_two S u v a b p (is.left 0 p (omega arith) here) (is.left 1 p (omega arith) here) (is.first p here)
          (subst (λ n. IsUpTo p (vertex (u ∷ v ∷ []) n)) e (is.last p here))
    ]
most_of_hull S (u ∷ v ∷ t ∷ h) a b p is here =
    let round = u ∷ v ∷ t ∷ h in
    let r = one_greatest (λ j. along a b (vertex round j)) (length round) (omega arith) in
    record { place = r.place; within = r.within; most = greatest S round a b r.place is (omega arith) r.within r.most p here }

-- ---- farther

-- what the square of a weighed difference grows by
grown : (w u i : ℤ) → w *ℤ ((u +ℤ i) *ℤ (u +ℤ i)) ≡ ((w *ℤ (u *ℤ u) +ℤ (w *ℤ u) *ℤ i) +ℤ (w *ℤ u) *ℤ i) +ℤ w *ℤ (i *ℤ i)
grown w u i = omega (arith, ints, rings3)

square_pos : (i : ℤ) → (i ≡ pos 0 → ⊥) → pos 1 ≤ℤ (i *ℤ i)
square_pos i n =
    by_lt_z (pos 0) i
    (λ m. (let k = mul-le_ℤ i (pos 1) i (omega (arith, ints, m)) (omega (arith, ints, m)) in let e = once i in omega (arith, ints, k, e, m)))
    (λ m. by_lt_z i (pos 0)
    (λ l. (let k = mul-le_ℤ (neg_ℤ i) (pos 1) (neg_ℤ i) (omega (arith, ints, l)) (omega (arith, ints, l)) in let e = once (neg_ℤ i) in let f = twice i in
    omega (arith, ints, k, e, f, l)))
    (λ l. absurd (n (omega (arith, ints, m, l)))))
  where
    once : (i : ℤ) → i *ℤ pos 1 ≡ i
    once i = omega (arith, ints, rings)

    twice : (i : ℤ) → neg_ℤ i *ℤ neg_ℤ i ≡ i *ℤ i
    twice i = omega (arith, ints, rings)

square_nonneg : (i : ℤ) → pos 0 ≤ℤ (i *ℤ i)
square_nonneg i = by_lt_z i (pos 0)
    (λ l. (let m = mul-nonneg (neg_ℤ i) (neg_ℤ i) (omega (arith, ints, l)) (omega (arith, ints, l)) in let e = twice i in omega (arith, ints, m, e)))
    (λ l. mul-nonneg i i l l)
  where
    twice : (i : ℤ) → neg_ℤ i *ℤ neg_ℤ i ≡ i *ℤ i
    twice i = omega (arith, ints, rings)

-- a weighed square is above 0
weighed_pos : (w x : ℤ) → pos 1 ≤ℤ w → pos 1 ≤ℤ x → pos 1 ≤ℤ (w *ℤ x)
weighed_pos w x a b = (let m = mul-le_ℤ w (pos 1) x (omega (arith, ints, a)) b in let e = once w in omega (arith, ints, m, e, a))
  where
    once : (i : ℤ) → i *ℤ pos 1 ≡ i
    once i = omega (arith, ints, rings)

-- a step that does not go back along the weighed way makes the weighed square greater
pub farther : (w v x y i j : ℤ) → pos 1 ≤ℤ w → pos 1 ≤ℤ v → pos 0 ≤ℤ ((w *ℤ x) *ℤ i +ℤ (v *ℤ y) *ℤ j) → (i ≡ pos 0 → j ≡ pos 0 → ⊥)
    → (w *ℤ (x *ℤ x) +ℤ v *ℤ (y *ℤ y)) <ℤ (w *ℤ ((x +ℤ i) *ℤ (x +ℤ i)) +ℤ v *ℤ ((y +ℤ j) *ℤ (y +ℤ j)))
farther w v x y i j a b h n =
    let e = grown w x i in
    let f = grown v y j in
    let p = mul-nonneg w (i *ℤ i) (omega (arith, ints, a)) (square_nonneg i) in
    let q = mul-nonneg v (j *ℤ j) (omega (arith, ints, b)) (square_nonneg j) in
    by_lt_z (pos 0) (i *ℤ i)
    (λ m. (let k = weighed_pos w (i *ℤ i) a (omega (arith, ints, m)) in sum (w *ℤ (x *ℤ x)) (v *ℤ (y *ℤ y)) ((w *ℤ x) *ℤ i) ((v *ℤ y) *ℤ j) (w *ℤ (i *ℤ i))
    (v *ℤ (j *ℤ j)) _ _ e f h (omega (arith, ints, k)) q (omega (arith, ints, k, q))))
    (λ m.
    let still : i ≡ pos 0 = none i m in
    let k = weighed_pos v (j *ℤ j) b (square_pos j (n still)) in
    sum (w *ℤ (x *ℤ x)) (v *ℤ (y *ℤ y)) ((w *ℤ x) *ℤ i) ((v *ℤ y) *ℤ j) (w *ℤ (i *ℤ i)) (v *ℤ (j *ℤ j)) _ _ e f h p (omega (arith, ints, k))
    (omega (arith, ints, k, p)))
  where
    none : (i : ℤ) → (i *ℤ i) ≤ℤ pos 0 → i ≡ pos 0
    none i m = by_lt_z (pos 0) i
        (λ l. absurd (let k = square_pos i (λ e. omega (arith, ints, e, l)) in omega (arith, ints, k, m)))
        (λ l. by_lt_z i (pos 0) (λ g. absurd (let k = square_pos i (λ e. omega (arith, ints, e, g)) in omega (arith, ints, k, m)))
        (λ g. omega (arith, ints, l, g)))

    sum : (p q s t c d l r : ℤ) → l ≡ ((p +ℤ s) +ℤ s) +ℤ c → r ≡ ((q +ℤ t) +ℤ t) +ℤ d → pos 0 ≤ℤ (s +ℤ t) → pos 0 ≤ℤ c → pos 0 ≤ℤ d → pos 1 ≤ℤ (c +ℤ d)
        → (p +ℤ q) <ℤ (l +ℤ r)
    sum p q s t c d l r e f h m k o = omega (arith, ints, e, f, h, m, k, o)
