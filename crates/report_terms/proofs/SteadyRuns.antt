-- The least lines of a run along which the other coordinate goes one way by one: those of one axis are one, and where a line of the other axis holds the run
-- too, they are diagonal.
-- Lists of points alone; contours belong elsewhere.
use Rattle.std.proofs.Common.{◌≡◌, ◌⊎◌, inl, inr, ℕ, zero, suc, ◌+◌, ◌<◌, List, [], ◌∷◌, length, refl, sym, ◌∙◌, subst, arith}
use Rattle.std.specs.Prelude.{◌≢◌, ℤ, pos, negsuc, ◌+ℤ◌, ◌-ℤ◌, ◌*ℤ◌, neg_ℤ, ◌≤ℤ◌, ◌<ℤ◌, nat_abs}
use Rattle.std.proofs.lemmas.Int.{ints, by_lt_z}
use Rattle.shape_terms.specs.Points.{Point, coordinate}
use Rattle.shape_terms.specs.Vectors.{dot}
use Rattle.shape_terms.specs.Naive.{Naive, IsProper, IsNaiveFor}
use Rattle.shape_terms.specs.Refutations.{point_at}
use Rattle.shape_terms.specs.Turns.{other_axis, change_at}
use Rattle.shape_terms.specs.Least.{IsLeastLine}
use Rattle.shape_terms.proofs.LeastLines.{value_on}
use Rattle.shape_terms.proofs.Products.{rings}
use Rattle.report_terms.proofs.SlopesBetween.{some_between, asks_between, slope_up, slope_down, Goes, diagonal}
use Rattle.report_terms.proofs.RunLines.{some_line}

-- the row with the coefficient b on the axis t of the plane and c on the other
abbrev row : ℕ → ℤ → ℤ → List ℤ
row zero c b = b ∷ c ∷ []
row (suc t) c b = c ∷ b ∷ []

row_main : (t : ℕ) (c b : ℤ) → t < 2 → coordinate (row t c b) t ≡ b
row_main (suc (suc t)) c b l = absurd (omega arith)
row_main t c b l = refl

row_side : (t : ℕ) (c b : ℤ) → t < 2 → coordinate (row t c b) (other_axis t) ≡ c
row_side (suc (suc t)) c b l = absurd (omega arith)
row_side t c b l = refl

unsize : (c b : ℤ) → neg_ℤ b ≤ℤ c → c ≤ℤ b → pos (nat_abs c) ≤ℤ b
unsize c b h k = omega (arith, ints, h, k)

row_proper : (t : ℕ) (c b : ℤ) → t < 2 → pos 1 ≤ℤ b → neg_ℤ b ≤ℤ c → c ≤ℤ b → IsProper t (record { a = row t c b; mu = pos 0 })
row_proper zero c b l some low high = record { main = some; others = others }
  where
    others : (u : ℕ) → u ≢ 0 → pos (nat_abs (coordinate (b ∷ c ∷ []) u)) ≤ℤ b
    others zero n = absurd (n refl)
    others (suc zero) n = unsize c b low high
    others (suc (suc u)) n = omega (arith, ints, some)
row_proper (suc zero) c b l some low high = record { main = some; others = others }
  where
    others : (u : ℕ) → u ≢ 1 → pos (nat_abs (coordinate (c ∷ b ∷ []) u)) ≤ℤ b
    others zero n = unsize c b low high
    others (suc zero) n = absurd (n refl)
    others (suc (suc u)) n = omega (arith, ints, some)
row_proper (suc (suc t)) c b l some low high = absurd (omega arith)

other_is : (t : ℕ) → t < 2 → other_axis t ≢ t
other_is zero l e = absurd (let q : 1 ≡ 0 = e in omega arith)
other_is (suc zero) l e = absurd (let q : 0 ≡ 1 = e in omega arith)
other_is (suc (suc t)) l e = absurd (omega arith)

-- the other axis of the plane is one, and its other axis is the first
pub other_below : (t : ℕ) → t < 2 → other_axis t < 2
other_below t l = omega arith

pub other_twice : (t : ℕ) → t < 2 → other_axis (other_axis t) ≡ t
other_twice t l = omega arith

module _ (t : ℕ) (run : List Point) (l : t < 2) (flat : (i : ℕ) → i < length run → length (point_at run i) ≡ 2) where
  -- how far the other coordinate and the main one go from a place to a place
  abbrev side : (i j : ℕ) → ℤ
  side i j = coordinate (point_at run j) (other_axis t) -ℤ coordinate (point_at run i) (other_axis t)

  abbrev main : (i j : ℕ) → ℤ
  main i j = coordinate (point_at run j) t -ℤ coordinate (point_at run i) t

  rise : (a : List ℤ) (i j : ℕ) → i < length run → j < length run
      → dot a (point_at run j) -ℤ dot a (point_at run i) ≡ coordinate a (other_axis t) *ℤ side i j +ℤ coordinate a t *ℤ main i j
  rise a i j li lj = by (dot a (point_at run j)) (dot a (point_at run i)) (coordinate a (other_axis t)) (coordinate a t)
      (coordinate (point_at run j) (other_axis t)) (coordinate (point_at run j) t)
      (coordinate (point_at run i) (other_axis t)) (coordinate (point_at run i) t) (value_on t a (point_at run j) l (flat j lj))
      (value_on t a (point_at run i) l (flat i li))
    where
      by : (v w c b x y z u : ℤ) → v ≡ c *ℤ x +ℤ b *ℤ y → w ≡ c *ℤ z +ℤ b *ℤ u → v -ℤ w ≡ c *ℤ (x -ℤ z) +ℤ b *ℤ (y -ℤ u)
      by v w c b x y z u e f = omega (arith, ints, rings, e, f)

  -- the values of a line that holds the run, from a place to a place
  pub goes : (n : Naive) (i j : ℕ) → i < length run → j < length run → IsNaiveFor t run n
      → (coordinate n.a (other_axis t) *ℤ side i j +ℤ coordinate n.a t *ℤ main i j) <ℤ coordinate n.a t
  goes n i j li lj h =
      let p = h.holds i [] li in
      let q = h.holds j [] lj in
      within (dot n.a (point_at run j)) (dot n.a (point_at run i)) n.mu (coordinate n.a t)
      (coordinate n.a (other_axis t) *ℤ side i j +ℤ coordinate n.a t *ℤ main i j) (rise n.a i j li lj) p.low q.high
    where
      within : (v w mu b d : ℤ) → v -ℤ w ≡ d → mu ≤ℤ w → v <ℤ (mu +ℤ b) → d <ℤ b
      within v w mu b d e f g = omega (arith, ints, e, f, g)

  -- and back
  comes : (n : Naive) (i j : ℕ) → i < length run → j < length run → IsNaiveFor t run n
      → neg_ℤ (coordinate n.a t) <ℤ (coordinate n.a (other_axis t) *ℤ side i j +ℤ coordinate n.a t *ℤ main i j)
  comes n i j li lj h = back (coordinate n.a (other_axis t)) (coordinate n.a t) (coordinate (point_at run i) (other_axis t))
      (coordinate (point_at run j) (other_axis t)) (coordinate (point_at run i) t) (coordinate (point_at run j) t) (goes n j i lj li h)
    where
      back : (c b x y z w : ℤ) → (c *ℤ (x -ℤ y) +ℤ b *ℤ (z -ℤ w)) <ℤ b → neg_ℤ b <ℤ (c *ℤ (y -ℤ x) +ℤ b *ℤ (w -ℤ z))
      back c b x y z w h = omega (arith, ints, rings, h)

  pub side_size : (n : Naive) → IsProper t n → (neg_ℤ (coordinate n.a t) ≤ℤ coordinate n.a (other_axis t)) × (coordinate n.a (other_axis t) ≤ℤ coordinate n.a t)
  side_size n h = size (coordinate n.a (other_axis t)) (coordinate n.a t) (h.others (other_axis t) (other_is t l))
    where
      size : (c b : ℤ) → pos (nat_abs c) ≤ℤ b → (neg_ℤ b ≤ℤ c) × (c ≤ℤ b)
      size c b h = (omega (arith, ints, h), omega (arith, ints, h))

  -- a row by its two coefficients, whose values lie close, is that of a line that holds the run
  row_line : (c b : ℤ) → pos 1 ≤ℤ b → neg_ℤ b ≤ℤ c → c ≤ℤ b → ((i j : ℕ) → i < length run → j < length run → (c *ℤ side i j +ℤ b *ℤ main i j) <ℤ b)
      → (m : Naive) × IsNaiveFor t run m × (coordinate m.a t ≡ b)
  row_line c b some low high close =
      let a = row t c b in
      let p = row_main t c b l in
      let q = row_side t c b l in
      let r = some_line t run a (row_proper t c b l some low high)
      (λ i j li lj. (let e = rise a i j li lj in
      let f = subst (λ (z : ℤ). (z *ℤ side i j +ℤ b *ℤ main i j) <ℤ b) (sym q) (close i j li lj) in
      let g = subst (λ (z : ℤ). (coordinate a (other_axis t) *ℤ side i j +ℤ z *ℤ main i j) <ℤ z) (sym p) f in
      subst (λ (z : ℤ). z <ℤ coordinate a t) (sym e) g)) in
      (record { a = a; mu = r.0 }, r.1, p)

  -- ---- two lines with one main coefficient

  -- where the slopes of two lines with one main coefficient past 1 differ, a line with a lesser one holds the run
  lesser : (n m : Naive) → IsNaiveFor t run n → IsNaiveFor t run m → coordinate n.a t ≡ coordinate m.a t
      → coordinate n.a (other_axis t) <ℤ coordinate m.a (other_axis t) → pos 1 <ℤ coordinate n.a t
      → (k : Naive) × IsNaiveFor t run k × (coordinate k.a t <ℤ coordinate n.a t)
  lesser n m h k same less past =
      let c = coordinate n.a (other_axis t) in
      let e = coordinate m.a (other_axis t) in
      let b = coordinate n.a t in
      let g = b -ℤ pos 1 in
      let sn = side_size n h.proper in
      let sm = side_size m k.proper in
      let between = some_between c e g less (let s = sn.0 in omega (arith, ints, s)) (let s = sm.1 in omega (arith, ints, s, same)) (omega (arith, ints, past))
      in
      let is = between.1 in
      let low = is.low in
      let high = is.high in
      let r = row_line between.0 g (omega (arith, ints, past)) low high
      (λ i j li lj. asks_between c e g between.0 (side i j) (main i j) (omega (arith, ints, past)) is
      (again c b (side i j) (main i j) (goes n i j li lj h))
      (again e b (side i j) (main i j) (subst (λ (z : ℤ). (e *ℤ side i j +ℤ z *ℤ main i j) <ℤ z) (sym same) (goes m i j li lj k)))) in
      (r.0, r.1, before (coordinate (r.0).a t) b r.2)
    where
      before : (z b : ℤ) → z ≡ b -ℤ pos 1 → z <ℤ b
      before z b e = omega (arith, ints, e)

      again : (c b s d : ℤ) → (c *ℤ s +ℤ b *ℤ d) <ℤ b → (c *ℤ s +ℤ (b -ℤ pos 1 +ℤ pos 1) *ℤ d) <ℤ (b -ℤ pos 1 +ℤ pos 1)
      again c b s d h = omega (arith, ints, rings, h)

  not_steeper : (n m : Naive) → IsLeastLine t run n → IsLeastLine t run m → coordinate n.a t ≡ coordinate m.a t → pos 1 <ℤ coordinate n.a t
      → coordinate n.a (other_axis t) <ℤ coordinate m.a (other_axis t) → ⊥
  not_steeper n m h k same past less =
      let r = lesser n m h.line k.line same less past in
      let a = h.least r.0 r.1 in
      let b = r.2 in
      omega (arith, ints, a, b)

  -- ---- along steps of 1 or -1
  module _ (steps : (i : ℕ) → i + 1 < length run → (change_at run t i ≡ pos 1) ⊎ (change_at run t i ≡ negsuc 0)) where
    -- a line with the main coefficient 1 is told by the first step
    pub slope_told : (n : Naive) → IsNaiveFor t run n → 1 < length run → coordinate n.a t ≡ pos 1
        → (side 0 1 ≡ pos 1 → coordinate n.a (other_axis t) ≡ neg_ℤ (main 0 1)) × (side 0 1 ≡ negsuc 0 → coordinate n.a (other_axis t) ≡ main 0 1)
    slope_told n h two e =
        let above = subst (λ (z : ℤ). (coordinate n.a (other_axis t) *ℤ side 0 1 +ℤ z *ℤ main 0 1) <ℤ z) e (goes n 0 1 (omega arith) two h) in
        let below = subst (λ (z : ℤ). neg_ℤ z <ℤ (coordinate n.a (other_axis t) *ℤ side 0 1 +ℤ z *ℤ main 0 1)) e (comes n 0 1 (omega arith) two h) in (
          λ s. slope_up (coordinate n.a (other_axis t)) (side 0 1) (main 0 1) s above below,
          λ s. slope_down (coordinate n.a (other_axis t)) (side 0 1)
              (main 0 1) s above below,
        )

    told : (n m : Naive) → IsNaiveFor t run n → IsNaiveFor t run m → 1 < length run → coordinate n.a t ≡ pos 1 → coordinate m.a t ≡ pos 1
        → coordinate n.a (other_axis t) ≡ coordinate m.a (other_axis t)
    told n m h k two en em =
        let a = slope_told n h two en in
        let b = slope_told m k two em in
        elim (steps 0 two) [ inl s ↦ a.0 s ∙ sym (b.0 s) | inr s ↦ a.1 s ∙ sym (b.1 s) ]

    -- two least lines of the axis have the same coefficients
    pub least_once : (n m : Naive) → IsLeastLine t run n → IsLeastLine t run m → 1 < length run
        → (coordinate n.a t ≡ coordinate m.a t) × (coordinate n.a (other_axis t) ≡ coordinate m.a (other_axis t))
    least_once n m h k two =
        let a = h.least m k.line in
        let b = k.least n h.line in
        let same : coordinate n.a t ≡ coordinate m.a t = omega (arith, ints, a, b) in
        let some = h.line.proper.main in (
          same,
          by_lt_z (pos 1) (coordinate n.a t)
              (λ (past : pos 1 <ℤ coordinate n.a t). by_lt_z (coordinate n.a (other_axis t)) (coordinate m.a (other_axis t))
              (λ (less : coordinate n.a (other_axis t) <ℤ coordinate m.a (other_axis t)). absurd (not_steeper n m h k same past less))
              (λ (x : coordinate m.a (other_axis t) ≤ℤ coordinate n.a (other_axis t)). by_lt_z (coordinate m.a (other_axis t)) (coordinate n.a (other_axis t))
              (λ (more : coordinate m.a (other_axis t) <ℤ coordinate n.a (other_axis t)).
              absurd (not_steeper m n k h (sym same) (omega (arith, ints, past, same)) more))
              (λ (y : coordinate n.a (other_axis t) ≤ℤ coordinate m.a (other_axis t)). omega (arith, ints, x, y))))
              (λ (most : coordinate n.a t ≤ℤ pos 1). told n m h.line k.line two (omega (arith, ints, some, most)) (omega (arith, ints, some, most, same))),
        )

    -- ---- lines of both axes

    module _ (n m : Naive) (h : IsNaiveFor t run n) (k : IsNaiveFor (other_axis t) run m) where
      back_again : (a : List ℤ) (i j : ℕ) → i < length run → j < length run
          → dot a (point_at run j) -ℤ dot a (point_at run i) ≡ coordinate a t *ℤ main i j +ℤ coordinate a (other_axis t) *ℤ side i j
      back_again a i j li lj = let e = rise a i j li lj in omega (arith, ints, e)

      -- what the line of the other axis asks of a step
      over : (i : ℕ) → i + 1 < length run → (coordinate m.a t *ℤ main i (i + 1) +ℤ coordinate m.a (other_axis t) *ℤ side i (i + 1)) <ℤ coordinate m.a
          (other_axis t)
      over i d = within (dot m.a (point_at run (i + 1))) (dot m.a (point_at run i)) m.mu (coordinate m.a (other_axis t))
          (coordinate m.a t *ℤ main i (i + 1) +ℤ coordinate m.a (other_axis t) *ℤ side i (i + 1)) (back_again m.a i (i + 1) (omega arith) d)
          (k.holds i [] (omega arith)).low (k.holds (i + 1) [] d).high
        where
          within : (v w mu b d : ℤ) → v -ℤ w ≡ d → mu ≤ℤ w → v <ℤ (mu +ℤ b) → d <ℤ b
          within v w mu b d e f g = omega (arith, ints, e, f, g)

      under : (i : ℕ) → i + 1 < length run
          → neg_ℤ (coordinate m.a (other_axis t)) <ℤ (coordinate m.a t *ℤ main i (i + 1) +ℤ coordinate m.a (other_axis t) *ℤ side i (i + 1))
      under i d = within (dot m.a (point_at run (i + 1))) (dot m.a (point_at run i)) m.mu (coordinate m.a (other_axis t))
          (coordinate m.a t *ℤ main i (i + 1) +ℤ coordinate m.a (other_axis t) *ℤ side i (i + 1)) (back_again m.a i (i + 1) (omega arith) d)
          (k.holds (i + 1) [] d).low (k.holds i [] (omega arith)).high
        where
          within : (v w mu b d : ℤ) → v -ℤ w ≡ d → mu ≤ℤ v → w <ℤ (mu +ℤ b) → neg_ℤ b <ℤ d
          within v w mu b d e f g = omega (arith, ints, e, f, g)

      step_goes : (i : ℕ) → i + 1 < length run → Goes (coordinate n.a (other_axis t)) (coordinate n.a t) (coordinate m.a t) (coordinate m.a (other_axis t))
          (side i (i + 1)) (main i (i + 1))
      step_goes i d =
          let s = side_size n h.proper in
          record {
            low = s.0;
            high = s.1;
            some = h.proper.main;
            above = goes n i (i + 1) (omega arith) d h;
            below = comes n i (i + 1) (omega arith) d h;
            over = over i d;
            under = under i d;
          }

      -- each step is the same diagonal one
      record IsDiagonal : Type 0 where
        slope : ℤ
        low : neg_ℤ (pos 1) ≤ℤ slope
        high : slope ≤ℤ pos 1
        each : (i : ℕ) → i + 1 < length run → slope *ℤ side i (i + 1) +ℤ pos 1 *ℤ main i (i + 1) ≡ pos 0

      is_diagonal : IsDiagonal
      is_diagonal = by_lt_z (pos 0) (coordinate m.a t)
          (λ (p : pos 0 <ℤ coordinate m.a t). record {
            slope = pos 1;
            low = omega (arith, ints);
            high = omega (arith, ints);
            each =
                λ i d. (diagonal _ _ _ _ _ _ (steps i d) (step_goes i d)).0 p;
          })
          (λ (p : coordinate m.a t ≤ℤ pos 0). record {
            slope = negsuc 0;
            low = omega (arith, ints);
            high = omega (arith, ints);
            each =
                λ i d. (diagonal _ _ _ _ _ _ (steps i d) (step_goes i d)).1 p;
          })

      -- so the values of the diagonal row are all one
      level : (d : IsDiagonal) (i : ℕ) → i < length run → d.slope *ℤ side 0 i +ℤ pos 1 *ℤ main 0 i ≡ pos 0
      level d zero b = none d.slope (coordinate (point_at run 0) (other_axis t)) (coordinate (point_at run 0) t)
        where
          none : (c x y : ℤ) → c *ℤ (x -ℤ x) +ℤ pos 1 *ℤ (y -ℤ y) ≡ pos 0
          none c x y = omega (arith, ints, rings)
      level d (suc i) b =
          let q : i + 1 ≡ suc i = omega arith in
          let e = subst (λ (j : ℕ). d.slope *ℤ side i j +ℤ pos 1 *ℤ main i j ≡ pos 0) q (d.each i (omega arith)) in
          more d.slope (coordinate (point_at run 0) (other_axis t)) (coordinate (point_at run i) (other_axis t))
          (coordinate (point_at run (suc i)) (other_axis t)) (coordinate (point_at run 0) t) (coordinate (point_at run i) t)
          (coordinate (point_at run (suc i)) t) (level d i (omega arith)) e
        where
          more : (c x y z u v w : ℤ) → c *ℤ (y -ℤ x) +ℤ pos 1 *ℤ (v -ℤ u) ≡ pos 0 → c *ℤ (z -ℤ y) +ℤ pos 1 *ℤ (w -ℤ v) ≡ pos 0
              → c *ℤ (z -ℤ x) +ℤ pos 1 *ℤ (w -ℤ u) ≡ pos 0
          more c x y z u v w e f = omega (arith, ints, rings, e, f)

      diagonal_line : (d : IsDiagonal) → (o : Naive) × IsNaiveFor t run o × (coordinate o.a t ≡ pos 1)
      diagonal_line d = row_line d.slope (pos 1) (omega (arith, ints)) d.low d.high
          (λ i j li lj. apart d.slope (coordinate (point_at run 0) (other_axis t)) (coordinate (point_at run i) (other_axis t))
          (coordinate (point_at run j) (other_axis t)) (coordinate (point_at run 0) t) (coordinate (point_at run i) t) (coordinate (point_at run j) t)
          (level d i li) (level d j lj))
        where
          apart : (c x y z u v w : ℤ) → c *ℤ (y -ℤ x) +ℤ pos 1 *ℤ (v -ℤ u) ≡ pos 0 → c *ℤ (z -ℤ x) +ℤ pos 1 *ℤ (w -ℤ u) ≡ pos 0
              → (c *ℤ (z -ℤ y) +ℤ pos 1 *ℤ (w -ℤ v)) <ℤ pos 1
          apart c x y z u v w e f = omega (arith, ints, rings, e, f)

      -- a least line has the main coefficient 1
      pub least_diagonal : IsLeastLine t run n → coordinate n.a t ≡ pos 1
      least_diagonal least =
          let o = diagonal_line is_diagonal in
          let a = least.least o.0 o.1 in
          let b = o.2 in
          let c = h.proper.main in
          omega (arith, ints, a, b, c)
