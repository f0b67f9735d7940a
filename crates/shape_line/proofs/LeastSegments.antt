-- The line of a segment is least: its leaning points give two pairs of which its slope is a neighbour.
-- Told of segments in their frame; how they grow belongs elsewhere.
use Rattle.std.proofs.Common.{◌≡◌, ℕ, ◌<◌, ◌≤◌, List, length, refl, sym, subst, ◌∙◌, arith}
use Rattle.std.specs.Prelude.{ℤ, pos, ◌+ℤ◌, ◌-ℤ◌, ◌*ℤ◌, ◌≤ℤ◌, ◌<ℤ◌}
use Rattle.std.proofs.lemmas.Int.{ints, by_lt_z}
use Rattle.shape_terms.specs.Points.{Point, coordinate}
use Rattle.shape_terms.specs.Vectors.{dot, difference}
use Rattle.shape_terms.specs.Naive.{Naive, IsProper}
use Rattle.shape_terms.specs.Refutations.{point_at}
use Rattle.shape_terms.specs.Turns.{other_axis}
use Rattle.shape_terms.proofs.Linear.{dot-difference}
use Rattle.shape_line.specs.Segments.{Seg, rest, IsTaken, IsSegment}
use Rattle.shape_line.specs.Frames.{IsSense, along, IsRunOf, place_from, StandsAt}
use Rattle.shape_terms.proofs.Products.{rings}
use Rattle.shape_line.proofs.Frames.{which, folded, stands}
use Rattle.shape_line.proofs.Growing.{bezout, u_taken, k_taken, l_taken, v_taken}
use Rattle.shape_line.proofs.Outcomes.{run_of_segment, segment_straight, naive_holds}
use Rattle.shape_refute.specs.Terms.{flat_point, naive_of}
use Rattle.shape_line.specs.declared.segment.Segment.{Segment}
use Rattle.shape_line.specs.SegmentTerms.{seg_of, points_of}
use Rattle.shape_terms.specs.Least.{Pairs, Meets, ShowsLeast, IsLeastLine}
use Rattle.shape_terms.proofs.Farey.{least}
use Rattle.shape_terms.proofs.LeastLines.{value_on, shows_least}

-- what a pair of points asks, in the frame
asks : (c b x y z w v p q : ℤ) → v ≡ q -ℤ p → p ≡ rest c b x y → q ≡ rest c b z w → v <ℤ b → (c *ℤ (z -ℤ x)) <ℤ (b *ℤ ((w -ℤ y) +ℤ pos 1))
asks c b x y z w v p q e f g h = omega (arith, ints, rings, e, f, g, h)

mirrored : (c d lx ly vx vy : ℤ) → (c *ℤ (lx -ℤ vx)) <ℤ (d *ℤ ((ly -ℤ vy) +ℤ pos 1)) → (d *ℤ ((vy -ℤ ly) -ℤ pos 1)) <ℤ (c *ℤ (vx -ℤ lx))
mirrored c d lx ly vx vy h = omega (arith, ints, rings, h)

bezout_back : (a b mu vx vy lx ly : ℤ) → rest a b vx vy ≡ mu → rest a b lx ly ≡ mu +ℤ b -ℤ pos 1 → a *ℤ (vx -ℤ lx) ≡ b *ℤ ((vy -ℤ ly) -ℤ pos 1) +ℤ pos 1
bezout_back a b mu vx vy lx ly h k = omega (arith, ints, rings, h, k)

-- the pairs of the leaning points
abbrev pub pairs_in : Seg → Pairs
pairs_in seg = record { low1 = place_from seg.x0 seg.ux; high1 = place_from seg.x0 seg.kx; low2 = place_from seg.x0 seg.vx; high2 = place_from seg.x0 seg.lx }

module _ (t : ℕ) (s : ℤ) (l : t < 2) (sense : IsSense s) (seg : Seg) (is : IsSegment seg) (run : List Point) (h : IsRunOf t s seg run) where
  abbrev Stands : ℤ → ℤ → Type 0
  Stands x y = StandsAt t s seg.x0 run x y

  at : (x y : ℤ) → IsTaken seg x y → Stands x y
  at = stands t s l sense seg run is.b_pos h

  -- the value of a line at a point of the segment
  value_at : (n : Naive) (x y : ℤ) → Stands x y → dot n.a (point_at run (place_from seg.x0 x)) ≡ rest (s *ℤ coordinate n.a (other_axis t)) (coordinate n.a t) x
      y
  value_at n x y k =
      let p = point_at run (place_from seg.x0 x) in
      value_on t n.a p l (h.flat (place_from seg.x0 x) k.inside)
      ∙ (sym (folded s (coordinate n.a (other_axis t)) (coordinate p (other_axis t)) (coordinate n.a t) (coordinate p t) (which s sense))
      ∙ (λ i. rest (s *ℤ coordinate n.a (other_axis t)) (coordinate n.a t) (k.far i) (k.high i)))

  meets_in : (n : Naive) (x y z w : ℤ) → Stands x y → Stands z w → Meets t run n (place_from seg.x0 x) (place_from seg.x0 z)
      → ((s *ℤ coordinate n.a (other_axis t)) *ℤ (z -ℤ x)) <ℤ (coordinate n.a t *ℤ ((w -ℤ y) +ℤ pos 1))
  meets_in n x y z w j k m =
      let p = point_at run (place_from seg.x0 x) in
      let q = point_at run (place_from seg.x0 z) in
      asks (s *ℤ coordinate n.a (other_axis t)) (coordinate n.a t) x y z w (dot n.a (difference q p)) (dot n.a p) (dot n.a q) (dot-difference n.a q p)
      (value_at n x y j) (value_at n z w k) m

  -- no proper line that meets both pairs has a smaller main coefficient
  pub no_less : (n : Naive) → IsProper t n → Meets t run n (place_from seg.x0 seg.ux) (place_from seg.x0 seg.kx)
      → Meets t run n (place_from seg.x0 seg.vx) (place_from seg.x0 seg.lx) → seg.b ≤ℤ coordinate n.a t
  no_less n proper m1 m2 =
      let u_k = is.u_k in
      let l_v = is.l_v in
      least ((seg.ky -ℤ seg.uy) +ℤ pos 1) (seg.kx -ℤ seg.ux) ((seg.vy -ℤ seg.ly) -ℤ pos 1) (seg.vx -ℤ seg.lx) seg.a seg.b (s *ℤ coordinate n.a (other_axis t))
      (coordinate n.a t)
      is.b_pos (omega (arith, ints, u_k)) (omega (arith, ints, l_v))
      (sym (bezout seg.a seg.b seg.mu seg.ux seg.uy seg.kx seg.ky is.u_is is.k_is)) (bezout_back seg.a seg.b seg.mu seg.vx seg.vy seg.lx seg.ly is.v_is is.l_is)
      (meets_in n seg.ux seg.uy seg.kx seg.ky (at _ _ (u_taken seg is)) (at _ _ (k_taken seg is)) m1)
      (mirrored (s *ℤ coordinate n.a (other_axis t)) (coordinate n.a t) seg.lx seg.ly seg.vx seg.vy
      (meets_in n seg.vx seg.vy seg.lx seg.ly (at _ _ (v_taken seg is)) (at _ _ (l_taken seg is)) m2))

  -- so the leaning points show the line to be least
  pub segment_shows : ShowsLeast t run seg.b (pairs_in seg)
  segment_shows = record {
    first_low = (at _ _ (u_taken seg is)).inside;
    first_high = (at _ _ (k_taken seg is)).inside;
    second_low = (at _ _ (v_taken seg is)).inside;
    second_high = (at _ _ (l_taken seg is)).inside;
    none = λ n proper less m1 m2. (let k = no_less n proper m1 m2 in absurd (omega (arith, ints, k, less)));
  }

-- one point alone
pub one_shows : (t : ℕ) (run : List Point) (p : Pairs) → 1 ≤ length run → p.low1 ≡ 0 → p.high1 ≡ 0 → p.low2 ≡ 0 → p.high2 ≡ 0 → (b : ℤ) → b ≡ pos 1
    → ShowsLeast t run b p
one_shows t run p some e1 e2 e3 e4 b one = record {
  first_low = omega arith;
  first_high = omega arith;
  second_low = omega arith;
  second_high = omega arith;
  none = λ n proper less m1 m2. (let k = proper.main in absurd (omega (arith, ints, k, less, one)));
}

-- ---- of the program's segments

-- the places of the leaning points, or 0 where there is one point alone
pub segment_bounds : (s : Segment) → (along s.axis s.sense (flat_point s.last) ≡ along s.axis s.sense (flat_point s.first) → ⊥) → (p : Pairs)
    → p.low1 ≡ place_from (seg_of s).x0 (seg_of s).ux → p.high1 ≡ place_from (seg_of s).x0 (seg_of s).kx → p.low2 ≡ place_from (seg_of s).x0 (seg_of s).vx
    → p.high2 ≡ place_from (seg_of s).x0 (seg_of s).lx
    → ShowsLeast s.axis (points_of s) (seg_of s).b p
segment_bounds s n p e1 e2 e3 e4 =
    let m : along s.axis s.sense (flat_point s.first) <ℤ along s.axis s.sense (flat_point s.last) = by_lt_z (along s.axis s.sense (flat_point s.first))
    (along s.axis s.sense (flat_point s.last)) (λ l. l) (λ l. absurd (let o = s.grown.order in n (omega (arith, ints, o, l)))) in
    subst (ShowsLeast s.axis (points_of s) (seg_of s).b) (λ i. record { low1 = sym e1 i; high1 = sym e2 i; low2 = sym e3 i; high2 = sym e4 i })
    (segment_shows s.axis s.sense s.grown.axis s.grown.sense (seg_of s) (s.grown.more m) (points_of s) (run_of_segment s))

pub segment_one : (s : Segment) → along s.axis s.sense (flat_point s.last) ≡ along s.axis s.sense (flat_point s.first)
    → ShowsLeast s.axis (points_of s) (seg_of s).b (record { low1 = 0; high1 = 0; low2 = 0; high2 = 0 })
segment_one s e = one_shows s.axis (points_of s) (record { low1 = 0; high1 = 0; low2 = 0; high2 = 0 }) (let h = (segment_straight s).some in omega arith) refl
    refl refl refl (seg_of s).b (s.grown.one e).b

-- the line of a segment is least
pub segment_least : (s : Segment) → IsLeastLine s.axis (points_of s) (naive_of 2 s.line)
segment_least s = by_lt_z (along s.axis s.sense (flat_point s.first)) (along s.axis s.sense (flat_point s.last))
    (λ (l : along s.axis s.sense (flat_point s.first) <ℤ along s.axis s.sense (flat_point s.last)).
    by (pairs_in (seg_of s)) (segment_shows s.axis s.sense s.grown.axis s.grown.sense (seg_of s) (s.grown.more l) (points_of s) (run_of_segment s)))
    (λ (l : along s.axis s.sense (flat_point s.last) ≤ℤ along s.axis s.sense (flat_point s.first)). by (record { low1 = 0; high1 = 0; low2 = 0; high2 = 0 })
    (segment_one s (same _ _ l s.grown.order)))
  where
    same : (x y : ℤ) → y ≤ℤ x → x ≤ℤ y → y ≡ x
    same x y h k = omega (arith, ints, h, k)

    by : (p : Pairs) → ShowsLeast s.axis (points_of s) (seg_of s).b p → IsLeastLine s.axis (points_of s) (naive_of 2 s.line)
    by p k = shows_least s.axis (points_of s) (naive_of 2 s.line) p (naive_holds s) k

-- pairs that show it show each least line of the run
pub same_least : (t : ℕ) (run : List Point) (n m : Naive) (p : Pairs) → IsLeastLine t run n → IsLeastLine t run m → ShowsLeast t run (coordinate n.a t) p
    → ShowsLeast t run (coordinate m.a t) p
same_least t run n m p h k s =
    let a = h.least m k.line in
    let b = k.least n h.line in
    subst (λ (z : ℤ). ShowsLeast t run z p) (equal _ _ a b) s
  where
    equal : (x y : ℤ) → x ≤ℤ y → y ≤ℤ x → x ≡ y
    equal x y a b = omega (arith, ints, a, b)
