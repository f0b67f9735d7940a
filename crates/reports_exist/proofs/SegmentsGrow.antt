-- A segment and the next point of a run: a longer segment, or a reason why the run with the point is not straight for the axis.
-- Plain values alone stand here; the arithmetic is that by which segments grow.
use Rattle.std.proofs.Common.{◌≡◌, ℕ, ◌+◌, ◌-◌, ◌*◌, ◌<◌, ◌≤◌, ◌⊎◌, inl, inr, List, [], ◌∷◌, ◌++◌, length, refl, ap, sym, subst, ◌∙◌, arith}
use Rattle.std.specs.Prelude.{ℤ, pos, ◌+ℤ◌, ◌-ℤ◌, ◌*ℤ◌, neg_ℤ, ◌≤ℤ◌, ◌<ℤ◌, nat_abs}
use Rattle.std.proofs.lemmas.Int.{ints, by_lt_z}
use Rattle.std.proofs.lemmas.List.{length-append}
use Rattle.std.proofs.Math.ListN.{get_or-append}
use Rattle.std.proofs.Math.Seq.{get_or-append_seam}
use Rattle.shape_terms.specs.Limits.{line_coordinate, line_gap, line_weight}
use Rattle.shape_terms.specs.Points.{Point, coordinate}
use Rattle.shape_terms.specs.Steps.{AreClose}
use Rattle.shape_terms.specs.Refutations.{point_at}
use Rattle.shape_terms.specs.Turns.{IsTurn}
use Rattle.shape_line.specs.Segments.{Seg, rest, IsTaken, IsSegment, IsLonger, raised, lowered, longer}
use Rattle.shape_line.specs.Frames.{IsSense, along, height, IsRunOf, place_from, StandsAt}
use Rattle.shape_line.specs.declared.clash.Crossing.{Crossing}
use Rattle.shape_line.specs.Clashes.{IsCrossing}
use Rattle.shape_line.proofs.Frames.{more, stands, runs_longer}
use Rattle.shape_line.proofs.Growing.{u_taken, k_taken, l_taken, v_taken, v_near, k_near, with_last, raises}
use Rattle.shape_line.proofs.Refusing.{lowers, clash_low, clash_high}
use Rattle.shape_line.proofs.SegmentClashes.{crosses}
use Rattle.shape_line.proofs.Reasons.{turns_last}
use Rattle.reports_exist.proofs.SmallRuns.{IsSmallPoint, IsWithin, same_or_not, product_within, height_within, along_within}

-- a segment of an axis and a sense of the other one has the points of the run, two or more
pub record IsGrownTo (t : ℕ) (run : List Point) : Type 0 where
  pub sense : ℤ
  pub is_sense : IsSense sense
  pub seg : Seg
  pub is : IsSegment seg
  pub points : IsRunOf t sense seg run

-- why a run is not straight for the axis: a turn, or two pairs whose bounds of the slope leave no room
pub data Reason (t : ℕ) (run : List Point) : Type 0 where
  Bends : (i j : ℕ) → IsTurn t run i j → Reason t run
  Crosses : (c : Crossing) → IsCrossing t run c → Reason t run

-- ---- the line stays

stays : (s : Seg) → IsSegment s → (mx my : ℤ) → mx ≡ s.x1 +ℤ pos 1 → s.mu ≤ℤ rest s.a s.b mx my → rest s.a s.b mx my <ℤ (s.mu +ℤ s.b)
    → (r : Seg) × IsLonger s mx my r
stays s is mx my next low high =
    by_lt_z s.mu (rest s.a s.b mx my)
    (λ above. by_lt_z (rest s.a s.b mx my) (s.mu +ℤ s.b -ℤ pos 1)
    (λ below. neither above below)
    (λ l. lower above (top (rest s.a s.b mx my) s.mu s.b high l)))
    (λ l. by_lt_z (rest s.a s.b mx my) (s.mu +ℤ s.b -ℤ pos 1) (λ below. upper (bottom (rest s.a s.b mx my) s.mu low l) below)
    (λ m. both (bottom (rest s.a s.b mx my) s.mu low l) (top (rest s.a s.b mx my) s.mu s.b high m)))
  where
    top : (r mu b : ℤ) → r <ℤ (mu +ℤ b) → (mu +ℤ b -ℤ pos 1) ≤ℤ r → r ≡ mu +ℤ b -ℤ pos 1
    top r mu b h k = omega (arith, ints)

    bottom : (r mu : ℤ) → mu ≤ℤ r → r ≤ℤ mu → r ≡ mu
    bottom r mu h k = omega (arith, ints)

    before : (v x1 m : ℤ) → v ≤ℤ x1 → m ≡ x1 +ℤ pos 1 → v ≤ℤ m
    before v x1 m h e = omega (arith, ints)

    same : (x : ℤ) → x ≤ℤ x
    same x = omega (arith, ints)

    none : (x b : ℤ) → pos 0 <ℤ b → (x -ℤ x) <ℤ b
    none x b h = omega (arith, ints)

    neither : s.mu <ℤ rest s.a s.b mx my → rest s.a s.b mx my <ℤ (s.mu +ℤ s.b -ℤ pos 1) → (r : Seg) × IsLonger s mx my r
    neither above below = (
      longer s mx s.vx s.vy s.kx s.ky,
      with_last s is mx my next low high s.vx s.vy s.kx s.ky is.v_is is.k_is (same s.vx)
          (before _ _ _ is.v_to next) (v_near s is mx my next low high above) (same s.kx) (before _ _ _ is.k_to next) (k_near s is mx my next low high below),
    )

    lower : s.mu <ℤ rest s.a s.b mx my → rest s.a s.b mx my ≡ s.mu +ℤ s.b -ℤ pos 1 → (r : Seg) × IsLonger s mx my r
    lower above e = (
      longer s mx s.vx s.vy mx my,
      with_last s is mx my next low high s.vx s.vy mx my is.v_is e (same s.vx) (before _ _ _ is.v_to next)
          (v_near s is mx my next low high above) (before _ _ _ is.k_to next) (same mx) (none mx s.b is.b_pos),
    )

    upper : rest s.a s.b mx my ≡ s.mu → rest s.a s.b mx my <ℤ (s.mu +ℤ s.b -ℤ pos 1) → (r : Seg) × IsLonger s mx my r
    upper e below = (
      longer s mx mx my s.kx s.ky,
      with_last s is mx my next low high mx my s.kx s.ky e is.k_is (before _ _ _ is.v_to next) (same mx)
          (none mx s.b is.b_pos) (same s.kx) (before _ _ _ is.k_to next) (k_near s is mx my next low high below),
    )

    both : rest s.a s.b mx my ≡ s.mu → rest s.a s.b mx my ≡ s.mu +ℤ s.b -ℤ pos 1 → (r : Seg) × IsLonger s mx my r
    both e f = (
      longer s mx mx my mx my,
      with_last s is mx my next low high mx my mx my e f (before _ _ _ is.v_to next) (same mx)
          (none mx s.b is.b_pos) (before _ _ _ is.k_to next) (same mx) (none mx s.b is.b_pos),
    )

-- ---- what becomes of a segment: it goes on, or the remainder of the point is too small, or too great

data Fate (s : Seg) (mx my : ℤ) : Type 0 where
  Goes : (r : Seg) → IsLonger s mx my r → Fate s mx my
  Low : rest s.a s.b mx my <ℤ (s.mu -ℤ pos 1) → Fate s mx my
  High : (s.mu +ℤ s.b) <ℤ rest s.a s.b mx my → Fate s mx my

fate : (s : Seg) → IsSegment s → (y1 mx my : ℤ) → IsTaken s s.x1 y1 → mx ≡ s.x1 +ℤ pos 1 → my ≤ℤ (y1 +ℤ pos 1) → y1 ≤ℤ (my +ℤ pos 1) → Fate s mx my
fate s is y1 mx my last next up down =
    by_lt_z (rest s.a s.b mx my) (s.mu -ℤ pos 1) (λ l. Fate.Low l)
    (λ l. by_lt_z (rest s.a s.b mx my) s.mu
    (λ m. Fate.Goes (raised s mx my) (raises s is y1 mx my last next up (just_below (rest s.a s.b mx my) s.mu l m)))
    (λ m. by_lt_z (rest s.a s.b mx my) (s.mu +ℤ s.b)
    (λ n. let r = stays s is mx my next m n in Fate.Goes r.0 r.1)
    (λ n. by_lt_z (s.mu +ℤ s.b) (rest s.a s.b mx my) (λ o. Fate.High o)
    (λ o. Fate.Goes (lowered s mx my) (lowers s is y1 mx my last next down (exactly (rest s.a s.b mx my) (s.mu +ℤ s.b) n o))))))
  where
    just_below : (r mu : ℤ) → (mu -ℤ pos 1) ≤ℤ r → r <ℤ mu → r ≡ mu -ℤ pos 1
    just_below r mu h k = omega (arith, ints)

    exactly : (r m : ℤ) → m ≤ℤ r → r ≤ℤ m → r ≡ m
    exactly r m h k = omega (arith, ints)

-- ---- two pairs of points of a small run as a crossing

-- by how much the one bound exceeds the other
excess : (ya xb xa yb xc yc xd yd : ℤ) → IsWithin (pos line_coordinate) xa → IsWithin (pos line_coordinate) ya → IsWithin (pos line_coordinate) xb
    → IsWithin (pos line_coordinate) yb → IsWithin (pos line_coordinate) xc → IsWithin (pos line_coordinate) yc → IsWithin (pos line_coordinate) xd
    → IsWithin (pos line_coordinate) yd
    → (((yb -ℤ ya) +ℤ pos 1) *ℤ (xd -ℤ xc)) ≤ℤ (((yd -ℤ yc) -ℤ pos 1) *ℤ (xb -ℤ xa))
    → (n : ℕ) × (pos n ≡ ((yd -ℤ yc) -ℤ pos 1) *ℤ (xb -ℤ xa) -ℤ ((yb -ℤ ya) +ℤ pos 1) *ℤ (xd -ℤ xc)) × (n ≤ line_weight)
excess ya xb xa yb xc yc xd yd hxa hya hxb hyb hxc hyc hxd hyd order =
    let p = product_within (pos (line_gap + 1)) ((yd -ℤ yc) -ℤ pos 1) (xb -ℤ xa) (apart yd yc hyd hyc).0 (apart xb xa hxb hxa).1 in
    let q = product_within (pos (line_gap + 1)) ((yb -ℤ ya) +ℤ pos 1) (xd -ℤ xc) (apart yb ya hyb hya).2 (apart xd xc hxd hxc).1 in
    by (((yd -ℤ yc) -ℤ pos 1) *ℤ (xb -ℤ xa)) (((yb -ℤ ya) +ℤ pos 1) *ℤ (xd -ℤ xc)) p q order
  where
    apart : (a b : ℤ) → IsWithin (pos line_coordinate) a → IsWithin (pos line_coordinate) b
        → IsWithin (pos (line_gap + 1)) ((a -ℤ b) -ℤ pos 1) × IsWithin (pos (line_gap + 1)) (a -ℤ b)
        × IsWithin (pos (line_gap + 1)) ((a -ℤ b) +ℤ pos 1)
    apart a b h k =
        let hl = h.low in
        let hh = h.high in
        let kl = k.low in
        let kh = k.high in (
          record { low = omega (arith, ints); high = omega (arith, ints) },
          record { low = omega (arith, ints); high = omega (arith, ints) },
          record
              { low = omega (arith, ints); high = omega (arith, ints) },
        )

    by : (x y : ℤ) → IsWithin (pos ((line_gap + 1) * (line_gap + 1))) x → IsWithin (pos ((line_gap + 1) * (line_gap + 1))) y → y ≤ℤ x
        → (n : ℕ) × (pos n ≡ x -ℤ y) × (n ≤ line_weight)
    by x y h k o =
        let hh = h.high in
        let kl = k.low in
        (nat_abs (x -ℤ y), omega (arith, ints), omega (arith, ints))

-- ---- one point more
module _ (t : ℕ) (l : t < 2) (run : List Point) (g : IsGrownTo t run) (p : Point)
    (small : (i : ℕ) → i < length (run ++ p ∷ []) → IsSmallPoint (point_at (run ++ p ∷ []) i)) (close : AreClose (point_at run (length run - 1)) p) where
  count : length (run ++ p ∷ []) ≡ length run + 1
  count = length-append run (p ∷ [])

  seam : point_at (run ++ p ∷ []) (length run) ≡ p
  seam = get_or-append_seam run p [] []

  small_p : IsSmallPoint p
  small_p = subst IsSmallPoint seam (small (length run) (let c = count in omega arith))

  old_at : (i : ℕ) → i < length run → point_at (run ++ p ∷ []) i ≡ point_at run i
  old_at i m = get_or-append run (p ∷ []) [] i m

  two : 2 ≤ length run
  two = by (length run) g.seg.x0 g.seg.x1 g.seg.b g.points.count g.is.b_pos g.is.b_short
    where
      by : (n : ℕ) (x0 x1 b : ℤ) → pos n ≡ x1 -ℤ x0 +ℤ pos 1 → pos 0 <ℤ b → b ≤ℤ (x1 -ℤ x0) → 2 ≤ n
      by n x0 x1 b e h k = omega (arith, ints)

  end_is : along t g.sense (point_at run (length run - 1)) ≡ g.seg.x1
  end_is = by (length run) g.seg.x0 g.seg.x1 _ g.points.count (let w = two in omega arith) (g.points.place (length run - 1) (let w = two in omega arith))
    where
      by : (n : ℕ) (x0 x1 x : ℤ) → pos n ≡ x1 -ℤ x0 +ℤ pos 1 → 1 ≤ n → x ≡ x0 +ℤ pos (n - 1) → x ≡ x1
      by n x0 x1 x e l f = omega (arith, ints)

  taken_end : IsTaken g.seg g.seg.x1 (height t (point_at run (length run - 1)))
  taken_end = subst (λ (x : ℤ). IsTaken g.seg x (height t (point_at run (length run - 1)))) end_is
      (g.points.taken (length run - 1) (let w = two in omega arith))

  heights : (height t p ≤ℤ (height t (point_at run (length run - 1)) +ℤ pos 1)) × (height t (point_at run (length run - 1)) ≤ℤ (height t p +ℤ pos 1))
  heights = by (coordinate (point_at run (length run - 1)) t) (coordinate p t) (close t)
    where
      by : (a b : ℤ) → nat_abs (a -ℤ b) ≤ 1 → (neg_ℤ b ≤ℤ (neg_ℤ a +ℤ pos 1)) × (neg_ℤ a ≤ℤ (neg_ℤ b +ℤ pos 1))
      by a b h = (omega (arith, ints), omega (arith, ints))

  pub turned : (along t g.sense p ≡ g.seg.x1 +ℤ pos 1 → ⊥) → Reason t (run ++ p ∷ [])
  turned off = Reason.Bends 0 (length run - 1) (turns_last t g.sense g.seg run p g.is_sense g.points two off)

  module _ (next : along t g.sense p ≡ g.seg.x1 +ℤ pos 1) where
    flat_all : (i : ℕ) → i < length (run ++ p ∷ []) → length (point_at (run ++ p ∷ []) i) ≡ 2
    flat_all i m = (small i m).flat

    at_end : along t g.sense p ≡ g.seg.x0 +ℤ pos (length run)
    at_end = by (length run) g.seg.x0 g.seg.x1 _ g.points.count next
      where
        by : (n : ℕ) (x0 x1 z : ℤ) → pos n ≡ x1 -ℤ x0 +ℤ pos 1 → z ≡ x1 +ℤ pos 1 → z ≡ x0 +ℤ pos n
        by n x0 x1 z e f = omega (arith, ints)

    place_all : (i : ℕ) → i < length (run ++ p ∷ []) → along t g.sense (point_at (run ++ p ∷ []) i) ≡ g.seg.x0 +ℤ pos i
    place_all = more (λ i q. along t g.sense q ≡ g.seg.x0 +ℤ pos i) run p g.points.place at_end

    abbrev In : ℤ → ℤ → Type 0
    In x y = StandsAt t g.sense g.seg.x0 (run ++ p ∷ []) x y

    old_in : (x y : ℤ) → IsTaken g.seg x y → In x y
    old_in x y k =
        let a = stands t g.sense l g.is_sense g.seg run g.is.b_pos g.points x y k in
        let e = old_at (place_from g.seg.x0 x) a.inside in
        record { inside = (let i = a.inside in let c = count in omega arith); far = ap (along t g.sense) e ∙ a.far; high = ap (height t) e ∙ a.high }

    new_in : In (along t g.sense p) (height t p)
    new_in =
        let n : length run ≡ place_from g.seg.x0 (along t g.sense p) = by (length run) g.seg.x0 _ at_end in
        let e : point_at (run ++ p ∷ []) (place_from g.seg.x0 (along t g.sense p)) ≡ p = ap (point_at (run ++ p ∷ [])) (sym n) ∙ seam in
        record { inside = (let c = count in omega arith); far = ap (along t g.sense) e; high = ap (height t) e }
      where
        by : (n : ℕ) (x0 z : ℤ) → z ≡ x0 +ℤ pos n → n ≡ nat_abs (z -ℤ x0)
        by n x0 z e = omega (arith, ints)

    within_x : (x y : ℤ) → In x y → IsWithin (pos line_coordinate) x
    within_x x y k = subst (IsWithin (pos line_coordinate)) k.far
        (along_within t l (point_at (run ++ p ∷ []) (place_from g.seg.x0 x)) (small _ k.inside) g.sense g.is_sense)

    within_y : (x y : ℤ) → In x y → IsWithin (pos line_coordinate) y
    within_y x y k = subst (IsWithin (pos line_coordinate)) k.high (height_within t l (point_at (run ++ p ∷ []) (place_from g.seg.x0 x)) (small _ k.inside))

    few : length (run ++ p ∷ []) ≤ line_gap + 2
    few =
        let c = count in
        let a = along_within t l (point_at (run ++ p ∷ []) 0) (small 0 (omega arith)) g.sense g.is_sense in
        let b = along_within t l p small_p g.sense g.is_sense in
        let z = subst (IsWithin (pos line_coordinate)) (place_all 0 (omega arith)) a in
        by (length run) (length (run ++ p ∷ [])) g.seg.x0 (along t g.sense p) at_end c z b
      where
        by : (n m : ℕ) (x0 z : ℤ) → z ≡ x0 +ℤ pos n → m ≡ n + 1 → IsWithin (pos line_coordinate) (x0 +ℤ pos 0)
            → IsWithin (pos line_coordinate) z → m ≤ line_gap + 2
        by n m x0 z e f h k = let hl = h.low in let kh = k.high in omega (arith, ints)

    crossing : (xa ya xb yb xc yc xd yd : ℤ) → In xa ya → In xb yb → In xc yc → In xd yd → xa <ℤ xb → xc <ℤ xd
        → (((yb -ℤ ya) +ℤ pos 1) *ℤ (xd -ℤ xc)) ≤ℤ (((yd -ℤ yc) -ℤ pos 1) *ℤ (xb -ℤ xa)) → Reason t (run ++ p ∷ [])
    crossing xa ya xb yb xc yc xd yd a b c d lower upper order =
        let n = excess ya xb xa yb xc yc xd yd (within_x xa ya a) (within_y xa ya a) (within_x xb yb b) (within_y xb yb b) (within_x xc yc c)
        (within_y xc yc c) (within_x xd yd d) (within_y xd yd d) order in
        let k : Crossing = record {
          lower = record { first = place_from g.seg.x0 xa; last = place_from g.seg.x0 xb };
          upper = record
              { first = place_from g.seg.x0 xc; last = place_from g.seg.x0 xd };
          up = n.0;
        } in
        Reason.Crosses k (crosses t g.sense g.seg.x0 (run ++ p ∷ []) l flat_all place_all xa ya xb yb xc yc xd yd a b c d lower upper k refl refl refl
        refl n.1 n.2 few)

    before : (x y z : ℤ) → x ≤ℤ y → z ≡ y +ℤ pos 1 → x <ℤ z
    before x y z l e = omega (arith, ints)

    by_fate : Fate g.seg (along t g.sense p) (height t p) → IsGrownTo t (run ++ p ∷ []) ⊎ Reason t (run ++ p ∷ [])
    by_fate (Fate.Goes r longer) = inl (record {
      sense = g.sense;
      is_sense = g.is_sense;
      seg = r;
      is = longer.is;
      points = runs_longer t g.sense l g.is_sense g.seg r run p g.points longer
          next small_p.flat;
    })
    by_fate (Fate.Low low) =
        let s = g.seg in
        inr (crossing s.ux s.uy s.kx s.ky s.kx s.ky (along t g.sense p) (height t p) (old_in _ _ (u_taken s g.is)) (old_in _ _ (k_taken s g.is))
        (old_in _ _ (k_taken s g.is)) new_in g.is.u_k (before _ _ _ g.is.k_to next)
        (clash_low s g.is (along t g.sense p) (height t p) next low))
    by_fate (Fate.High high) =
        let s = g.seg in
        inr (crossing s.vx s.vy (along t g.sense p) (height t p) s.lx s.ly s.vx s.vy (old_in _ _ (v_taken s g.is)) new_in
        (old_in _ _ (l_taken s g.is)) (old_in _ _ (v_taken s g.is)) (before _ _ _ g.is.v_to next) g.is.l_v
        (clash_high s g.is (along t g.sense p) (height t p) next high))

    grown : IsGrownTo t (run ++ p ∷ []) ⊎ Reason t (run ++ p ∷ [])
    grown = by_fate (fate g.seg g.is (height t (point_at run (length run - 1))) (along t g.sense p) (height t p) taken_end next heights.0 heights.1)

  pub one_more : IsGrownTo t (run ++ p ∷ []) ⊎ Reason t (run ++ p ∷ [])
  one_more = elim (same_or_not (along t g.sense p) (g.seg.x1 +ℤ pos 1)) [ inl e ↦ grown e | inr n ↦ inr (turned n) ]
