-- The narrowest side of a hull gives the least width of its set: over all directions.
-- Each direction has a vertex that lies farthest along it, and one that lies least far; what follows for steps stands in `Narrowest`.
use Rattle.std.proofs.Common.{◌≡◌, ◌⊎◌, inl, inr, ℕ, zero, suc, ◌+◌, ◌-◌, ◌<◌, ◌≤◌, List, length, ap, refl, sym, subst, ◌∙◌, arith}
use Rattle.std.proofs.Math.IntN.{ℤ, pos, ◌+ℤ◌, ◌-ℤ◌, ◌*ℤ◌, neg_ℤ}
use lib.Signed.{◌<ℤ◌, ◌≤ℤ◌}
use Rattle.std.proofs.lemmas.Int.{ints, by_lt_z}
use Rattle.shape_terms.proofs.Products.{rings}
use Rattle.shape_terms.proofs.Triples.{rings3}
use Rattle.shape_terms.proofs.Order.{mul-nonneg, mul-le_ℤ, cancel-le_ℤ}
use Rattle.measure_terms.specs.Hulls.{Corner, IsHull, end, next, turn, vertex}
use Rattle.measure_terms.specs.Polygons.{squared_length}
use Rattle.measure_terms.specs.Widths.{HaveLengths, IsLeastSide, IsLeastWidth, IsNone, IsOfSide, IsReach, IsWidth, Width, across_x, across_y, along}
use Rattle.measure_terms.proofs.Turns.{det, swap, toward}
use Rattle.measure_terms.proofs.Turns as Turns
use Rattle.measure_terms.proofs.Hulled.{hull_lengths}
use Rattle.measure_terms.proofs.Across.{at_least, at_most, corner_greatest, next_below, previous, step_along, turn_along, width_across}
use Rattle.measure_terms.proofs.Narrowest.{dot, least_across_to, least_across_from, no_direction, shorter, shorter', some_square}

-- ---- the farthest place

top : (f : ℕ → ℤ) (n : ℕ) → 1 ≤ n → (k : ℕ) × (k < n) × ((j : ℕ) → j < n → f j ≤ℤ f k)
top f zero l = absurd (omega (arith, l))
top f (suc zero) l = (0, omega arith, λ j m. (let e : 0 ≡ j = omega (arith, m) in subst (λ i. f i ≤ℤ f 0) e (no_more (f 0))))
  where
    no_more : (z : ℤ) → z ≤ℤ z
    no_more z = omega (arith, ints)
top f (suc (suc n)) l =
    let r = top f (suc n) (omega arith) in
    by_lt_z (f r.0) (f (suc n))
    (λ (m : f r.0 <ℤ f (suc n)). (
      suc n,
      omega arith,
      λ j g. elim (split j n g) [
        | inl a ↦ less (f j) (f r.0) (f (suc n)) (r.2 j a) m
        | inr e ↦ subst (λ i. f i ≤ℤ f (suc n)) (sym e) (no_more (f (suc n)))
      ],
    ))
    (λ (m : f (suc n) ≤ℤ f r.0). (
      r.0,
      (let w = r.1 in omega (arith, w)),
      λ j g. elim (split j n g) [
        | inl a ↦ r.2 j a
        | inr e ↦ subst (λ i. f i ≤ℤ f r.0) (sym e) m
      ],
    ))
  where
    no_more : (z : ℤ) → z ≤ℤ z
    no_more z = omega (arith, ints)

    less : (x y z : ℤ) → x ≤ℤ y → y <ℤ z → x ≤ℤ z
    less x y z a b = omega (arith, ints, a, b)

    split : (j m : ℕ) → j < suc (suc m) → (j < suc m) ⊎ (j ≡ suc m)
    split j m g = grind arith

-- ---- both ends of a direction

-- of the vertices the one with the place k lies farthest along a direction, and the one with the place m least far
record AreEnds (h : List Corner) (a b : ℤ) (k m : ℕ) : Type 0 where
  pub most : k < length h
  pub least : m < length h
  pub up : (j : ℕ) → j < length h → along a b (vertex h j) ≤ℤ along a b (vertex h k)
  pub down : (j : ℕ) → j < length h → along a b (vertex h m) ≤ℤ along a b (vertex h j)

against : (a b x y : ℤ) → neg_ℤ a *ℤ x +ℤ neg_ℤ b *ℤ y ≡ neg_ℤ (a *ℤ x +ℤ b *ℤ y)
against a b x y = omega (arith, ints, rings)

negated : (x y u v : ℤ) → u ≡ neg_ℤ x → v ≡ neg_ℤ y → x ≤ℤ y → v ≤ℤ u
negated x y u v e f l = omega (arith, ints, e, f, l)

abbrev opposite : (h : List Corner) (a b : ℤ) (k m : ℕ) → AreEnds h a b k m → AreEnds h (neg_ℤ a) (neg_ℤ b) m k
opposite h a b k m e =
    let value = λ (j : ℕ). against a b (vertex h j).x (vertex h j).y in
    let at = λ (j : ℕ). along a b (vertex h j) in
    let at' = λ (j : ℕ). along (neg_ℤ a) (neg_ℤ b) (vertex h j) in
    record {
      most = e.least;
      least = e.most;
      up = λ j l. negated (at m) (at j) (at' m) (at' j) (value m) (value j) (e.down j l);
      down = λ j l. negated (at j) (at k) (at' j) (at' k) (value j) (value k) (e.up j l);
    }

-- a width across a side that is no more than q by the length of a direction
record IsNoWider (h : List Corner) (a b q : ℤ) : Type 0 where
  pub width : Width
  pub is : IsOfSide h width
  pub less : ((width.across *ℤ width.across) *ℤ (a *ℤ a +ℤ b *ℤ b)) ≤ℤ ((q *ℤ q) *ℤ width.length)

across_step : (ex ey zx zy : ℤ) → neg_ℤ ey *ℤ zx +ℤ ex *ℤ zy ≡ det ex ey zx zy
across_step ex ey zx zy = omega (arith, ints, rings)

lower : (x y d : ℤ) → y -ℤ x ≡ d → pos 0 ≤ℤ d → x ≤ℤ y
lower x y d e l = omega (arith, ints, e, l)

upper : (x y d : ℤ) → x -ℤ y ≡ d → d ≤ℤ pos 0 → x ≤ℤ y
upper x y d e l = omega (arith, ints, e, l)

compare : (x y z d e : ℤ) → x -ℤ z ≡ d → y -ℤ z ≡ e → x ≤ℤ y → d ≤ℤ e
compare x y z d e f g l = omega (arith, ints, f, g, l)

module _ (S : Corner → Type 0) (h : List Corner) (is : IsHull S h) (many : 3 ≤ length h) where
  -- the vertex m lies farthest from the side i where neither vertex beside it lies farther
  reaches : (i m j : ℕ) → i < length h → m < length h → j < length h → next (length h) j ≡ m
      → pos 0 ≤ℤ det ((end h i).x -ℤ (vertex h i).x) ((end h i).y -ℤ (vertex h i).y) ((vertex h m).x -ℤ (vertex h j).x) ((vertex h m).y -ℤ (vertex h j).y)
      → det ((end h i).x -ℤ (vertex h i).x) ((end h i).y -ℤ (vertex h i).y) ((end h m).x -ℤ (vertex h m).x) ((end h m).y -ℤ (vertex h m).y) ≤ℤ pos 0
      → IsReach h i (length h) m
  reaches i m j l o g e before behind =
      let n = length h in
      let u = vertex h i in
      let v = end h i in
      let a = neg_ℤ (v.y -ℤ u.y) in
      let b = v.x -ℤ u.x in
      let t = vertex h m in
      let p = vertex h j in
      let q = end h m in
      let value = λ (c : Corner). turn_along u.x u.y v.x v.y c.x c.y in
      let to = sym (step_along a b p t) ∙ across_step (v.x -ℤ u.x) (v.y -ℤ u.y) (t.x -ℤ p.x) (t.y -ℤ p.y) in
      let from = sym (step_along a b t q) ∙ across_step (v.x -ℤ u.x) (v.y -ℤ u.y) (q.x -ℤ t.x) (q.y -ℤ t.y) in
      let d = subst (λ x. pos 0 <ℤ turn p (vertex h x) (vertex h (next n x))) e (is.turns j g many) in
      record {
        within = o;
        most = λ x w.
            let s = vertex h x in
            let c = subst (λ y. pos 0 ≤ℤ turn p (vertex h y) s) e (is.left j s g (is.of x w)) in
            let f = corner_greatest a b p t q s d c (is.left m s o (is.of x w)) (lower (along a b p) (along a b t) _ to before)
            (upper (along a b q) (along a b t) _ from behind) in
            compare (along a b s) (along a b t) (along a b u) (turn u v s) (turn u v t) (value s) (value t) f;
      }

  width_at : (i m : ℕ) → i < length h → IsReach h i (length h) m → (w : Width) × IsOfSide h w × (w.across ≡ turn (vertex h i) (end h i) (vertex h m))
      × (w.length ≡ squared_length (vertex h i) (end h i))
  width_at i m l r = (
    record { side = i; across = turn (vertex h i) (end h i) (vertex h m); length = squared_length (vertex h i) (end h i) },
    record { side = l; squared = refl; far = m; reach = r; across = refl },
    refl,
    refl,
  )

  module _ (a b : ℤ) (k m : ℕ) (ends : AreEnds h a b k m) (some : IsNone a b → ⊥) where
    abbrev p : Corner
    p = vertex h k

    abbrev q : Corner
    q = vertex h m

    abbrev before : ℕ
    before = (previous (length h) k ends.most).0

    abbrev before' : ℕ
    before' = (previous (length h) m ends.least).0

    abbrev u : Corner
    u = vertex h before

    abbrev u' : Corner
    u' = vertex h before'

    abbrev v : Corner
    v = end h k

    abbrev v' : Corner
    v' = end h m

    within : before < length h
    within = (previous (length h) k ends.most).1

    within' : before' < length h
    within' = (previous (length h) m ends.least).1

    goes : next (length h) before ≡ k
    goes = (previous (length h) k ends.most).2

    goes' : next (length h) before' ≡ m
    goes' = (previous (length h) m ends.least).2

    bend : pos 0 <ℤ det (p.x -ℤ u.x) (p.y -ℤ u.y) (v.x -ℤ p.x) (v.y -ℤ p.y)
    bend = subst (λ z. pos 0 <ℤ z) (sym (Turns.along u p v))
        (subst (λ x. pos 0 <ℤ turn u (vertex h x) (vertex h (next (length h) x))) goes (is.turns before within many))

    bend' : pos 0 <ℤ det (q.x -ℤ u'.x) (q.y -ℤ u'.y) (v'.x -ℤ q.x) (v'.y -ℤ q.y)
    bend' = subst (λ z. pos 0 <ℤ z) (sym (Turns.along u' q v'))
        (subst (λ x. pos 0 <ℤ turn u' (vertex h x) (vertex h (next (length h) x))) goes' (is.turns before' within' many))

    to : pos 0 ≤ℤ dot a b (p.x -ℤ u.x) (p.y -ℤ u.y)
    to = at_least a b u p (ends.up before within)

    from : dot a b (v.x -ℤ p.x) (v.y -ℤ p.y) ≤ℤ pos 0
    from = at_most a b p v (ends.up (next (length h) k) (next_below (length h) k ends.most))

    to' : dot a b (q.x -ℤ u'.x) (q.y -ℤ u'.y) ≤ℤ pos 0
    to' = at_most a b u' q (ends.down before' within')

    from' : pos 0 ≤ℤ dot a b (v'.x -ℤ q.x) (v'.y -ℤ q.y)
    from' = at_least a b q v' (ends.down (next (length h) m) (next_below (length h) m ends.least))

    -- the way from one end to the other leads on
    apart : pos 0 <ℤ dot a b (p.x -ℤ q.x) (p.y -ℤ q.y)
    apart =
        let w = step_along a b q p in
        let e = step_along a b u p in
        let f = step_along a b p v in
        let g = ends.down before within in
        let i = ends.down (next (length h) k) (next_below (length h) k ends.most) in
        leads_on (dot a b (p.x -ℤ q.x) (p.y -ℤ q.y)) (dot a b (p.x -ℤ u.x) (p.y -ℤ u.y)) (dot a b (v.x -ℤ p.x) (v.y -ℤ p.y)) (along a b p) (along a b q)
        (along a b u) (along a b v) w e f g i to from
        (λ c d. some (no_direction a b (p.x -ℤ u.x) (p.y -ℤ u.y) (v.x -ℤ p.x) (v.y -ℤ p.y) c d bend))
      where
        leads_on : (w e f x y z t : ℤ) → w ≡ x -ℤ y → e ≡ x -ℤ z → f ≡ t -ℤ x → y ≤ℤ z → y ≤ℤ t → pos 0 ≤ℤ e → f ≤ℤ pos 0 → (e ≡ pos 0 → f ≡ pos 0 → ⊥)
            → pos 0 <ℤ w
        leads_on w e f x y z t c d g i j o r never =
            by_lt_z (pos 0) w
            (λ (l : pos 0 <ℤ w). l)
            (λ (l : w ≤ℤ pos 0). absurd (never (omega (arith, ints, c, d, g, i, j, o, r, l)) (omega (arith, ints, c, d, g, i, j, o, r, l))))

    abbrev x : ℤ
    x = p.x -ℤ q.x

    abbrev y : ℤ
    y = p.y -ℤ q.y

    left_turn : (o : Corner) (c d : Corner) → det (d.x -ℤ c.x) (d.y -ℤ c.y) (d.x -ℤ o.x) (d.y -ℤ o.y) ≡ neg_ℤ (turn c d o)
    left_turn o c d = toward c d o

    -- across the side that leads to the one end, where the direction turns left to the way between them
    across_to : pos 0 ≤ℤ det a b x y → pos 0 ≤ℤ det (p.x -ℤ u.x) (p.y -ℤ u.y) (q.x -ℤ u'.x) (q.y -ℤ u'.y) → IsNoWider h a b (dot a b x y)
    across_to turns side =
        let low = least_across_to a b (p.x -ℤ u.x) (p.y -ℤ u.y) (v.x -ℤ p.x) (v.y -ℤ p.y) (q.x -ℤ u'.x) (q.y -ℤ u'.y) (v'.x -ℤ q.x) (v'.y -ℤ q.y) some to from
        to' from' bend bend' side in
        let r = reaches before m before' within ends.least within' goes'
        (subst (λ i. pos 0 ≤ℤ det ((vertex h i).x -ℤ u.x) ((vertex h i).y -ℤ u.y) (q.x -ℤ u'.x) (q.y -ℤ u'.y)) (sym goes) side)
        (subst (λ i. det ((vertex h i).x -ℤ u.x) ((vertex h i).y -ℤ u.y) (v'.x -ℤ q.x) (v'.y -ℤ q.y) ≤ℤ pos 0) (sym goes) low) in
        let w = width_at before m within r in
        let left = subst (λ i. pos 0 ≤ℤ turn u (vertex h i) q) goes (is.left before q within (is.of m ends.least)) in
        let across = w.2 ∙ ap (λ i. turn u (vertex h i) q) goes in
        let long = w.3 ∙ ap (λ i. squared_length u (vertex h i)) goes in
        let k' = shorter a b (p.x -ℤ u.x) (p.y -ℤ u.y) x y (turn u p q) (as_dot (turn u p q) (p.x -ℤ u.x) (p.y -ℤ u.y) x y (toward u p q)) left turns to
        (some_square a b x y apart) in
        record {
          width = w.0;
          is = w.1;
          less = subst (λ z. ((z *ℤ z) *ℤ (a *ℤ a +ℤ b *ℤ b)) ≤ℤ ((dot a b x y *ℤ dot a b x y) *ℤ w.0.length)) (sym across)
              (subst (λ z. ((turn u p q *ℤ turn u p q) *ℤ (a *ℤ a +ℤ b *ℤ b)) ≤ℤ ((dot a b x y *ℤ dot a b x y) *ℤ z)) (sym long) k');
        }
      where
        as_dot : (z ex ey c d : ℤ) → det ex ey c d ≡ neg_ℤ z → z ≡ dot ey (neg_ℤ ex) c d
        as_dot z ex ey c d e = omega (arith, ints, rings, e)

    -- across the side that leads from the one end, where the direction turns right
    across_from : det a b x y ≤ℤ pos 0 → det (v.x -ℤ p.x) (v.y -ℤ p.y) (v'.x -ℤ q.x) (v'.y -ℤ q.y) ≤ℤ pos 0 → IsNoWider h a b (dot a b x y)
    across_from turns side =
        let high = least_across_from a b (p.x -ℤ u.x) (p.y -ℤ u.y) (v.x -ℤ p.x) (v.y -ℤ p.y) (q.x -ℤ u'.x) (q.y -ℤ u'.y) (v'.x -ℤ q.x) (v'.y -ℤ q.y) some to
        from to' from' bend bend' side in
        let r = reaches k m before' ends.most ends.least within' goes' high side in
        let w = width_at k m ends.most r in
        let left = is.left k q ends.most (is.of m ends.least) in
        let k' = shorter' a b (v.x -ℤ p.x) (v.y -ℤ p.y) x y (turn p v q) (as_dot p v q) left turns from (some_square a b x y apart) in
        record {
          width = w.0;
          is = w.1;
          less = subst (λ z. ((z *ℤ z) *ℤ (a *ℤ a +ℤ b *ℤ b)) ≤ℤ ((dot a b x y *ℤ dot a b x y) *ℤ w.0.length)) (sym w.2)
              (subst (λ z. ((turn p v q *ℤ turn p v q) *ℤ (a *ℤ a +ℤ b *ℤ b)) ≤ℤ ((dot a b x y *ℤ dot a b x y) *ℤ z)) (sym w.3) k');
        }
      where
        plain : (ex ey c d i j : ℤ) → i ≡ neg_ℤ c → j ≡ neg_ℤ d → det ex ey i j ≡ dot ey (neg_ℤ ex) c d
        plain ex ey c d i j e f = let g = ap (λ z. ex *ℤ z) f in let o = ap (λ z. ey *ℤ z) e in omega (arith, ints, rings, g, o)

        as_dot : (c d o : Corner) → turn c d o ≡ dot (d.y -ℤ c.y) (neg_ℤ (d.x -ℤ c.x)) (c.x -ℤ o.x) (c.y -ℤ o.y)
        as_dot c d o = plain (d.x -ℤ c.x) (d.y -ℤ c.y) (c.x -ℤ o.x) (c.y -ℤ o.y) (o.x -ℤ c.x) (o.y -ℤ c.y) (omega (arith, ints)) (omega (arith, ints))

  -- ---- either way

  against_dot : (a b x y x' y' : ℤ) → x' ≡ neg_ℤ x → y' ≡ neg_ℤ y → dot (neg_ℤ a) (neg_ℤ b) x' y' ≡ dot a b x y
  against_dot a b x y x' y' e f = (λ i. dot (neg_ℤ a) (neg_ℤ b) (e i) (f i)) ∙ plain a b x y
    where
      plain : (c d z w : ℤ) → dot (neg_ℤ c) (neg_ℤ d) (neg_ℤ z) (neg_ℤ w) ≡ dot c d z w
      plain c d z w = omega (arith, ints, rings)

  against_det : (a b x y x' y' : ℤ) → x' ≡ neg_ℤ x → y' ≡ neg_ℤ y → det (neg_ℤ a) (neg_ℤ b) x' y' ≡ det a b x y
  against_det a b x y x' y' e f = (λ i. det (neg_ℤ a) (neg_ℤ b) (e i) (f i)) ∙ Turns.turned a b x y

  step_back : (x z : ℤ) → z -ℤ x ≡ neg_ℤ (x -ℤ z)
  step_back x z = omega (arith, ints)

  none_against : (a b : ℤ) → (IsNone a b → ⊥) → IsNone (neg_ℤ a) (neg_ℤ b) → ⊥
  none_against a b some e = (let f = e.0 in let g = e.1 in some (omega (arith, ints, f), omega (arith, ints, g)))

  -- the other way round a direction is no wider
  turned_round : (a b q q' : ℤ) → q' ≡ q → IsNoWider h (neg_ℤ a) (neg_ℤ b) q' → IsNoWider h a b q
  turned_round a b q q' e w = record {
    width = w.width;
    is = w.is;
    less = subst (λ z. ((w.width.across *ℤ w.width.across) *ℤ z) ≤ℤ ((q *ℤ q) *ℤ w.width.length)) (squares a b)
        (subst (λ z. ((w.width.across *ℤ w.width.across) *ℤ (neg_ℤ a *ℤ neg_ℤ a +ℤ neg_ℤ b *ℤ neg_ℤ b)) ≤ℤ ((z *ℤ z) *ℤ w.width.length)) e w.less);
  }
    where
      squares : (c d : ℤ) → neg_ℤ c *ℤ neg_ℤ c +ℤ neg_ℤ d *ℤ neg_ℤ d ≡ c *ℤ c +ℤ d *ℤ d
      squares c d = omega (arith, ints, rings)

  left_of : (ax ay bx by : ℤ) → det ax ay bx by ≤ℤ pos 0 → pos 0 ≤ℤ det bx by ax ay
  left_of ax ay bx by l = let e = swap ax ay bx by in omega (arith, ints, e, l)

  right_of : (ax ay bx by : ℤ) → pos 0 ≤ℤ det ax ay bx by → det bx by ax ay ≤ℤ pos 0
  right_of ax ay bx by l = let e = swap ax ay bx by in omega (arith, ints, e, l)

  no_less : (z : ℤ) → pos 0 <ℤ z → pos 0 ≤ℤ z
  no_less z l = omega (arith, ints, l)

  no_more : (z : ℤ) → z <ℤ pos 0 → z ≤ℤ pos 0
  no_more z l = omega (arith, ints, l)

  some_side : (a b : ℤ) (k m : ℕ) (ends : AreEnds h a b k m) → (IsNone a b → ⊥)
      → IsNoWider h a b (dot a b ((vertex h k).x -ℤ (vertex h m).x) ((vertex h k).y -ℤ (vertex h m).y))
  some_side a b k m ends some =
      let n = length h in
      let p = vertex h k in
      let q = vertex h m in
      let i = (previous n k ends.most).0 in
      let j = (previous n m ends.least).0 in
      let ex = p.x -ℤ (vertex h i).x in
      let ey = p.y -ℤ (vertex h i).y in
      let gx = q.x -ℤ (vertex h j).x in
      let gy = q.y -ℤ (vertex h j).y in
      let fx = (end h k).x -ℤ p.x in
      let fy = (end h k).y -ℤ p.y in
      let hx = (end h m).x -ℤ q.x in
      let hy = (end h m).y -ℤ q.y in
      let x = p.x -ℤ q.x in
      let y = p.y -ℤ q.y in
      let some' = none_against a b some in
      let back = against_dot a b x y (q.x -ℤ p.x) (q.y -ℤ p.y) (step_back p.x q.x) (step_back p.y q.y) in
      let turn' = against_det a b x y (q.x -ℤ p.x) (q.y -ℤ p.y) (step_back p.x q.x) (step_back p.y q.y) in
      let reach = dot a b x y in
      by_lt_z (det a b x y) (pos 0)
      (λ (l : det a b x y <ℤ pos 0). by_lt_z (pos 0) (det fx fy hx hy)
      (λ (g : pos 0 <ℤ det fx fy hx hy). turned_round a b reach (dot (neg_ℤ a) (neg_ℤ b) (q.x -ℤ p.x) (q.y -ℤ p.y)) back
      (across_from (neg_ℤ a) (neg_ℤ b) m k (opposite h a b k m ends) some' (subst (λ z. z ≤ℤ pos 0) (sym turn') (no_more (det a b x y) l))
      (right_of fx fy hx hy (no_less (det fx fy hx hy) g))))
      (λ (g : det fx fy hx hy ≤ℤ pos 0). across_from a b k m ends some (no_more (det a b x y) l) g))
      (λ (l : pos 0 ≤ℤ det a b x y). by_lt_z (det ex ey gx gy) (pos 0)
      (λ (g : det ex ey gx gy <ℤ pos 0). turned_round a b reach (dot (neg_ℤ a) (neg_ℤ b) (q.x -ℤ p.x) (q.y -ℤ p.y)) back
      (across_to (neg_ℤ a) (neg_ℤ b) m k (opposite h a b k m ends) some' (subst (λ z. pos 0 ≤ℤ z) (sym turn') l)
      (left_of ex ey gx gy (no_more (det ex ey gx gy) g))))
      (λ (g : pos 0 ≤ℤ det ex ey gx gy). across_to a b k m ends some l g))

  some_ends : (a b : ℤ) → (k : ℕ) × (m : ℕ) × AreEnds h a b k m
  some_ends a b =
      let one = top (λ j. along a b (vertex h j)) (length h) (omega (arith, many)) in
      let other = top (λ j. neg_ℤ (along a b (vertex h j))) (length h) (omega (arith, many)) in (
        one.0,
        other.0,
        record {
          most = one.1;
          least = other.1;
          up = one.2;
          down = λ j l. down (along a b (vertex h other.0)) (along a b (vertex h j))
              (other.2 j l);
        },
      )
    where
      down : (z w : ℤ) → neg_ℤ w ≤ℤ neg_ℤ z → z ≤ℤ w
      down z w l = omega (arith, ints, l)

  square : (z : ℤ) → pos 0 ≤ℤ (z *ℤ z)
  square z =
      by_lt_z z (pos 0)
      (λ (l : z <ℤ pos 0). let m = mul-nonneg (neg_ℤ z) (neg_ℤ z) (omega (arith, ints, l)) (omega (arith, ints, l)) in omega (arith, ints, rings, m))
      (λ (l : pos 0 ≤ℤ z). mul-nonneg z z l l)

  -- fractions one after the other
  chained : (c c' l l' n q v : ℤ) → pos 0 <ℤ l' → pos 0 ≤ℤ l → pos 0 ≤ℤ n → (c *ℤ l') ≤ℤ (c' *ℤ l) → (c' *ℤ n) ≤ℤ ((q *ℤ q) *ℤ l') → pos 0 ≤ℤ q → q ≤ℤ v
      → (c *ℤ n) ≤ℤ ((v *ℤ v) *ℤ l)
  chained c c' l l' n q v some few none least less up most =
      let a = mul-le_ℤ n (c *ℤ l') (c' *ℤ l) none least in
      let b = mul-le_ℤ l (c' *ℤ n) ((q *ℤ q) *ℤ l') few less in
      let d = squares q v up most in
      let e = mul-le_ℤ (l' *ℤ l) (q *ℤ q) (v *ℤ v) (mul-nonneg l' l (no_less l' some) few) d in
      cancel-le_ℤ l' (c *ℤ n) ((v *ℤ v) *ℤ l) some (ordered c c' l l' n (q *ℤ q) (v *ℤ v) a b e)
    where
      squares : (z w : ℤ) → pos 0 ≤ℤ z → z ≤ℤ w → (z *ℤ z) ≤ℤ (w *ℤ w)
      squares z w i j =
          let g = mul-le_ℤ z z w i j in
          let o = mul-le_ℤ w z w (omega (arith, ints, i, j)) j in
          omega (arith, ints, rings, g, o)

      ordered : (z z' m m' o s t : ℤ) → (o *ℤ (z *ℤ m')) ≤ℤ (o *ℤ (z' *ℤ m)) → (m *ℤ (z' *ℤ o)) ≤ℤ (m *ℤ (s *ℤ m')) → ((m' *ℤ m) *ℤ s) ≤ℤ ((m' *ℤ m) *ℤ t)
          → (m' *ℤ (z *ℤ o)) ≤ℤ (m' *ℤ (t *ℤ m))
      ordered z z' m m' o s t g i j = omega (arith, ints, rings3, g, i, j)

  lengthy : (w : Width) → IsOfSide h w → pos 0 <ℤ w.length
  lengthy w o = subst (λ z. pos 0 <ℤ z) (sym o.squared) ((hull_lengths S h (omega (arith, many)) is).each w.side o.side)

  no_direction_less : (w : Width) → IsLeastSide h (length h) w → (a b v : ℤ) → (IsNone a b → ⊥) → IsWidth S a b v
      → ((w.across *ℤ w.across) *ℤ (a *ℤ a +ℤ b *ℤ b)) ≤ℤ ((v *ℤ v) *ℤ w.length)
  no_direction_less w least a b v some wide =
      let ends = some_ends a b in
      let k = ends.0 in
      let m = ends.1 in
      let p = vertex h k in
      let q = vertex h m in
      let s = some_side a b k m ends.2 some in
      let no_more = (least.least s.width s.is s.is.side).less in
      let reach = step_along a b q p in
      let one = wide.most q p (is.of m ends.2.least) (is.of k ends.2.most) in
      let low = ends.2.up m ends.2.least in
      chained (w.across *ℤ w.across) (s.width.across *ℤ s.width.across) w.length s.width.length (a *ℤ a +ℤ b *ℤ b) (dot a b (p.x -ℤ q.x) (p.y -ℤ q.y)) v
      (lengthy s.width s.is) (no_less w.length (lengthy w least.is)) (sum (a *ℤ a) (b *ℤ b) (square a) (square b)) no_more s.less
      (leads (dot a b (p.x -ℤ q.x) (p.y -ℤ q.y)) (along a b p) (along a b q) reach low)
      (within (dot a b (p.x -ℤ q.x) (p.y -ℤ q.y)) (along a b p) (along a b q) v reach one)
    where
      sum : (z o : ℤ) → pos 0 ≤ℤ z → pos 0 ≤ℤ o → pos 0 ≤ℤ (z +ℤ o)
      sum z o g i = omega (arith, ints, g, i)

      leads : (z x y : ℤ) → z ≡ x -ℤ y → y ≤ℤ x → pos 0 ≤ℤ z
      leads z x y e g = omega (arith, ints, e, g)

      within : (z x y t : ℤ) → z ≡ x -ℤ y → (x -ℤ y) ≤ℤ t → z ≤ℤ t
      within z x y t e g = omega (arith, ints, e, g)

  -- the width across the narrowest side is the least width of the set
  pub least_of_all : (w : Width) → IsLeastSide h (length h) w → IsLeastWidth S w.across w.length
  least_of_all w least =
      let u = vertex h w.side in
      let v = end h w.side in
      let square' = least.is.squared ∙ sym (crossed (v.x -ℤ u.x) (v.y -ℤ u.y) (u.y -ℤ v.y) (step_back v.y u.y)) in
      record {
        least = no_direction_less w least;
        a = across_x u v;
        b = across_y u v;
        some = λ e. (let l = lengthy w least.is in no_length w.length (across_x u v) (across_y u v) square' l e.0 e.1);
        squared = square';
        is = width_across S h w is many least.is;
      }
    where
      crossed : (x y z : ℤ) → z ≡ neg_ℤ y → z *ℤ z +ℤ x *ℤ x ≡ x *ℤ x +ℤ y *ℤ y
      crossed x y z e = ap (λ o. o *ℤ o +ℤ x *ℤ x) e ∙ plain x y
        where
          plain : (t o : ℤ) → neg_ℤ o *ℤ neg_ℤ o +ℤ t *ℤ t ≡ t *ℤ t +ℤ o *ℤ o
          plain t o = omega (arith, ints, rings)

      no_length : (l c d : ℤ) → l ≡ c *ℤ c +ℤ d *ℤ d → pos 0 <ℤ l → c ≡ pos 0 → d ≡ pos 0 → ⊥
      no_length l c d e g i j = absurd (let x = ap (λ z. z *ℤ c) i in let y = ap (λ z. z *ℤ d) j in omega (arith, ints, rings, e, g, x, y))
