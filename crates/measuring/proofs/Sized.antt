-- What a hull of corners of rows has that its sizes rest on: it is convex, short, of few corners, and no side of it is a point.
-- Lists of corners and rows alone.
use Rattle.std.proofs.Common.{◌≡◌, inl, inr, ℕ, zero, suc, ◌+◌, ◌-◌, ◌^◌, ◌<◌, ◌≤◌, List, length, nat_abs, unsigned_abs, ap, refl, sym, subst, arith}
use Rattle.std.proofs.Math.IntN.{ℤ, pos}
use lib.Signed.{◌<ℤ◌, ◌≤ℤ◌}
use Rattle.std.proofs.lemmas.Int.{ints}
use Rattle.measure_terms.specs.Hulls.{Corner, IsHull, vertex}
use Rattle.measure_terms.specs.Widths.{HaveLengths, IsOfSide, Width}
use Rattle.measure_terms.proofs.Hulled.{hull_of_two}
use Rattle.measuring.specs.declared.object_row.Row.{Row}
use Rattle.measuring.specs.declared.line.Line.{Line}
use Rattle.measuring.specs.Rows.{row_at, AreRows}
use Rattle.measuring.specs.Corners.{IsOf, IsConvex, IsShort, AreShort, AreEndsOf, IsCornerOfRows}
use Rattle.measuring.specs.Lines.{below, IsShortLine}

-- a hull is that of its own corners
pub convex : (S : Corner → Type 0) (h : List Corner) → IsHull S h → IsConvex h
convex S h is =
    let among = λ (p : Corner) (a : IsOf h p). subst S a.is (is.of a.place a.within) in
    record {
      of = λ i l. record { place = i; within = l; is = refl };
      left = λ i p l a. is.left i p l (among p a);
      turns = is.turns;
      far = is.far;
      once = is.once;
      first = λ p a. is.first p (among p a);
      last = λ p a. is.last p (among p a);
    }

pub short_hull : (ps h : List Corner) → IsHull (IsOf ps) h → AreShort ps → AreShort h
short_hull ps h is short = record { each = λ k l. (let a = is.of k l in subst IsShort a.is (short.each a.place a.within)) }

-- ---- rows

corner_in : (rows : List Row) → 1 ≤ length rows → IsCornerOfRows rows (length rows) (record { x = pos (row_at rows 0).left; y = pos (row_at rows 0).y })
corner_in rows some = record { place = 0; within = omega (arith, some); corner = record { row = inl refl; column = inl refl } }

corner_below : (rows : List Row) → 1 ≤ length rows
    → IsCornerOfRows rows (length rows) (record { x = pos (row_at rows 0).left; y = pos ((row_at rows 0).y + 1) })
corner_below rows some = record { place = 0; within = omega (arith, some); corner = record { row = inr refl; column = inl refl } }

pub some_bounds : (rows : List Row) (ps : List Corner) → 1 ≤ length rows → AreEndsOf (IsCornerOfRows rows (length rows)) (IsOf ps) → 1 ≤ length ps
some_bounds rows ps some ends = (let b = (ends.hold _ (corner_in rows some)).left_in.within in omega (arith, b))

apart : (p q : Corner) (n : ℕ) → p.y ≡ pos n → q.y ≡ pos (n + 1) → p ≡ q → ⊥
apart p q n a b e = (let f = ap (λ (c : Corner). c.y) e in absurd (omega (arith, ints, a, b, f)))

pub many_corners : (rows : List Row) (h : List Corner) → 1 ≤ length rows → IsHull (IsCornerOfRows rows (length rows)) h → 2 ≤ length h
many_corners rows h some is =
    let r = row_at rows 0 in
    let p : Corner = record { x = pos r.left; y = pos r.y } in
    let q : Corner = record { x = pos r.left; y = pos (r.y + 1) } in
    hull_of_two (IsCornerOfRows rows (length rows)) h p q is (corner_in rows some) (corner_below rows some) (apart p q r.y refl refl)

-- the row with a place lies no higher than that
low : (rows : List Row) → AreRows rows → (k : ℕ) → k < length rows → k ≤ (row_at rows k).y
low rows are zero l = omega arith
low rows are (suc k) l = (let r = are.rising k (suc k) (omega arith) l in let i = low rows are k (omega (arith, l)) in omega (arith, r, i))

-- rows of a box are few
pub few_rows : (rows : List Row) (u : Row) (a : Line) → AreRows rows → 1 ≤ length rows → u ≡ row_at rows (length rows - 1) → a ≡ below u → IsShortLine a
    → length rows ≤ 2 ^ 16
few_rows rows u a are some up is short =
    let n = length rows - 1 in
    let l = low rows are n (omega (arith, some)) in
    let e = ap (λ (r : Row). r.y) up in
    let s = subst (λ (z : Line). unsigned_abs z.y ≤ 2 ^ 16) is short.first.y in
    omega (arith, ints, l, e, s, some)

-- ---- widths

pub across_sign : (h : List Corner) (w : Width) → IsConvex h → IsOfSide h w → pos 0 ≤ℤ w.across
across_sign h w is o = subst (λ z. pos 0 ≤ℤ z) (sym o.across) (is.left w.side (vertex h o.far) o.side (is.of o.far o.reach.within))

pub length_sign : (h : List Corner) (w : Width) → HaveLengths h → IsOfSide h w → pos 0 <ℤ w.length
length_sign h w l o = subst (λ z. pos 0 <ℤ z) (sym o.squared) (l.each w.side o.side)

pub whole : (z : ℤ) → pos 0 ≤ℤ z → pos (nat_abs z) ≡ z
whole z l = omega (arith, ints, l)

pub above_zero : (z : ℤ) → pos 0 <ℤ z → 0 < nat_abs z
above_zero z l = omega (arith, ints, l)
