-- The hull of a set is that of all that lies between two of its corners in their lines.
-- For those who find the hull of the ends of lines alone.
use Rattle.std.proofs.Common.{◌≡◌, List, sym, subst, arith}
use Rattle.std.proofs.Math.IntN.{ℤ, pos, ◌-ℤ◌, neg_ℤ}
use lib.Signed.{◌<ℤ◌, ◌≤ℤ◌}
use Rattle.std.proofs.lemmas.Int.{ints, by_lt_z}
use Rattle.shape_terms.proofs.Products.{rings}
use Rattle.shape_terms.proofs.Order.{mul-nonneg}
use Rattle.measure_terms.specs.Hulls.{Corner, IsHull, IsUpTo, end, turn, vertex}
use Rattle.measuring.specs.Corners.{AreEndsOf}
use Rattle.measure_terms.proofs.Turns.{det}

-- ---- between two points of a row

in_row : (dx dy x y a b : ℤ) → a ≤ℤ x → x ≤ℤ b → pos 0 ≤ℤ det dx dy a y → pos 0 ≤ℤ det dx dy b y → pos 0 ≤ℤ det dx dy x y
in_row dx dy x y a b h k l m =
    by_lt_z (pos 0) dy
    (λ (g : pos 0 <ℤ dy). let n = mul-nonneg dy (b -ℤ x) (omega (arith, ints, g)) (omega (arith, ints, k)) in omega (arith, ints, rings, n, m))
    (λ (g : dy ≤ℤ pos 0). let n = mul-nonneg (neg_ℤ dy) (x -ℤ a) (omega (arith, ints, g)) (omega (arith, ints, h)) in omega (arith, ints, rings, n, l))

level : (u v a p : Corner) → a.y ≡ p.y → pos 0 ≤ℤ turn u v a → pos 0 ≤ℤ det (v.x -ℤ u.x) (v.y -ℤ u.y) (a.x -ℤ u.x) (p.y -ℤ u.y)
level u v a p e h = subst (λ z. pos 0 ≤ℤ det (v.x -ℤ u.x) (v.y -ℤ u.y) (a.x -ℤ u.x) (z -ℤ u.y)) e h

left_between : (u v a b p : Corner) → a.y ≡ p.y → b.y ≡ p.y → a.x ≤ℤ p.x → p.x ≤ℤ b.x → pos 0 ≤ℤ turn u v a → pos 0 ≤ℤ turn u v b → pos 0 ≤ℤ turn u v p
left_between u v a b p e f h k l m =
    in_row (v.x -ℤ u.x) (v.y -ℤ u.y) (p.x -ℤ u.x) (p.y -ℤ u.y) (a.x -ℤ u.x) (b.x -ℤ u.x) (omega (arith, ints, h)) (omega (arith, ints, k)) (level u v a p e l)
    (level u v b p f m)

up_then : (p q r : Corner) → IsUpTo p q → IsUpTo q r → IsUpTo p r
up_then p q r h k =
    let a = h.row in
    let b = k.row in
    record {
      row = omega (arith, ints, a, b);
      column = λ e. (let c = h.column (omega (arith, ints, a, b, e)) in let d = k.column (omega (arith, ints, a, b, e)) in omega (arith, ints, c, d));
    }

in_order : (p q : Corner) → p.y ≡ q.y → p.x ≤ℤ q.x → IsUpTo p q
in_order p q e h = record { row = omega (arith, ints, e); column = λ f. h }

-- the hull of the ends of the lines of a set is that of the set
pub hull_of_ends : (S T : Corner → Type 0) (h : List Corner) → AreEndsOf S T → IsHull T h → IsHull S h
hull_of_ends S T h ends is = record {
  of = λ i l. ends.of (vertex h i) (is.of i l);
  left = λ i p l s. (
      let b = ends.hold p s in
      left_between (vertex h i) (end h i) b.left b.right p b.left_row b.right_row b.behind b.before (is.left i b.left l b.left_in)
      (is.left i b.right l b.right_in));
  turns = is.turns;
  far = is.far;
  once = is.once;
  first = λ p s. (let b = ends.hold p s in up_then (vertex h 0) b.left p (is.first b.left b.left_in) (in_order b.left p b.left_row b.behind));
  last = λ p s. (let b = ends.hold p s in up_then p b.right (vertex h is.far) (in_order p b.right (sym b.right_row) b.before) (is.last b.right b.right_in));
}
