-- Sizes of turns and lengths of corners that lie in a box.
-- Numbers alone.
use Rattle.std.proofs.Common.{◌^◌, ◌≤◌, unsigned_abs, arith}
use Rattle.std.proofs.Math.IntN.{ℤ, ◌+ℤ◌, ◌-ℤ◌, ◌*ℤ◌}
use Rattle.std.proofs.lemmas.Int.{ints, unsigned_abs-mul}
use Rattle.std.proofs.lemmas.Nat.{mul-le}
use Rattle.measure_terms.specs.Hulls.{Corner, turn}
use Rattle.measure_terms.specs.Polygons.{squared_length}
use Rattle.measuring.specs.Corners.{IsShort}

gap : (x y : ℤ) → unsigned_abs x ≤ 2 ^ 16 → unsigned_abs y ≤ 2 ^ 16 → unsigned_abs (y -ℤ x) ≤ 2 ^ 17
gap x y a b = omega (arith, ints, a, b)

product : (x y : ℤ) → unsigned_abs x ≤ 2 ^ 17 → unsigned_abs y ≤ 2 ^ 17 → unsigned_abs (x *ℤ y) ≤ 2 ^ 34
product x y a b = (let e = unsigned_abs-mul x y in let l = mul-le (unsigned_abs x) (unsigned_abs y) (2 ^ 17) (2 ^ 17) a b in omega (arith, e, l))

difference : (x y : ℤ) → unsigned_abs x ≤ 2 ^ 34 → unsigned_abs y ≤ 2 ^ 34 → unsigned_abs (x -ℤ y) ≤ 2 ^ 35
difference x y a b = omega (arith, ints, a, b)

sum : (x y : ℤ) → unsigned_abs x ≤ 2 ^ 34 → unsigned_abs y ≤ 2 ^ 34 → unsigned_abs (x +ℤ y) ≤ 2 ^ 35
sum x y a b = omega (arith, ints, a, b)

pub small_turn : (a b c : Corner) → IsShort a → IsShort b → IsShort c → unsigned_abs (turn a b c) ≤ 2 ^ 35
small_turn a b c h k l =
    difference ((b.x -ℤ a.x) *ℤ (c.y -ℤ a.y)) ((b.y -ℤ a.y) *ℤ (c.x -ℤ a.x))
    (product (b.x -ℤ a.x) (c.y -ℤ a.y) (gap a.x b.x h.x k.x) (gap a.y c.y h.y l.y))
    (product (b.y -ℤ a.y) (c.x -ℤ a.x) (gap a.y b.y h.y k.y) (gap a.x c.x h.x l.x))

pub small_length : (p q : Corner) → IsShort p → IsShort q → unsigned_abs (squared_length p q) ≤ 2 ^ 35
small_length p q h k =
    sum ((q.x -ℤ p.x) *ℤ (q.x -ℤ p.x)) ((q.y -ℤ p.y) *ℤ (q.y -ℤ p.y))
    (product (q.x -ℤ p.x) (q.x -ℤ p.x) (gap p.x q.x h.x k.x) (gap p.x q.x h.x k.x))
    (product (q.y -ℤ p.y) (q.y -ℤ p.y) (gap p.y q.y h.y k.y) (gap p.y q.y h.y k.y))
