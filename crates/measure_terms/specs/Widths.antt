-- The width of a set in a direction, and the least of the widths across the sides of a polygon.
-- Widths are fractions: a range of scalar products by the length of the direction, both as squares.
use Rattle.std.specs.Prelude.{◌≡◌, ℕ, ◌<◌, List, length, ℤ, pos, ◌+ℤ◌, ◌-ℤ◌, ◌*ℤ◌, ◌≤ℤ◌, ◌<ℤ◌}
use Rattle.measure_terms.specs.Hulls.{Corner, turn, vertex, end}
use Rattle.measure_terms.specs.Polygons.{squared_length}

-- ---- of a set

-- how far a corner lies along a direction, times the length of the direction
abbrev pub along : (a b : ℤ) → Corner → ℤ
along a b p = a *ℤ p.x +ℤ b *ℤ p.y

-- the direction is none
abbrev pub IsNone : (a b : ℤ) → Type 0
IsNone a b = (a ≡ pos 0) × (b ≡ pos 0)

-- the set reaches over w along a direction
pub record IsWidth (S : Corner → Type 0) (a b w : ℤ) : Type 0 where
  pub most : (p q : Corner) → S p → S q → (along a b q -ℤ along a b p) ≤ℤ w
  pub from : Corner
  pub to : Corner
  pub from_in : S from
  pub to_in : S to
  pub is : along a b to -ℤ along a b from ≡ w

-- w by the root of l is the least width of the set: no width in a direction of whole numbers is less, and one is as much
pub record IsLeastWidth (S : Corner → Type 0) (w l : ℤ) : Type 0 where
  pub least : (a b v : ℤ) → (IsNone a b → ⊥) → IsWidth S a b v → ((w *ℤ w) *ℤ (a *ℤ a +ℤ b *ℤ b)) ≤ℤ ((v *ℤ v) *ℤ l)
  pub a : ℤ
  pub b : ℤ
  pub some : IsNone a b → ⊥
  pub squared : l ≡ a *ℤ a +ℤ b *ℤ b
  pub is : IsWidth S a b w

-- ---- of a polygon

-- the direction across a side: the side turned to the left
abbrev pub across_x : Corner → Corner → ℤ
across_x p q = p.y -ℤ q.y

abbrev pub across_y : Corner → Corner → ℤ
across_y p q = q.x -ℤ p.x

-- no side is a point
pub record HaveLengths (h : List Corner) : Type 0 where
  pub each : (i : ℕ) → i < length h → pos 0 <ℤ squared_length (vertex h i) (end h i)

-- how wide a polygon is across one of its sides: the width is `across` by the root of `length`
pub record Width : Type 0 where
  -- the place of the side's first vertex
  pub side : ℕ
  -- twice the area of the greatest triangle on the side
  pub across : ℤ
  -- the square of the side's length
  pub length : ℤ

-- of the first n vertices, the turn from a side is greatest to the one with a place: it lies farthest from the side
pub record IsReach (h : List Corner) (i n far : ℕ) : Type 0 where
  pub within : far < n
  pub most : (k : ℕ) → k < n → turn (vertex h i) (end h i) (vertex h k) ≤ℤ turn (vertex h i) (end h i) (vertex h far)

-- how wide a polygon is across a side
pub record IsOfSide (h : List Corner) (w : Width) : Type 0 where
  pub side : w.side < length h
  pub squared : w.length ≡ squared_length (vertex h w.side) (end h w.side)
  pub far : ℕ
  pub reach : IsReach h w.side (length h) far
  pub across : w.across ≡ turn (vertex h w.side) (end h w.side) (vertex h far)

-- one width is less than another
pub record IsLess (v w : Width) : Type 0 where
  pub less : ((v.across *ℤ v.across) *ℤ w.length) <ℤ ((w.across *ℤ w.across) *ℤ v.length)

-- one width is no more than another
pub record IsNoMore (v w : Width) : Type 0 where
  pub less : ((v.across *ℤ v.across) *ℤ w.length) ≤ℤ ((w.across *ℤ w.across) *ℤ v.length)

-- the least width across the first n sides, at the first that has it
pub record IsLeastSide (h : List Corner) (n : ℕ) (w : Width) : Type 0 where
  pub is : IsOfSide h w
  pub within : w.side < n
  pub least : (v : Width) → IsOfSide h v → v.side < n → IsNoMore w v
  pub first : (v : Width) → IsOfSide h v → v.side < w.side → IsLess w v
