-- What is known of one side of a hull while its points come, in raster order or all the other way round.
-- A chain is seen as its places and how many there are.
use Rattle.std.specs.Prelude.{◌≡◌, ℕ, ◌+◌, ◌<◌, ◌≤◌, Bool, true, false, List, length, pos, ◌≤ℤ◌, ◌<ℤ◌}
use Rattle.measure_terms.specs.Hulls.{Corner, IsBefore, IsUpTo, turn, vertex}
use Rattle.measuring.specs.Corners.{IsAmong}

-- p comes before q, or is the same, one way or the other
abbrev pub Reaches : Bool → Corner → Corner → Type 0
Reaches true p q = IsUpTo p q
Reaches false p q = IsUpTo q p

-- p comes before q, one way or the other
abbrev pub Leads : Bool → Corner → Corner → Type 0
Leads true p q = IsBefore p q
Leads false p q = IsBefore q p

-- each point comes no later than those behind it, one way or the other
pub record AreInOrder (up : Bool) (points : List Corner) : Type 0 where
  pub order : (i k : ℕ) → i < k → k < length points → Reaches up (vertex points i) (vertex points k)

-- the first k places of v are points of a set, in order; all of the set lies left of each step or on it, and the steps turn left
pub record IsArch (up : Bool) (S : Corner → Type 0) (v : ℕ → Corner) (k : ℕ) : Type 0 where
  pub some : 1 ≤ k
  pub of : (i : ℕ) → i < k → S (v i)
  pub order : (i : ℕ) → i + 1 < k → Leads up (v i) (v (i + 1))
  pub left : (i : ℕ) (p : Corner) → i + 1 < k → S p → pos 0 ≤ℤ turn (v i) (v (i + 1)) p
  pub turns : (i : ℕ) → i + 2 < k → pos 0 <ℤ turn (v i) (v (i + 1)) (v (i + 2))
  pub first : (p : Corner) → S p → Reaches up (v 0) p

-- and the last place is the last point of the set
pub record IsChain (up : Bool) (S : Corner → Type 0) (v : ℕ → Corner) (k : ℕ) : Type 0 where
  pub arch : IsArch up S v k
  pub last : (i : ℕ) (p : Corner) → i + 1 ≡ k → S p → Reaches up p (v i)

-- all of the set behind the last place lies left of the way from there to a further point q, or on it
pub record IsOpen (up : Bool) (S : Corner → Type 0) (v : ℕ → Corner) (q : Corner) (k : ℕ) : Type 0 where
  pub arch : IsArch up S v k
  pub next : (i : ℕ) → i + 1 ≡ k → Leads up (v i) q
  pub rest : (i : ℕ) (p : Corner) → i + 1 ≡ k → S p → Reaches up (v i) p → pos 0 ≤ℤ turn (v i) q p

-- the first k places stay when the point q comes: the way to q turns left there
pub record IsKept (up : Bool) (S : Corner → Type 0) (v : ℕ → Corner) (q : Corner) (k : ℕ) : Type 0 where
  pub until : IsOpen up S v q k
  pub left : (i : ℕ) → i + 2 ≡ k → pos 0 <ℤ turn (v i) (v (i + 1)) q

-- the list is one side of the hull of the first n points, where they come in order
pub record IsSide (up : Bool) (points : List Corner) (n : ℕ) (h : List Corner) : Type 0 where
  pub chain : AreInOrder up points → IsChain up (IsAmong points n) (vertex h) (length h)
