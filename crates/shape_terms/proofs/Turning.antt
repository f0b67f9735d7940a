-- Steps in directions, turning along the edge of a set, and going on by a function.
-- All of it is over any places and directions, so that it serves whatever a crack is.
use Rattle.std.specs.Prelude.{◌≡◌, ℕ, zero, suc, ◌<◌, ◌≤◌, Bool, true, false}

pub record Moves (P D : Type 0) : Type 0 where
  pub step : D → P → P
  pub right : D → D
  pub left : D → D

-- the laws of steps and turns; V holds of the directions that there are
pub record MoveLaws {P D : Type 0} (m : Moves P D) (V : D → Type 0) : Type 0 where
  pub right_good : (d : D) → V d → V (m.right d)
  pub left_good : (d : D) → V d → V (m.left d)
  pub right_left : (d : D) → V d → m.right (m.left d) ≡ d
  pub left_right : (d : D) → V d → m.left (m.right d) ≡ d
  pub round : (d : D) → V d → m.right (m.right (m.right d)) ≡ m.left d
  -- two right turns point back
  pub there_and_back : (d : D) (p : P) → V d → m.step (m.right (m.right d)) (m.step d p) ≡ p
  pub across : (d : D) (p : P) → V d → m.step d (m.step (m.right d) p) ≡ m.step (m.right d) (m.step d p)

module _ {P D : Type 0} (m : Moves P D) (X : P → Bool) where
  -- p is in the set, and its neighbour in the direction d is not
  abbrev pub IsEdge : (D → Type 0) → P → D → Type 0
  IsEdge V p d = (V d) × (X p ≡ true) × (X (m.step d p) ≡ false)

  -- the edge ahead of one at p, where A is the place ahead, B the one ahead and across, and a and b say whether these are in the set
  abbrev pub ahead_by : Bool → Bool → P → P → P → D → P × D
  ahead_by true a p A B d = (B, m.left d)
  ahead_by false true p A B d = (A, d)
  ahead_by false false p A B d = (p, m.right d)

  abbrev pub edge_ahead : P → D → P × D
  edge_ahead p d = ahead_by (X (m.step (m.right d) (m.step d p))) (X (m.step (m.right d) p)) p (m.step (m.right d) p) (m.step (m.right d) (m.step d p)) d

  -- the edge behind one at p, in the same way
  abbrev pub behind_by : Bool → Bool → P → P → P → D → P × D
  behind_by true a p A B d = (B, m.right d)
  behind_by false true p A B d = (A, d)
  behind_by false false p A B d = (p, m.left d)

  abbrev pub edge_behind : P → D → P × D
  edge_behind p d = behind_by (X (m.step (m.left d) (m.step d p))) (X (m.step (m.left d) p)) p (m.step (m.left d) p) (m.step (m.left d) (m.step d p)) d

-- n steps of f from c
abbrev pub iterate : {C : Type 0} → (C → C) → ℕ → C → C
iterate f zero c = c
iterate f (suc n) c = f (iterate f n c)

-- a map into K, one to one there, and a number for each of K
pub record Turns {C : Type 0} (f : C → C) (K : C → Type 0) (code : C → ℕ) (N : ℕ) : Type 0 where
  pub stays : (c : C) → K c → K (f c)
  pub one_to_one : (c d : C) → K c → K d → f c ≡ f d → c ≡ d
  pub below : (c : C) → K c → code c < N
  pub apart : (c d : C) → K c → K d → code c ≡ code d → c ≡ d

-- n steps from c lead back to c, and no fewer do
abbrev pub Cycle : {C : Type 0} → (C → C) → C → ℕ → Type 0
Cycle f c n = (1 ≤ n) × (iterate f n c ≡ c) × ((j : ℕ) → 1 ≤ j → j < n → iterate f j c ≡ c → ⊥)
