-- Naive lines and planes of digital geometry, with whole parameters (Reveillès; Klette and Rosenfeld, Digital Geometry).
-- Every definition serves each number of axes; none may name a type of the program.
use Rattle.std.specs.Prelude.{◌≢◌, ℕ, List, ℤ, pos, ◌+ℤ◌, nat_abs, ◌≤ℤ◌, ◌<ℤ◌, All}
use Rattle.shape_terms.specs.Points.{Point, coordinate}
use Rattle.shape_terms.specs.Vectors.{dot}

-- the parameters of a naive line or plane: one coefficient for each axis, and the lower bound
pub record Naive : Type 0 where
  pub a : List ℤ
  pub mu : ℤ

-- the coefficient of the main axis t is at least 1, and no other is greater in size
pub record IsProper (t : ℕ) (n : Naive) : Type 0 where
  pub main : pos 1 ≤ℤ coordinate n.a t
  pub others : (u : ℕ) → u ≢ t → pos (nat_abs (coordinate n.a u)) ≤ℤ coordinate n.a t

-- the line or plane of the main axis t holds the point: mu ≤ a.p < mu + a_t
pub record HoldsPoint (t : ℕ) (n : Naive) (p : Point) : Type 0 where
  pub low : n.mu ≤ℤ dot n.a p
  pub high : dot n.a p <ℤ (n.mu +ℤ coordinate n.a t)

-- it holds each point of the list
abbrev pub HoldsAll : ℕ → Naive → List Point → Type 0
HoldsAll t n points = All (HoldsPoint t n) points

-- a proper naive line or plane of the axis t that holds the list
pub record IsNaiveFor (t : ℕ) (points : List Point) (n : Naive) : Type 0 where
  pub proper : IsProper t n
  pub holds : HoldsAll t n points
