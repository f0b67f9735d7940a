-- A run along which a coordinate goes one way has no turn, and one that is straight for an axis is straight.
-- Which runs have a line stands elsewhere.
use Rattle.std.proofs.Common.{ℕ, zero, suc, ◌<◌, List, inl, inr, arith}
use Rattle.shape_terms.specs.Points.{Point}
use Rattle.shape_terms.specs.Turns.{IsTurn}
use Rattle.shape_terms.specs.Straight.{KeepsSense, IsStraightFor, IsStraight}

pub sense_no_turn : (t : ℕ) (run : List Point) → KeepsSense t run → (i j : ℕ) → IsTurn t run i j → ⊥
sense_no_turn t run (inl h) i j u = u.not_forward (h i u.first, h j u.second)
sense_no_turn t run (inr h) i j u = u.not_backward (h i u.first, h j u.second)

-- a run that is straight for one of two axes is straight
pub straight_for : (t : ℕ) (run : List Point) → t < 2 → IsStraightFor t run → IsStraight run
straight_for zero run l h = inl h
straight_for (suc zero) run l h = inr h
straight_for (suc (suc t)) run l h = absurd (omega arith)
