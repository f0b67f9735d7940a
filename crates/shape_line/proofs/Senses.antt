-- A run with no turn goes one way.
-- The other axis alone is looked at; lines belong elsewhere.
use Rattle.std.proofs.Common.{ℕ, List, length, refl, arith}
use Rattle.shape_terms.specs.Points.{Point}
use Rattle.shape_terms.specs.Turns.{IsTurn, change_at}
use Rattle.shape_terms.specs.Straight.{KeepsSense}
use Rattle.shape_line.proofs.Ways.{way_of}
use Rattle.shape_line.proofs.ShortRuns.{one_way}

pub keeps_sense : (t : ℕ) (run : List Point) → ((i j : ℕ) → IsTurn t run i j → ⊥) → KeepsSense t run
keeps_sense t run h =
    way_of t run (length run) refl
    (λ j l. one_way (change_at run t 0) (change_at run t j) (λ u. h 0 j (record { first = omega arith; second = l; not_forward = u.0; not_backward = u.1 })))
