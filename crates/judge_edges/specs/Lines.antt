-- The program's standard lines as the lines of the terms.
-- Which corners a line holds stands in the terms.
use Rattle.std.specs.Prelude.{pos, ◌≤ℤ◌, nat_abs}
use Rattle.edge_terms.specs.EdgeStraight.{Standard as Term}
use Rattle.judge_edges.specs.declared.standard.Standard.{Standard}

abbrev pub standard_of : Standard → Term
standard_of s = record { h = s.h; v = s.v; a = nat_abs s.a; c = nat_abs s.c; mu = s.mu }

-- neither coefficient is negative
pub record IsNatural (s : Standard) : Type 0 where
  pub a : pos 0 ≤ℤ s.a
  pub c : pos 0 ≤ℤ s.c
