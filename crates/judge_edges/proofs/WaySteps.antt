-- The signs that the steps have shown, as the laws of the terms want them, and along a longer run.
-- Stated of lists of corners; what the signs say of lines belongs elsewhere.
use Rattle.std.proofs.Common.{◌≡◌, ◌⊎◌, inl, inr, ℕ, ◌<◌, refl, sym, ◌∙◌, subst, arith, List}
use Rattle.std.specs.Prelude.{ℤ, Option, Some, None}
use Rattle.shape_terms.specs.Points.{Point}
use Rattle.edge_terms.specs.Corners.{IsSign, step_at, across_by, down_by}
use Rattle.edge_terms.proofs.ShearedRuns.{GoneBy}
use Rattle.judge_edges.specs.declared.ways.Way.{Way}
use Rattle.judge_edges.specs.declared.ways.Ways.{Ways}
use Rattle.judge_edges.specs.Ways.{sign_of, IsWayOf, AreWays}

-- ---- what the signs say

sign_is : (run : List Point) (n : ℕ) (kind : ℤ → Point) (other : Point) (o : Option Way) → IsWayOf run n kind other o → IsSign (sign_of o)
sign_is run n kind other (Some w) h = h.sign
sign_is run n kind other None h = inl refl

kind_is : (run : List Point) (n : ℕ) (kind : ℤ → Point) (other : Point) (o : Option Way) → IsWayOf run n kind other o
    → ((i : ℕ) × (i < n) × (step_at run i ≡ kind (sign_of o))) ⊎ ((i : ℕ) → i < n → step_at run i ≡ other)
kind_is run n kind other (Some w) h = inl (w.place, h.place, h.step)
kind_is run n kind other None h = inr h

pub gone_of : (run : List Point) (n : ℕ) (w : Ways) → AreWays run n w → GoneBy run n (sign_of w.across) (sign_of w.down)
gone_of run n w h = record {
  h_sign = sign_is run n across_by (down_by (sign_of w.down)) w.across h.across;
  v_sign = sign_is run n down_by (across_by (sign_of w.across)) w.down h.down;
  across = kind_is run n across_by (down_by (sign_of w.down)) w.across h.across;
  down = kind_is run n down_by (across_by (sign_of w.across)) w.down h.down;
  steps = h.steps;
}

-- no step has been taken
pub no_ways : (run : List Point) (w : Ways) → w.across ≡ None → w.down ≡ None → AreWays run 0 w
no_ways run w a d = subst (AreWays run 0) (λ i. record { across = sym a i; down = sym d i })
    (record { across = λ i l. absurd (omega arith); down = λ i l. absurd (omega arith); steps = λ i l. absurd (omega arith) })

-- the same steps stand in a longer run
pub ways_along : (xs ys : List Point) (n : ℕ) (w : Ways) → ((i : ℕ) → i < n → step_at ys i ≡ step_at xs i) → AreWays xs n w → AreWays ys n w
ways_along xs ys n w same h = record {
  across = along across_by (down_by (sign_of w.down)) w.across h.across;
  down = along down_by (across_by (sign_of w.across)) w.down h.down;
  steps = λ i l. elim (h.steps i l) [ inl e ↦ inl (same i l ∙ e) | inr e ↦ inr (same i l ∙ e) ];
}
  where
    along : (kind : ℤ → Point) (other : Point) (o : Option Way) → IsWayOf xs n kind other o → IsWayOf ys n kind other o
    along kind other (Some k) h = record { sign = h.sign; place = h.place; step = same k.place h.place ∙ h.step }
    along kind other None h = λ i l. same i l ∙ h i l
