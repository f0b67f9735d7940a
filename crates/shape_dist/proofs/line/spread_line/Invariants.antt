use Rattle.std.proofs.Common.{◌≡◌, ℕ, ◌+◌, ◌-◌, ◌<◌, ◌≤◌}
use Rattle.shape_dist.specs.Spreads.{found, HasSpreadBefore}
use Rattle.shape_dist.proofs.line.spread_line.Given as goal

abbrev pub invariant-loop-x : goal.invariant-loop-x
invariant-loop-x g l = record {
  within : l.x ≤ l.n;
  spread : HasSpreadBefore g.T.Spreading.keeping (λ y. found g.T.Spreading.keeping l.initial.cells (l.base + y))
      (λ y. found g.T.Spreading.keeping l.cells (l.base + y))
      l.n l.x;
  others : (i : ℕ) → ((x : ℕ) → x < l.n → i ≡ l.base + x → ⊥) → found g.T.Spreading.keeping l.cells i ≡ found g.T.Spreading.keeping l.initial.cells i;
}

abbrev pub decreases-loop-x : goal.decreases-loop-x
decreases-loop-x g l = l.n - l.x
