use Rattle.std.proofs.Common.{◌≡◌, ℕ, ◌+◌, ◌-◌, ◌*◌, ◌<◌, ◌≤◌, length}
use Rattle.shape_dist.specs.Spreads.{found, HasSpreadBefore}
use Rattle.shape_dist.proofs.spread.spread_block.Given as goal

abbrev pub invariant-loop-y : goal.invariant-loop-y
invariant-loop-y g l =
    let k = g.T.Spreading.keeping in
    record {
      within : l.y ≤ l.side;
      done : (j : ℕ) → j < l.lines → HasSpreadBefore k (λ y. found k l.initial.cells.values (l.base + y * l.step + j))
          (λ y. found k l.cells.values (l.base + y * l.step + j)) l.side l.y;
      others : (i : ℕ) → ((j x : ℕ) → j < l.lines → x < l.side → i ≡ l.base + x * l.step + j → ⊥)
          → found k l.cells.values i ≡ found k l.initial.cells.values i;
      long : length l.cells.values ≡ length l.initial.cells.values;
    }

abbrev pub decreases-loop-y : goal.decreases-loop-y
decreases-loop-y g l = l.side - l.y
