use Rattle.std.proofs.Common.{◌≡◌, ◌≤◌, ◌+◌, ◌*◌, ◌^◌, drop}
use Rattle.shape_terms.specs.Refutations.{total_weight}
use Rattle.shape_refute.proofs.refutation.total.Given as goal

abbrev pub invariant-loop-i : goal.invariant-loop-i
invariant-loop-i l = (l.weight ≡ total_weight (drop l.i l.shares)) × (l.weight + l.i * 2 ^ 64 ≤ 4 * 2 ^ 64)
