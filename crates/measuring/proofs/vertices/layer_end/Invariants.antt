use Rattle.std.proofs.Common.{◌≡◌, ℕ, ◌<◌, ◌≤◌}
use Rattle.measuring.specs.Sites.{site_at}
use Rattle.measuring.proofs.vertices.layer_end.Given as goal

abbrev pub invariant-loop-k : goal.invariant-loop-k
invariant-loop-k l = (i : ℕ) → l.from ≤ i → i < l.k → (site_at l.sites i).z ≡ (site_at l.sites l.from).z
