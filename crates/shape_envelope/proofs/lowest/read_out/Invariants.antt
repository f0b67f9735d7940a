use Rattle.std.proofs.Common.{ℕ, ◌+◌, ◌<◌, ◌≤◌, length, get_or, pos}
use Rattle.shape_terms.specs.Rows.{IsLowest}
use Rattle.shape_envelope.proofs.lowest.read_out.Given as goal

abbrev pub invariant-loop-x : goal.invariant-loop-x
invariant-loop-x l = record {
  there : l.k < l.m;
  started : 0 < l.x → get_or l.starts l.k 0 < l.x;
  ended : l.k + 1 < l.m → l.x ≤ get_or l.starts (l.k + 1) 0;
  written : (x : ℕ) → l.x ≤ x → x < length l.row → IsLowest l.row (pos x) (get_or l.out x 0);
}
