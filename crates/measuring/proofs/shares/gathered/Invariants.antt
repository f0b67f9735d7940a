use Rattle.std.proofs.Common.{◌≡◌, ◌*◌, ◌≤◌}
use Rattle.measure_terms.specs.Shares as Terms
use Rattle.measuring.specs.Spaced.{spacing_told}
use Rattle.measuring.specs.Fan.{most_given}
use Rattle.measuring.proofs.shares.gathered.Given as goal

abbrev pub invariant-loop-i : goal.invariant-loop-i
invariant-loop-i l = record {
  value : l.sum ≡ Terms.gathered (spacing_told l.spacing) l.i l.class;
  small : l.sum ≤ l.i * most_given;
}
