use Rattle.std.proofs.Common.{◌≡◌, ◌<◌, ℕ, Some}
use Rattle.std.specs.Prelude.{slice_get}
use Rattle.shape_terms.specs.Shelves.{names_of}
use Rattle.shape_cli.proofs.names.find_rule.Given as goal

abbrev pub invariant-loop-i : goal.invariant-loop-i
invariant-loop-i g l = (j : ℕ) → j < l.i → slice_get (names_of l.shelf) j ≡ Some l.word → ⊥
