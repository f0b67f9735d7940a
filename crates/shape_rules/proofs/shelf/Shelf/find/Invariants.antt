use Rattle.std.proofs.Common.{◌≡◌, ◌<◌, ℕ, get_or}
use Rattle.shape_rules.specs.Names.{word_of}
use Rattle.shape_rules.proofs.shelf.Shelf.find.Given as goal

abbrev pub invariant-loop-i : goal.invariant-loop-i
invariant-loop-i g l = (j : ℕ) → j < l.i → (d : _) → word_of (get_or l.self-inside.entries.items j d).name ≡ word_of l.name → ⊥
