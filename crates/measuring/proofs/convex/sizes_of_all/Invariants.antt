use Rattle.measuring.specs.Sizes.{HaveSizes}
use Rattle.measuring.proofs.convex.sizes_of_all.Given as goal

abbrev pub invariant-loop-outline : goal.invariant-loop-outline
invariant-loop-outline l = HaveSizes l.outlines l.outline-index l.all.items
