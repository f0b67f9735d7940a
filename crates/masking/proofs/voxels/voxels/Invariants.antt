use Rattle.std.proofs.Common.{◌≡◌, map, take}
use Rattle.masking.specs.Pictures.{shade}
use Rattle.masking.proofs.voxels.voxels.Given as goal

abbrev pub invariant-loop-i : goal.invariant-loop-i
invariant-loop-i l = l.out.items ≡ map shade (take l.i l.grid.values)
