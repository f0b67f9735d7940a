use Rattle.std.proofs.Common.{◌≡◌, take, drop}
use Rattle.shape_desk.specs.Files.{texts}
use Rattle.shape.specs.Slips as slips
use Rattle.shape.proofs.slip.slip_in.Given as goal

abbrev pub invariant-loop-i : goal.invariant-loop-i
invariant-loop-i l = slips.slip_behind (take l.i (texts l.words)) (drop l.i (texts l.words)) ≡ slips.slip_in (texts l.words)
