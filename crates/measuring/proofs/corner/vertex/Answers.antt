use Rattle.std.proofs.Common.{sym, subst, arith}
use Rattle.std.proofs.lemmas.List.{length-map}
use Rattle.measuring.specs.Corners.{corner, IsShort}
use Rattle.measuring.proofs.corner.vertex.Goals as goal

pub returns-clause-short : goal.returns-clause-short
returns-clause-short c = λ h. (
    let l = c.requires in
    let all = length-map c.args.round.now corner in
    subst IsShort (sym c.read.ensures) (h.each c.args.i (omega (arith, l, all))))
