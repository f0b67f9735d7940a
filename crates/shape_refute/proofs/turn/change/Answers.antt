use Rattle.std.proofs.Common.{refl, FitsSigned, rules, w32, w64}
use Rattle.std.proofs.lemmas.Int.{to_z-of_z}
use Rattle.shape_refute.proofs.turn.change.Goals as goal

pub returns : goal.returns
returns c =
    let a = c.other_at.result in
    let b = c.other_at-2.result in
    let f : FitsSigned w32 a = search rules in
    let g : FitsSigned w32 b = search rules in
    let h : FitsSigned w64 c.gap.result = search rules in
    let e = rw (to_z-of_z w32 a f, to_z-of_z w32 b g) at c.gap.ensures in
    rw (to_z-of_z w64 c.gap.result h, e, c.other_at.ensures, c.other_at-2.ensures) refl
