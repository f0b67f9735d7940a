use Rattle.std.proofs.Common.{rules, FitsSigned, refl}
use Rattle.std.specs.Int.{w64}
use Rattle.std.proofs.lemmas.Int.{to_z-of_z}
use Rattle.shape_plane.proofs.Narrowing.{not_less}
use Rattle.shape_plane.proofs.Holding.{is_kept, is_broken}
use Rattle.shape_plane.proofs.held.judged.Goals as goal

pub returns-then-are_close : goal.returns-then-are_close
returns-then-are_close g c =
    let f : FitsSigned w64 c.args.e.low.value = search rules in
    let m = simp to_z-of_z at c.with_axis.ensures.mu in
    λ points x. is_kept g.P.Point.DIM c.args.axis points c.args.a.now c.with_axis.result c.args.e c.requires.axis c.requires.proper c.requires.small x
    c.with_axis.ensures.axis c.with_axis.ensures.a m (c.are_close.ensures.0 c.if-are_close.true)

pub returns-else-are_close : goal.returns-else-are_close
returns-else-are_close g c = λ points x. is_broken g.P.Point.DIM c.args.axis points c.args.a.now c.args.e _ c.requires.axis x refl refl
    (not_less c.are_close.result _ _ c.are_close.ensures c.if-are_close.false)
