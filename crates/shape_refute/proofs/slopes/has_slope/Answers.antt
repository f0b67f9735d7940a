use Rattle.std.proofs.Common.{rules, FitsSigned}
use Rattle.std.specs.Int.{w64}
use Rattle.std.proofs.lemmas.Int.{to_z-of_z}
use Rattle.shape_refute.proofs.Ranges.{slope_in, in_slope}
use Rattle.shape_refute.proofs.slopes.has_slope.Goals as goal

pub returns : goal.returns
returns c =
    let a = c.args in
    let i = c.is_some.ensures in
    let fb : FitsSigned w64 c.args.b = c.ranges.b in
    let f1 : FitsSigned w64 c.args.first.side = search rules in
    let f2 : FitsSigned w64 c.args.first.room = search rules in
    let f3 : FitsSigned w64 c.args.second.side = search rules in
    let f4 : FitsSigned w64 c.args.second.room = search rules in
    let f5 : FitsSigned w64 c.less.result = search rules in
    let f6 : FitsSigned w64 c.less-2.result = search rules in
    let bl = simp to_z-of_z at c.up_to_size.ensures.low in
    let bh = simp to_z-of_z at c.up_to_size.ensures.high in
    let l1 = simp to_z-of_z at c.less.ensures.value in
    let l2 = simp to_z-of_z at c.less-2.ensures.value in
    let n1 = simp to_z-of_z at c.narrowed-some.ensures in
    let n2 = simp to_z-of_z at c.narrowed.ensures in (
      (λ t. slope_in a.b a.first.side a.first.room a.second.side a.second.room c.requires.some _ _ l1 l2 _ _ _ _ _ _ bl bh n1 n2 (i.0 t)),
      λ k. i.1 (in_slope a.b a.first.side a.first.room a.second.side a.second.room c.requires.some _ _ l1 l2 _ _ _ _ _ _ bl bh n1 n2 k),
    )
