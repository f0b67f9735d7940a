use Rattle.std.proofs.Common.{rules, FitsSigned}
use Rattle.std.specs.Int.{w64}
use Rattle.std.proofs.lemmas.Int.{to_z-of_z}
use Rattle.shape_plane.proofs.Together.{not_flat, not_flat_back, combined_of}
use Rattle.shape_plane.proofs.combination.combined.Goals as goal

pub steep-a-requires-clause-steep : goal.steep-a-requires-clause-steep
steep-a-requires-clause-steep c = not_flat _ _ c.requires.opposite

pub steep-b-requires-clause-steep : goal.steep-b-requires-clause-steep
steep-b-requires-clause-steep c = not_flat_back _ _ c.requires.opposite

pub returns-clause-combination : goal.returns-clause-combination
returns-clause-combination c =
    let f1 : FitsSigned w64 c.size.result = search rules in
    let f2 : FitsSigned w64 c.size-2.result = search rules in
    let f3 : FitsSigned w64 c.steep-a.result.y = search rules in
    let f4 : FitsSigned w64 c.steep-b.result.y = search rules in
    let v = simp to_z-of_z at c.size.ensures.value in
    let w = simp to_z-of_z at c.size-2.ensures.value in
    simp to_z-of_z (combined_of c.args.rows.now c.args.i c.args.j c.size.result c.size-2.result c.bound_by.result c.steep-a.result c.steep-b.result
    c.requires.first c.requires.second c.steep-a.ensures.row c.steep-b.ensures.row c.steep-a.ensures.steep c.steep-b.ensures.steep
    c.requires.opposite c.requires.pair v w c.bound_by.ensures.x c.bound_by.ensures.z c.bound_by.ensures.x_small c.bound_by.ensures.z_small)
