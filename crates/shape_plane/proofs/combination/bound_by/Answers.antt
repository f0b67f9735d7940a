use Rattle.std.proofs.Common.{rules, FitsSigned, sym}
use Rattle.std.specs.Int.{w64}
use Rattle.std.proofs.lemmas.Int.{to_z-of_z}
use Rattle.shape_plane.proofs.Together.{combined_small}
use Rattle.shape_plane.proofs.combination.bound_by.Goals as goal

pub returns : goal.returns
returns c =
    let f1 : FitsSigned w64 c.args.a.x = search rules in
    let f2 : FitsSigned w64 c.args.a.y = search rules in
    let f3 : FitsSigned w64 c.args.a.z = search rules in
    let f4 : FitsSigned w64 c.args.b.x = search rules in
    let f5 : FitsSigned w64 c.args.b.y = search rules in
    let f6 : FitsSigned w64 c.args.b.z = search rules in
    let f7 : FitsSigned w64 c.size-v.result = search rules in
    let f8 : FitsSigned w64 c.size-w.result = search rules in
    let f9 : FitsSigned w64 c.combine.result = search rules in
    let f0 : FitsSigned w64 c.combine-2.result = search rules in
    let v = simp to_z-of_z at c.size-v.ensures.value in
    let w = simp to_z-of_z at c.size-w.ensures.value in
    let sx = simp to_z-of_z at c.combine.ensures.size in
    let sz = simp to_z-of_z at c.combine-2.ensures.size in
    let small = combined_small c.args.a c.args.b c.size-v.result c.size-w.result c.combine.result c.combine-2.result c.requires.first c.requires.second v w sx
    sz in
    record {
      x = rw (sym v, sym w) (simp to_z-of_z (simp to_z-of_z at c.combine.ensures.value));
      z = rw (sym v, sym w) (simp to_z-of_z (simp to_z-of_z at c.combine-2.ensures.value));
      x_small = simp to_z-of_z small.0;
      z_small = simp to_z-of_z small.1;
    }
