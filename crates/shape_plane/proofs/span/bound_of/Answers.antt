use Rattle.std.proofs.Common.{◌*◌, rules, arith, FitsSigned, sym, subst}
use Rattle.std.specs.Int.{w64}
use Rattle.std.proofs.lemmas.Int.{to_z-of_z}
use Rattle.shape_terms.specs.Limits.{most_solid, plane_row}
use Rattle.shape_plane.specs.Rows.{IsSteep}
use Rattle.shape_plane.proofs.span.bound_of.Goals as goal

pub returns-clause-z_small : goal.returns-clause-z_small
returns-clause-z_small c =
    let f1 : FitsSigned w64 c.combine.result = search rules in
    let f2 : FitsSigned w64 c.read-r.result.x = search rules in
    let f3 : FitsSigned w64 c.read-r.result.z = search rules in
    let f4 : FitsSigned w64 c.args.f.num = search rules in
    let f5 : FitsSigned w64 c.args.f.den = search rules in
    let size = simp to_z-of_z at c.combine.ensures.size in
    let s : IsSteep c.read-r.result = subst IsSteep (sym c.read-r.ensures) c.requires.steep in
    simp to_z-of_z (size most_solid (2 * plane_row) (omega (arith, s.x_small)) c.requires.slope.num_small s.z_small c.requires.slope.den_small)
