use Rattle.std.proofs.Common.{◌≡◌, ◌%◌, [], length, subst, sym, ℕ}
use Rattle.std.specs.Prelude.{slice_get, Some}
use Rattle.std.proofs.lemmas.Option.{get_or_from_slice_get}
use Rattle.edge_terms.specs.Corners.{IsCorner}
use Rattle.edge_terms.proofs.CornerPlaces.{is_corner}
use Rattle.shape_crack.specs.Terms.{point_of}
use Rattle.judge_edges.proofs.corners.Corners.corner_on.Goals as goal

pub returns : goal.returns
returns c =
    let path = c.args.self.now in
    let n = c.len-n.ensures in
    let s = subst (λ (n : ℕ). slice_get path (c.args.i % n) ≡ Some (point_of c.corner.result)) n.value c.corner.ensures in
    let e = get_or_from_slice_get path (c.args.i % length path) (point_of c.corner.result) [] s in
    record { value = sym e; corner = subst IsCorner e (is_corner path n.path c.args.i) }
