use Rattle.std.proofs.Common.{◌+◌, ◌%◌, ◌^◌, ◌<◌, ◌∙◌, arith, length, ap}
use Rattle.shape_terms.specs.Points.{sides_of, box_count}
use Rattle.shape_plane.proofs.Neighbours.{behind}
use Rattle.shape_plane.proofs.around.Around.has_behind.Goals as goal

pub returns-then-q-len : goal.returns-then-q-len
returns-then-q-len g c o =
    let near = c.args.self.now.near.now in
    c.has_number.ensures ∙ (behind c.args.left.now (sides_of (g.P.Point.coords near.sides.lengths)) near.gaps.items (g.P.Point.coords c.args.self.now.point)
    c.args.self.now.number c.args.n c.index.result.now c.requires.left near.fit c.args.self.now.place c.requires.known c.index.ensures o).1

pub returns-else-q-len : goal.returns-else-q-len
returns-else-q-len g c o =
    let near = c.args.self.now.near.now in
    let b : (c.args.self.now.number + c.index.result.now) % 2 ^ 32 < box_count c.args.left.now.sides =
    (behind c.args.left.now (sides_of (g.P.Point.coords near.sides.lengths)) near.gaps.items (g.P.Point.coords c.args.self.now.point)
    c.args.self.now.number c.args.n c.index.result.now c.requires.left near.fit c.args.self.now.place c.requires.known c.index.ensures o).0 in
    let v = ap length c.values.ensures in
    absurd (omega (arith, b, v, c.is_picture.ensures.picture.filled, c.len.ensures, c.if-q-len.false))
