use Rattle.std.proofs.Common.{arith, pos}
use Rattle.std.proofs.lemmas.Int.{ints}
use Rattle.shape_crack.specs.declared.contour.TheConstants.{GREATEST_SIDE}
use Rattle.shape_crack.proofs.Pixels.{object_within, room, room_beside}
use Rattle.shape_crack.proofs.crack.successor.Goals as goal

pub neighbour-ahead-requires : goal.neighbour-ahead-requires
neighbour-ahead-requires c =
    room c.args.c.p (object_within (pos GREATEST_SIDE) c.args.grid.now c.args.c.p c.is_picture.ensures.in_range (omega (arith, ints)) c.requires.pixel)

pub neighbour-requires : goal.neighbour-requires
neighbour-requires c =
    room c.args.c.p (object_within (pos GREATEST_SIDE) c.args.grid.now c.args.c.p c.is_picture.ensures.in_range (omega (arith, ints)) c.requires.pixel)

pub neighbour-across-requires : goal.neighbour-across-requires
neighbour-across-requires c =
    room_beside c.args.c.p c.neighbour.result
    (object_within (pos GREATEST_SIDE) c.args.grid.now c.args.c.p c.is_picture.ensures.in_range (omega (arith, ints)) c.requires.pixel)
    c.neighbour.ensures.x_near c.neighbour.ensures.y_near
