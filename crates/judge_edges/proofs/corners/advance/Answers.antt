use Rattle.std.proofs.Common.{arith, pos}
use Rattle.std.proofs.lemmas.Int.{ints}
use Rattle.shape_terms.specs.Limits.{most_flat}
use Rattle.shape_crack.proofs.Pixels.{object_within, room}
use Rattle.judge_edges.proofs.corners.advance.Goals as goal

pub corner-requires : goal.corner-requires
corner-requires c =
    room c.args.c.p (object_within (pos most_flat) c.args.grid.now c.args.c.p c.is_picture.ensures.in_range (omega (arith, ints)) c.requires.pixel)
