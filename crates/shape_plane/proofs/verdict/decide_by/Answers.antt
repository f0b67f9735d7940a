use Rattle.std.proofs.Common.{map, length}
use Rattle.shape_plane.specs.Pairs.{pair_row}
use Rattle.shape_plane.proofs.Deciding.{rows_more, grown_none, grown_more, grown_after}
use Rattle.shape_plane.proofs.verdict.decide_by.Goals as goal

pub returns-in_err-add-clause-grown : goal.returns-in_err-add-clause-grown
returns-in_err-add-clause-grown g c =
    grown_more (length c.args.points.now) c.args.axis (map g.P.Point.coords c.args.points.now) c.args.known.now c.args.known.now c.add.new.self c.args.pair
    (grown_none (length c.args.points.now) c.args.axis (map g.P.Point.coords c.args.points.now) c.args.known.now c.requires.known) c.requires.pair
    c.add.ensures.either

pub decide_with-requires-clause-known : goal.decide_with-requires-clause-known
decide_with-requires-clause-known g c =
    rows_more (length c.args.points.now) c.args.axis (map g.P.Point.coords c.args.points.now) c.args.known.now c.add.new.self c.args.pair c.requires.known
    c.requires.pair c.in_ok-add.ensures.added

pub returns-clause-grown : goal.returns-clause-grown
returns-clause-grown g c =
    grown_after (length c.args.points.now) c.args.axis (map g.P.Point.coords c.args.points.now) c.args.known.now c.add.new.self c.decide_with.new.known
    (pair_row c.args.axis (map g.P.Point.coords c.args.points.now) c.args.pair) c.in_ok-add.ensures.added c.decide_with.ensures.grown
