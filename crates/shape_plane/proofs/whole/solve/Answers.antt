use Rattle.std.proofs.Common.{map, ap, ◌∙◌, refl, arith}
use Rattle.std.proofs.lemmas.List.{take_all}
use Rattle.shape_plane.specs.Systems.{rows_for}
use Rattle.shape_plane.proofs.Knowing.{rows_next}
use Rattle.shape_plane.proofs.whole.solve.Goals as goal

pub loop-i-init : goal.loop-i-init
loop-i-init g c = c.in_ok-known.ensures

pub add-requires-clause-pair : goal.add-requires-clause-pair
add-requires-clause-pair g c = c.requires.pairs c.loop-i.i _ (omega arith)

pub loop-i-preserved : goal.loop-i-preserved
loop-i-preserved g c =
    rows_next c.args.axis (map g.P.Point.coords c.args.points.now) c.args.pairs.now c.loop-i.i _ _ c.loop-i.known c.add.new.self (omega arith) refl
    c.loop-i.invariant c.in_ok-add.ensures.added

pub returns : goal.returns
returns g c =
    c.solve.ensures c.args.pairs.now c.requires.pairs
    (c.loop-i.invariant ∙ ap (rows_for c.args.axis (map g.P.Point.coords c.args.points.now)) (take_all c.loop-i.i c.args.pairs.now (omega arith)))
